-- Rings: how the triangles at a vertex go round it.
use Rattle.std.specs.Prelude.{◌≡◌, ℕ, ◌≤◌, Bool, true, false, not, ◌&&◌, ◌==◌, nat_le, List, [], ◌∷◌, ◌++◌, map, length, take, Option, Some, None, if◌then◌else◌, suc, zero}
use Rattle.std.specs.List.{list_any, list_all, filter, flat_map}
use Rattle.std.specs.Option.{option_map_or}
use Rattle.mesh_data.specs.declared.geometry.Tri.{Tri}
use Rattle.mesh_data.specs.declared.geometry.Edge.{Edge}
use Rattle.mesh_data.specs.declared.rings.Ring.{Ring}
use Rattle.mesh_data.specs.Triangles.{same_edge}

-- the triangle, turned to start at each of its corners
abbrev pub from_each_corner : Tri → List Tri
from_each_corner t = t ∷ record { a = t.b; b = t.c; c = t.a } ∷ record { a = t.c; b = t.a; c = t.b } ∷ []

-- the link of v: of each triangle at v, turned to start at v, the edge behind it
unfoldable pub link : ℕ → List Tri → List Edge
link v ts = map (λ t. record { a = t.b; b = t.c }) (filter (λ t. t.a == v) (flat_map from_each_corner ts))

-- the steps of a path: its names, two by two
abbrev pub path_edges : List ℕ → List Edge
path_edges [] = []
path_edges (x ∷ []) = []
path_edges (x ∷ y ∷ names) = record { a = x; b = y } ∷ path_edges (y ∷ names)

-- some of these steps is this one
abbrev pub has_path_edge : List Edge → Edge → Bool
has_path_edge es e = list_any (same_edge e) es

-- no name comes twice
abbrev pub are_distinct : List ℕ → Bool
are_distinct [] = true
are_distinct (n ∷ ns) = not (list_any (λ m. m == n) ns) && are_distinct ns

-- the names, and the first of them again
abbrev pub closed_path : List ℕ → List ℕ
closed_path names = names ++ take 1 names

-- a closed ring is a path that returns
abbrev pub ring_path : Ring → List ℕ
ring_path r = if r.closed then closed_path r.names else r.names

-- the fewest names of a ring
abbrev pub fewest_names : Bool → ℕ
fewest_names closed = if closed then 3 else 2

-- different names, whose path has these steps and no others
pub record IsRingOf (es : List Edge) (r : Ring) : Type 0 where
  pub distinct : are_distinct r.names ≡ true
  pub long : fewest_names r.closed ≤ length r.names
  pub along : (e : Edge) → has_path_edge es e ≡ has_path_edge (path_edges (ring_path r)) e

-- a ring of v among these triangles
abbrev pub IsRing : List Tri → ℕ → Ring → Type 0
IsRing ts v r = IsRingOf (link v ts) r

-- the name to which the first of these steps from x leads
abbrev pub next_name : List Edge → ℕ → Option ℕ
next_name [] x = None
next_name (e ∷ es) x = if e.a == x then Some e.b else next_name es x

-- the names from x on along these steps, as far as they lead and not back begin, and at most so many
unfoldable pub way : ℕ → List Edge → ℕ → ℕ → List ℕ
way zero es begin x = []
way (suc n) es begin x = x ∷ option_map_or (λ y. if y == begin then [] else way n es begin y) (next_name es x) []

-- the names are different, and the closed path along them has these steps and no others
abbrev pub is_closed_ring : List Edge → List ℕ → Bool
is_closed_ring es names =
    let path = path_edges (closed_path names) in
    are_distinct names && nat_le 3 (length names) && list_all (has_path_edge es) path && list_all (has_path_edge path) es

-- the steps are those of a closed ring: walk along them from where the first one begins, and check
unfoldable pub go_round : List Edge → Bool
go_round [] = false
go_round (e ∷ es) = is_closed_ring (e ∷ es) (way (length (e ∷ es)) (e ∷ es) e.a e.a)

-- v has a closed ring among these triangles
abbrev pub has_closed_ring : List Tri → ℕ → Bool
has_closed_ring ts v = go_round (link v ts)
