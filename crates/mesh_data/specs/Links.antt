-- What lies next to an edge, in lists of triangles.
use Rattle.std.specs.Prelude.{ℕ, Bool, false, not, ◌&&◌, ◌||◌, ◌==◌, List, [], ◌∷◌, length, Option, Some, None}
use Rattle.std.specs.List.{list_any, find, flat_map}
use Rattle.std.specs.Option.{option_map, option_zip}
use Rattle.std.specs.Ordering.{nat_cmp}
use Rattle.mesh_data.specs.declared.geometry.Tri.{Tri}
use Rattle.mesh_data.specs.declared.geometry.Edge.{Edge}
use Rattle.oemm_lists.specs.Ascending.{in_order}
use Rattle.mesh_data.specs.Rings.{from_each_corner, link, way, has_closed_ring}
use Rattle.mesh_data.specs.Triangles.{has_corner, neighbours}

-- the triangle has both names
abbrev pub has_both : ℕ → ℕ → Tri → Bool
has_both u v t = has_corner u t && has_corner v t

-- some triangle has both names
abbrev pub are_neighbours : List Tri → ℕ → ℕ → Bool
are_neighbours ts u v = list_any (has_both u v) ts

-- the third name of the first triangle that has the directed edge from a to b
unfoldable pub apex : List Tri → ℕ → ℕ → Option ℕ
apex ts a b = option_map (λ t. t.c) (find (λ t. t.a == a && t.b == b) (flat_map from_each_corner ts))

-- the names opposite of an edge that has a triangle in both directions
abbrev pub opposites : List Tri → ℕ → ℕ → Option (ℕ × ℕ)
opposites ts a b = option_zip (apex ts a b) (apex ts b a)

-- there is a name, and it is this one
abbrev pub is_name : Option ℕ → ℕ → Bool
is_name None w = false
is_name (Some v) w = v == w

-- w lies opposite of the edge of u and v, in the triangle of either direction
abbrev pub is_opposite : List Tri → ℕ → ℕ → ℕ → Bool
is_opposite ts u v w = is_name (apex ts u v) w || is_name (apex ts v u) w

-- the least neighbour of u that is one of v too and doesn't lie opposite of their edge (Dey, Edelsbrunner, Guha and
-- Nekhayev, "Topology preserving edge contraction", 1999)
unfoldable pub link_violation : List Tri → ℕ → ℕ → Option ℕ
link_violation ts u v =
    find (λ w. list_any (λ x. x == w) (neighbours v ts) && not (is_opposite ts u v w)) (in_order nat_cmp (neighbours u ts))

-- the names along these steps, from where the first one begins
abbrev pub names_along : List Edge → List ℕ
names_along [] = []
names_along (e ∷ es) = way (length (e ∷ es)) (e ∷ es) e.a e.a

-- v has a closed ring of three names
unfoldable pub is_closed_by_three : List Tri → ℕ → Bool
is_closed_by_three ts v = has_closed_ring ts v && length (names_along (link v ts)) == 3
