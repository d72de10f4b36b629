-- Lists of triangles: corners, neighbours, edges and border.
use Rattle.std.specs.Prelude.{ℕ, ◌<◌, Bool, not, ◌&&◌, ◌||◌, ◌==◌, nat_lt, List, [], ◌∷◌, map, if◌then◌else◌, ◌≢◌}
use Rattle.std.specs.List.{list_any, filter, flat_map, dedup}
use Rattle.std.specs.declared.cmp.Ordering.{Ordering}
use Rattle.std.specs.Ordering.{nat_cmp, ordering_then}
use Rattle.std.specs.FinSet as set
use Rattle.mesh_data.specs.declared.geometry.Tri.{Tri}
use Rattle.mesh_data.specs.declared.geometry.Edge.{Edge}
use Rattle.oemm_lists.specs.Ascending.{in_order}

-- triangles by their first, then their second, then their third name
abbrev pub tri_cmp : Tri → Tri → Ordering
tri_cmp s t = ordering_then (nat_cmp s.a t.a) (ordering_then (nat_cmp s.b t.b) (nat_cmp s.c t.c))

-- edges by their first and then their second name
abbrev pub edge_cmp : Edge → Edge → Ordering
edge_cmp d e = ordering_then (nat_cmp d.a e.a) (nat_cmp d.b e.b)

-- the three names differ
abbrev pub IsProper : Tri → Type 0
IsProper t = (t.a ≢ t.b) × (t.b ≢ t.c) × (t.c ≢ t.a)

-- each name lies below n
abbrev pub IsBelow : ℕ → Tri → Type 0
IsBelow n t = (t.a < n) × (t.b < n) × (t.c < n)

-- the triangle, turned so that its least name comes first
abbrev pub turned : Tri → Tri
turned t =
    if nat_lt t.a t.b && nat_lt t.a t.c then t
    else if nat_lt t.b t.c then record { a = t.b; b = t.c; c = t.a }
    else record { a = t.c; b = t.a; c = t.b }

abbrev pub corners : Tri → List ℕ
corners t = t.a ∷ t.b ∷ t.c ∷ []

-- the triangle has the name
abbrev pub has_corner : ℕ → Tri → Bool
has_corner v t = t.a == v || t.b == v || t.c == v

-- the triangles that have the name
abbrev pub star : ℕ → List Tri → List Tri
star v ts = filter (has_corner v) ts

-- the other names of these triangles, as often as they come
abbrev pub neighbours : ℕ → List Tri → List ℕ
neighbours v ts = filter (λ w. not (w == v)) (flat_map corners (star v ts))

-- the directed edges of a triangle
abbrev pub sides : Tri → List Edge
sides t = record { a = t.a; b = t.b } ∷ record { a = t.b; b = t.c } ∷ record { a = t.c; b = t.a } ∷ []

abbrev pub directed_edges : List Tri → List Edge
directed_edges ts = flat_map sides ts

abbrev pub reversed : Edge → Edge
reversed e = record { a = e.b; b = e.a }

abbrev pub same_edge : Edge → Edge → Bool
same_edge d e = d.a == e.a && d.b == e.b

-- some triangle has the directed edge
abbrev pub has_edge : List Tri → Edge → Bool
has_edge ts e = list_any (same_edge e) (directed_edges ts)

-- the edge with its lesser name first
abbrev pub undirected : Edge → Edge
undirected e = if nat_lt e.b e.a then reversed e else e

abbrev pub undirected_edges : List Tri → set.FinSet edge_cmp
undirected_edges ts = set.from_list (map undirected (directed_edges ts))

-- the same edges, each once, ascending
abbrev pub each_once : List Edge → List Edge
each_once edges = dedup same_edge (in_order edge_cmp edges)

-- the directed edges whose reverse is in no triangle, each once, ascending
abbrev pub border_edges : List Tri → List Edge
border_edges ts = each_once (filter (λ e. not (has_edge ts (reversed e))) (directed_edges ts))
