-- Triangles part by part of their names, and what is known of the names below a bound.
use Rattle.std.specs.Prelude.{◌≡◌, ℕ, ◌≤◌, ◌<◌, nat_le, nat_lt, Bool, true, false, ◌&&◌, ◌||◌, List, length, Option, Some, None}
use Rattle.std.specs.List.{count_by, filter}
use Rattle.mesh_data.specs.declared.geometry.Tri.{Tri}
use Rattle.mesh_data.specs.declared.geometry.Edge.{Edge}
use Rattle.mesh_data.specs.declared.shapes.Shape.{Shape}
use Rattle.mesh_data.specs.declared.shapes.Shape.TheVariants as shape
use Rattle.mesh_data.specs.Manifold.{times, is_corner, HasRing, IsLeastRingless}
use Rattle.mesh_data.specs.Triangles.{border_edges}
use Rattle.oemm_lists.specs.Numbers.{among}
use Rattle.triangle_lists.specs.Audit.{FindsShape}
use Rattle.face_audit.specs.declared.parts.Findings.{Findings}

abbrev pub is_within : ℕ → ℕ → ℕ → Bool
is_within low high v = nat_le low v && nat_lt v high

-- a corner of the triangle lies in the range
abbrev pub touches : ℕ → ℕ → Tri → Bool
touches low high t = is_within low high t.a || is_within low high t.b || is_within low high t.c

-- the triangles that have a corner in the range
abbrev pub part : ℕ → ℕ → List Tri → List Tri
part low high ts = filter (touches low high) ts

-- the names of the range
abbrev pub AreOfRange : ℕ → ℕ → List ℕ → Type 0
AreOfRange low high names = (v : ℕ) → among v names ≡ is_within low high v

-- so many of the edges begin in the range
abbrev pub count_within : ℕ → ℕ → List Edge → ℕ
count_within low high es = count_by (λ e. is_within low high e.a) es

-- what was found is an edge that begins below n
abbrev pub is_edge_below : ℕ → Option Shape → Bool
is_edge_below n (Some (shape.Edge a b)) = nat_lt a n
is_edge_below n (Some (shape.Vertex v)) = false
is_edge_below n None = false

-- no directed edge from a name below n is in two triangles
abbrev pub IsEachEdgeOnceBelow : ℕ → List Tri → Type 0
IsEachEdgeOnceBelow n ts = (e : Edge) → e.a < n → times ts e ≤ 1

-- each vertex below n that is in a triangle has a ring
abbrev pub IsRingedBelow : ℕ → List Tri → Type 0
IsRingedBelow n ts = (v : ℕ) → v < n → is_corner ts v ≡ true → HasRing ts v

-- What is known when the names below n were looked at: some directed edge that two triangles have, or the least vertex
-- without a ring, or that each vertex below n has one.
abbrev pub IsKnownBelow : ℕ → List Tri → Option Shape → Type 0
IsKnownBelow n ts (Some (shape.Edge a b)) = 2 ≤ times ts (record { a = a; b = b })
IsKnownBelow n ts (Some (shape.Vertex v)) = IsLeastRingless ts v
IsKnownBelow n ts None = IsRingedBelow n ts

-- so many border edges begin below n
abbrev pub border_below : ℕ → List Tri → ℕ
border_below n ts = count_by (λ e. nat_lt e.a n) (border_edges ts)

-- what is first wrong with triangles, and how many border edges they have where nothing is
pub record Finds (ts : List Tri) (found : Findings) : Type 0 where
  pub fault : FindsShape ts found.fault
  pub border : found.fault ≡ None → found.border ≡ length (border_edges ts)
