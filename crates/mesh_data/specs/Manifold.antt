-- Oriented 2-manifolds, and what an audit answers.
use Rattle.std.specs.Prelude.{◌≡◌, ℕ, ◌≤◌, ◌<◌, Bool, true, List, length, All}
use Rattle.std.specs.List.{list_any, count_by}
use Rattle.std.specs.Ordering.{nat_cmp, is_le}
use Rattle.std.specs.FinMap as map
use Rattle.mesh_data.specs.declared.geometry.Tri.{Tri}
use Rattle.mesh_data.specs.declared.geometry.Edge.{Edge}
use Rattle.mesh_data.specs.declared.geometry.Vertex.{Vertex}
use Rattle.mesh_data.specs.declared.rings.Ring.{Ring}
use Rattle.mesh_data.specs.declared.shapes.Shape.TheVariants as shape
use Rattle.mesh_data.specs.declared.shapes.Audit.{Audit}
use Rattle.mesh_data.specs.declared.shapes.Audit.TheVariants.{Good, Bad}
use Rattle.mesh_data.specs.Mesh.{Mesh, euler, border}
use Rattle.mesh_data.specs.Rings.{IsRing}
use Rattle.mesh_data.specs.Triangles.{IsProper, turned, has_corner, directed_edges, same_edge, edge_cmp}

-- the triangle is turned and has three different names, each of which is one of these
pub record IsTriangleOn (IsName : ℕ → Type 0) (t : Tri) : Type 0 where
  pub proper : IsProper t
  pub is_turned : turned t ≡ t
  pub a : IsName t.a
  pub b : IsName t.b
  pub c : IsName t.c

-- the triangle is turned and has three different names, and these vertices have them
abbrev pub IsTriangleOf : map.FinMap nat_cmp Vertex → Tri → Type 0
IsTriangleOf vertices t = IsTriangleOn (λ v. map.contains_key vertices v ≡ true) t

-- how many triangles have the directed edge
abbrev pub times : List Tri → Edge → ℕ
times ts e = count_by (same_edge e) (directed_edges ts)

-- no directed edge is in two triangles
abbrev pub IsEachEdgeOnce : List Tri → Type 0
IsEachEdgeOnce ts = (e : Edge) → times ts e ≤ 1

-- v is in a triangle
abbrev pub is_corner : List Tri → ℕ → Bool
is_corner ts v = list_any (has_corner v) ts

-- v has a ring, closed or open
abbrev pub HasRing : List Tri → ℕ → Type 0
HasRing ts v = (r : Ring) × IsRing ts v r

-- each vertex that is in a triangle has a ring
abbrev pub IsRinged : List Tri → Type 0
IsRinged ts = (v : ℕ) → is_corner ts v ≡ true → HasRing ts v

-- an oriented 2-manifold, with or without a border
pub record IsManifold (m : Mesh) : Type 0 where
  pub corners : All (IsTriangleOf m.vertices) m.tris
  pub edges : IsEachEdgeOnce m.tris
  pub rings : IsRinged m.tris

-- the least directed edge that two triangles have
pub record IsLeastTwice (ts : List Tri) (e : Edge) : Type 0 where
  pub twice : 2 ≤ times ts e
  pub least : (d : Edge) → 2 ≤ times ts d → is_le (edge_cmp e d) ≡ true

-- the least vertex that is in a triangle and has no ring
pub record IsLeastRingless (ts : List Tri) (v : ℕ) : Type 0 where
  pub corner : is_corner ts v ≡ true
  pub ringless : HasRing ts v → ⊥
  pub least : (w : ℕ) → w < v → is_corner ts w ≡ true → HasRing ts w

-- so many vertices, triangles and border edges
pub record AreCounts (m : Mesh) (vertices faces border_edges : ℕ) : Type 0 where
  pub of_vertices : vertices ≡ map.len m.vertices
  pub of_faces : faces ≡ length m.tris
  pub of_border : border_edges ≡ length (border m)

-- What an audit answers: the least directed edge that two triangles have, else the least vertex that is in a triangle
-- and has no ring, else that the mesh is a manifold, with its numbers.
abbrev pub Audits : Mesh → Audit → Type 0
Audits m (Bad (shape.Edge a b)) = IsLeastTwice m.tris (record { a = a; b = b })
Audits m (Bad (shape.Vertex v)) = IsEachEdgeOnce m.tris × IsLeastRingless m.tris v
Audits m (Good vertices faces euler_of border_edges) = IsManifold m × (euler_of ≡ euler m) × AreCounts m vertices faces border_edges
