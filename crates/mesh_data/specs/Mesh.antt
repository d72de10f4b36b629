-- A triangle mesh: vertices by their names, and turned triangles in order.
use Rattle.std.specs.Prelude.{ℕ, ◌+◌, ◌*◌, ℤ, pos, ◌-ℤ◌, List, [], ◌∷◌, map, length, slice_index_or, Option, refl}
use Rattle.std.specs.Coded.{Coded, code_by, coded×, coded_ℕ, coded_ℤ, coded_list}
use Rattle.std.specs.Option.{option_map, option_map_or}
use Rattle.std.specs.Ordering.{nat_cmp}
use Rattle.std.specs.FinMap as map
use Rattle.std.specs.FinSet as set
use Rattle.oemm_octree.specs.declared.points.Point.{Point}
use Rattle.mesh_data.specs.declared.geometry.Vertex.{Vertex}
pub use Rattle.mesh_data.specs.declared.geometry.Soup.{Soup}
use Rattle.mesh_data.specs.declared.geometry.Tri.{Tri}
use Rattle.mesh_data.specs.declared.geometry.Edge.{Edge}
use Rattle.mesh_data.specs.declared.planes.Plane.{Plane}
use Rattle.oemm_lists.specs.Ascending.{in_order}
use Rattle.mesh_data.specs.Planes.{plane_of}
use Rattle.mesh_data.specs.Triangles.{tri_cmp, turned, star, undirected_edges, border_edges}

pub record Mesh : Type 0 where
  pub vertices : map.FinMap nat_cmp Vertex
  pub tris : List Tri

abbrev pub origin : Point
origin = record { x = pos 0; y = pos 0; z = pos 0 }

-- the plane of a triangle whose names are places of points
abbrev pub plane_at : List Point → Tri → Plane
plane_at points t = plane_of (slice_index_or points t.a origin) (slice_index_or points t.b origin) (slice_index_or points t.c origin)

-- the planes of the triangles that have v
abbrev pub planes_at : List Point → List Tri → ℕ → List Plane
planes_at points ts v = map (plane_at points) (star v ts)

-- vertices named by their places, counted from n, each with the planes of its name
abbrev pub named_from : (ℕ → List Plane) → ℕ → List Point → List (ℕ × Vertex)
named_from planes n [] = []
named_from planes n (p ∷ ps) = (n, record { point = p; planes = planes n }) ∷ named_from planes (n + 1) ps

-- the faces, turned and in order
abbrev pub start_tris : Soup → List Tri
start_tris s = in_order tri_cmp (map turned s.faces)

-- the start mesh of points and faces: each vertex has the planes of the triangles that have it
abbrev pub start : Soup → Mesh
start s = record { vertices = map.from_entries (named_from (planes_at s.points (start_tris s)) 0 s.points); tris = start_tris s }

-- the point of a vertex, if the mesh has it
abbrev pub point_of : Mesh → ℕ → Option Point
point_of m v = option_map (λ x. x.point) (map.get m.vertices v)

-- the planes of a vertex, if the mesh has it
abbrev pub planes_of : Mesh → ℕ → Option (List Plane)
planes_of m v = option_map (λ x. x.planes) (map.get m.vertices v)

-- the names of the vertices, ascending
abbrev pub names_of : Mesh → List ℕ
names_of m = map.keys m.vertices

-- the points of the vertices, in the order of their names
abbrev pub points_of : Mesh → List Point
points_of m = map (λ v. v.point) (map.values m.vertices)

-- the mesh with its vertex v changed
abbrev pub with_vertex : Mesh → ℕ → (Vertex → Vertex) → Mesh
with_vertex m v change =
    record { vertices = option_map_or (λ x. map.insert m.vertices v (change x)) (map.get m.vertices v) m.vertices; tris = m.tris }

-- the Euler characteristic: vertices, less undirected edges, and triangles
abbrev pub euler : Mesh → ℤ
euler m = pos (map.len m.vertices + length m.tris) -ℤ pos (set.len (undirected_edges m.tris))

-- twice the Euler characteristic: vertices, less undirected edges, and triangles
abbrev pub euler2 : Mesh → ℤ
euler2 m = pos (2 * (map.len m.vertices + length m.tris)) -ℤ pos (2 * set.len (undirected_edges m.tris))

-- the border, ascending
abbrev pub border : Mesh → List Edge
border m = border_edges m.tris

abbrev pub point_code : Coded Point
point_code = code_by (ℤ × (ℤ × ℤ)) (coded× coded_ℤ (coded× coded_ℤ coded_ℤ)) (λ p. (p.x, (p.y, p.z))) (λ q. record { x = q.0; y = q.1.0; z = q.1.1 }) (λ _. refl)

abbrev pub plane_code : Coded Plane
plane_code = code_by (ℤ × (ℤ × (ℤ × ℤ))) (coded× coded_ℤ (coded× coded_ℤ (coded× coded_ℤ coded_ℤ))) (λ l. (l.nx, (l.ny, (l.nz, l.d)))) (λ q. record { nx = q.0; ny = q.1.0; nz = q.1.1.0; d = q.1.1.1 }) (λ _. refl)

abbrev pub vertex_code : Coded Vertex
vertex_code = code_by (Point × List Plane) (coded× point_code (coded_list plane_code)) (λ v. (v.point, v.planes)) (λ q. record { point = q.0; planes = q.1 }) (λ _. refl)

abbrev pub tri_code : Coded Tri
tri_code = code_by (ℕ × (ℕ × ℕ)) (coded× coded_ℕ (coded× coded_ℕ coded_ℕ)) (λ t. (t.a, (t.b, t.c))) (λ q. record { a = q.0; b = q.1.0; c = q.1.1 }) (λ _. refl)

-- a mesh is stored as its map and its list
abbrev pub mesh_code : Coded Mesh
mesh_code = code_by (map.FinMap nat_cmp Vertex × List Tri) (coded× (map.code coded_ℕ vertex_code) (coded_list tri_code)) (λ m. (m.vertices, m.tris)) (λ p. record { vertices = p.0; tris = p.1 }) (λ _. refl)
