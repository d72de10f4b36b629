-- Meshes in the form that edits keep.
use Rattle.std.specs.Prelude.{◌≡◌, ℕ, ◌<◌, List, All, length, Some}
use Rattle.std.specs.List.Sorted.{IsSorted}
use Rattle.std.specs.FinMap as finite
use Rattle.oemm_octree.specs.declared.cells.Cell.{Cell}
use Rattle.oemm_octree.specs.Leaves.{home}
use Rattle.mesh_data.specs.declared.geometry.Vertex.{Vertex}
use Rattle.mesh_data.specs.Manifold.{IsTriangleOf}
use Rattle.mesh_data.specs.Mesh.{Mesh}
use Rattle.mesh_data.specs.Triangles.{tri_cmp}

-- triangles in order, each turned and of three different names of the mesh
pub record IsClean (m : Mesh) : Type 0 where
  pub sorted : IsSorted tri_cmp m.tris
  pub corners : All (IsTriangleOf m.vertices) m.tris

-- each vertex has a home
abbrev pub AreHomed : List Cell → Mesh → Type 0
AreHomed cells m = (v : ℕ) (x : Vertex) → finite.get m.vertices v ≡ Some x → home cells x.point < length cells

-- each name is below n
abbrev pub AreNamed : ℕ → Mesh → Type 0
AreNamed n m = (v : ℕ) (x : Vertex) → finite.get m.vertices v ≡ Some x → v < n
