-- Meshes whose triangles stand in order.
use Rattle.std.specs.List.Sorted.{IsSorted}
use Rattle.mesh_data.specs.Manifold.{IsManifold}
use Rattle.mesh_data.specs.Mesh.{Mesh}
use Rattle.mesh_data.specs.Triangles.{tri_cmp}

-- a manifold whose triangles stand in order
pub record IsOrderedManifold (m : Mesh) : Type 0 where
  pub manifold : IsManifold m
  pub sorted : IsSorted tri_cmp m.tris
