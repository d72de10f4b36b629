-- What a file of a mesh can hold.
use Rattle.std.specs.Prelude.{◌≤◌, List, length, All}
use Rattle.std.specs.FinMap as finite
use Rattle.oemm_limits.specs.declared.TheConstants.{MOST_ITEMS}
use Rattle.oemm_octree.specs.declared.points.Point.{Point}
use Rattle.mesh_data.specs.declared.geometry.Tri.{Tri}
use Rattle.mesh_data.specs.Manifold.{IsTriangleOf}
use Rattle.mesh_data.specs.Mesh.{Mesh, points_of}
use Rattle.oemm_octree.specs.Octree.{IsOnGrid}
use Rattle.mesh_data.specs.Triangles.{IsProper, IsBelow}

-- points and faces that a file can hold: few enough of both, the points on the grid, and each face of three different
-- places of points
pub record IsWritable (points : List Point) (faces : List Tri) : Type 0 where
  pub few_points : length points ≤ MOST_ITEMS
  pub few_faces : length faces ≤ MOST_ITEMS
  pub points_on_grid : All IsOnGrid points
  pub faces_proper : All IsProper faces
  pub faces_below : All (IsBelow (length points)) faces

-- a mesh that a file can hold: few enough vertices and triangles, its points on the grid, and each triangle of three
-- different names of it
pub record IsWritableMesh (m : Mesh) : Type 0 where
  pub few_vertices : finite.len m.vertices ≤ MOST_ITEMS
  pub few_triangles : length m.tris ≤ MOST_ITEMS
  pub points_on_grid : All IsOnGrid (points_of m)
  pub triangles : All (IsTriangleOf m.vertices) m.tris
