-- Vertices with the sums of their planes.
use Rattle.std.specs.Prelude.{ℕ}
use Rattle.oemm_octree.specs.declared.points.Point.{Point}
use Rattle.mesh_data.specs.Planes.{Sums}

-- a vertex of a sheet or a patch, as contracts see it
pub record SummedVertex : Type 0 where
  pub name : ℕ
  pub point : Point
  pub quad : Sums
