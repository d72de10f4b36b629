-- The sizes of planes.
use Rattle.std.specs.Prelude.{◌^◌, ◌<◌, nat_abs}
use Rattle.mesh_data.specs.declared.planes.Plane.{Plane}

-- each component of the normal is below 2^32 in size, as of the plane of any triangle of the grid
pub record IsNormalBounded (l : Plane) : Type 0 where
  pub nx : nat_abs l.nx < 2 ^ 32
  pub ny : nat_abs l.ny < 2 ^ 32
  pub nz : nat_abs l.nz < 2 ^ 32
