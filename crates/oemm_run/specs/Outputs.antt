-- What is written of the mesh that the tasks leave.
use Rattle.std.specs.Prelude.{ℕ, ◌≤◌, length, All}
use Rattle.oemm_limits.specs.declared.TheConstants.{MOST_ITEMS}
use Rattle.mesh_data.specs.Triangles.{IsBelow}
use Rattle.oemm_run.specs.declared.phases.tasks.Outputs.{Outputs}

-- a mesh's points and faces are few enough to be written, and the faces have places of the points
pub record IsWritable (outputs : Outputs) : Type 0 where
  pub points : length outputs.points ≤ MOST_ITEMS
  pub faces : length outputs.faces ≤ MOST_ITEMS
  pub below : All (IsBelow (length outputs.points)) outputs.faces
