-- What a command leaves of its objects.
use Rattle.std.specs.Prelude.{◌≡◌, ℕ, ◌⊎◌, List, ⊤}
use Rattle.fault_counts.specs.Told.{TakesSome, IsAtEnd, PutsPrefix}
use Rattle.mesh_data.specs.declared.geometry.Soup.{Soup}
use Rattle.mesh_data.specs.Manifold.{IsManifold}
use Rattle.mesh_data.specs.Mesh.{start}
use Rattle.oemm_run.specs.declared.end.End.{End}
use Rattle.oemm_run.specs.declared.end.End.TheVariants.{Done, WriteOut, WriteReport}
use Rattle.oemm_run.specs.Commands.Run.{AtScript}
use Rattle.oemm_run.specs.Outside.{Outside, IsUnwritten}

-- bytes were taken from the front of each source's, however the command ended
pub record TakesFronts (before after : Outside) : Type 0 where
  pub mesh : TakesSome before.mesh.left after.mesh.left
  pub script : TakesSome before.script.left after.script.left

-- the script is touched only where the mesh was read and is a manifold
abbrev pub MindsScript : Outside → Outside → Type 0
MindsScript before after = (after.script ≡ before.script) ⊎ ((s : Soup) × AtScript before after s)

-- every end before the writes leaves both sinks as they were, and then the script was read to its end
abbrev pub LeavesSinks : Outside → Outside → End → Type 0
LeavesSinks before after Done = IsAtEnd after.script.left
LeavesSinks before after WriteOut = IsAtEnd after.script.left
LeavesSinks before after WriteReport = IsAtEnd after.script.left
LeavesSinks before after end = IsUnwritten before after
