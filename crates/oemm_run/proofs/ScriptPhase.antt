-- What the phase of the script gives.
use Rattle.std.proofs.Common.{◌≡◌, Result, Ok, Err, IfOk, OnOk, IfSome, refl}
use Rattle.fault_counts.specs.Counts.{TellsFailure}
use Rattle.fault_counts.specs.Told.{TakesSome, IsAtEnd}
use Rattle.mesh_data.specs.declared.edits.Script.{Script}
use Rattle.edit_script.specs.declared.fault.ScriptFault.{ScriptFault}
use Rattle.edit_script.specs.declared.fault.ScriptFault.TheVariants.{Read, Syntax, TooMany, Memory}
use Rattle.edit_script.specs.Grammar.{script_of}
use Rattle.edit_script.specs.Ranges.{AreTasks}
use Rattle.edit_script.specs.Script.{GivesScript}
use Rattle.oemm_run.specs.Outside.{Input}
use Rattle.oemm_run.specs.Phases.Script.{ReadsScript}
use Rattle.oemm_run.proofs.MeshPhase.{calm_unless}

-- the script that was read, or the fault, is what the phase gives
pub reads_script : (before after : Input) (r : Result Script ScriptFault) → IfSome before.left (λ bytes. GivesScript r (script_of bytes)) → IfOk r (λ script. AreTasks script.tasks) → TakesSome before.left after.left → OnOk r (IsAtEnd after.left) → TellsFailure Read before.faults after.faults r → ReadsScript before after r
reads_script before after (Ok s) told ranges taken end tells =
    record { ranges = ranges; told = told; taken = taken; at_end = end; calm = calm_unless Read _ _ (Ok s) (λ e. cc) tells }
reads_script before after (Err Read) told ranges taken end tells = record { taken = taken; cause = record { kept = tells.kept; rose = tells.cause refl } }
reads_script before after (Err (Syntax line why)) told ranges taken end tells =
    record { taken = taken; cause = record { told = told; calm = calm_unless Read _ _ (Err (Syntax line why)) (λ e. cc) tells } }
reads_script before after (Err (TooMany what count)) told ranges taken end tells =
    record { taken = taken; cause = record { told = told; calm = calm_unless Read _ _ (Err (TooMany what count)) (λ e. cc) tells } }
reads_script before after (Err Memory) told ranges taken end tells =
    record { taken = taken; cause = calm_unless Read _ _ (Err Memory) (λ e. cc) tells }
