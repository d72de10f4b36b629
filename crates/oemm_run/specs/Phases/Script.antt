-- The phase that reads the script.
use Rattle.std.specs.Prelude.{◌≡◌, List, Result, Ok, Err, IfSome}
use Rattle.fault_counts.specs.Told.{TakesSome, IsAtEnd}
use Rattle.mesh_data.specs.declared.edits.Script.{Script}
use Rattle.mesh_data.specs.declared.edits.Task.{Task}
use Rattle.edit_script.specs.declared.fault.ScriptFault.{ScriptFault}
use Rattle.edit_script.specs.declared.fault.ScriptFault.TheVariants as script
use Rattle.edit_script.specs.Grammar.{script_of}
use Rattle.edit_script.specs.Ranges.{AreTasks}
use Rattle.oemm_run.specs.declared.end.End.{End}
use Rattle.oemm_run.specs.declared.end.End.TheVariants.{ReadScript, ScriptText, Limit, Memory}
use Rattle.oemm_run.specs.Outside.{Input, HasFailed}

-- the end that tells why a script can't be read
abbrev pub end_of_script : ScriptFault → End
end_of_script script.Read = ReadScript
end_of_script (script.Syntax line why) = ScriptText line why
end_of_script (script.TooMany what count) = Limit what count
end_of_script script.Memory = Memory

-- the script was read to the end of its source: its tasks are in their ranges, they are what the source's bytes say
-- where they are told, and the source hasn't failed
pub record HasScript (before after : Input) (tasks : List Task) : Type 0 where
  pub ranges : AreTasks tasks
  pub told : IfSome before.left (λ bytes. script_of bytes ≡ Ok tasks)
  pub taken : TakesSome before.left after.left
  pub at_end : IsAtEnd after.left
  pub calm : after.faults ≡ before.faults

-- the source's bytes have this fault first, where they are told, and the source hasn't failed
pub record HasScriptFault (before after : Input) (fault : ScriptFault) : Type 0 where
  pub told : IfSome before.left (λ bytes. script_of bytes ≡ Err fault)
  pub calm : after.faults ≡ before.faults

-- the cause of an end at this phase
abbrev pub ScriptCause : Input → Input → End → Type 0
ScriptCause before after ReadScript = HasFailed before.faults after.faults
ScriptCause before after (ScriptText line why) = HasScriptFault before after (script.Syntax line why)
ScriptCause before after (Limit what count) = HasScriptFault before after (script.TooMany what count)
ScriptCause before after Memory = after.faults ≡ before.faults
ScriptCause before after end = ⊥

-- the script wasn't read, and bytes were taken from the front of the source's
pub record ScriptStops (before after : Input) (end : End) : Type 0 where
  pub taken : TakesSome before.left after.left
  pub cause : ScriptCause before after end

-- what the phase gives: the script, or the end at which it stops
abbrev pub ReadsScript : Input → Input → Result Script ScriptFault → Type 0
ReadsScript before after (Ok s) = HasScript before after s.tasks
ReadsScript before after (Err fault) = ScriptStops before after (end_of_script fault)
