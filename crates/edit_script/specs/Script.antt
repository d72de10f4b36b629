-- What a reader of scripts answers.
use Rattle.std.specs.Prelude.{◌≡◌, ℕ, List, Result, Ok, Err, ⊤}
use Rattle.oemm_limits.specs.declared.TheConstants.{MOST_SCRIPT_BYTES}
use Rattle.fault_counts.specs.Told.{Told, Takes, IsAtEnd}
use Rattle.oemm_io.specs.declared.whole.TakeFault.{TakeFault}
use Rattle.oemm_io.specs.declared.whole.TakeFault.TheVariants as take
use Rattle.oemm_io.specs.declared.whole.TakeFault.TheVariants.{Failed}
use Rattle.oemm_limits.specs.declared.what.What.TheVariants.{ScriptBytes}
use Rattle.mesh_data.specs.declared.edits.Task.{Task}
use Rattle.mesh_data.specs.declared.edits.Script.{Script}
use Rattle.edit_script.specs.declared.fault.ScriptFault.{ScriptFault}
use Rattle.edit_script.specs.declared.fault.ScriptFault.TheVariants.{Read, Syntax, TooMany, Memory}
use Rattle.edit_script.specs.Grammar.{script_of}

-- the fault is that of the reading, unless it is want of memory
abbrev pub StopsBy : {A : Type 0} → ScriptFault → Result A ScriptFault → Type 0
StopsBy Read reading = ⊥
StopsBy (Syntax line why) reading = reading ≡ Err (Syntax line why)
StopsBy (TooMany what count) reading = reading ≡ Err (TooMany what count)
StopsBy Memory reading = ⊤

-- a fault that is answered of a whole script: want of memory and a failed source say nothing of the text
abbrev pub GivesFault : ScriptFault → Result (List Task) ScriptFault → Type 0
GivesFault Read reading = ⊤
GivesFault (Syntax line why) reading = reading ≡ Err (Syntax line why)
GivesFault (TooMany what count) reading = reading ≡ Err (TooMany what count)
GivesFault Memory reading = ⊤

-- what is answered is what the reading gives
abbrev pub GivesScript : Result Script ScriptFault → Result (List Task) ScriptFault → Type 0
GivesScript (Ok script) reading = reading ≡ Ok script.tasks
GivesScript (Err fault) reading = GivesFault fault reading

-- the fault of a source that can't be taken whole
abbrev pub fault_of_take : TakeFault → ScriptFault
fault_of_take Failed = Read
fault_of_take take.TooMany = TooMany ScriptBytes MOST_SCRIPT_BYTES
fault_of_take take.Memory = Memory

-- bytes were taken, to the end, and the script is theirs
pub record TakesScript (before after : Told) (script : Script) : Type 0 where
  pub bytes : List ℕ
  pub taken : Takes before after bytes
  pub end : IsAtEnd after
  pub reading : script_of bytes ≡ Ok script.tasks
