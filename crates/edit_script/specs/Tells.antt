-- A script as the tasks that its lines tell, one after another.
use Rattle.std.specs.Prelude.{◌≡◌, ℕ, ◌≤◌, true, List, ◌∷◌, length, map, flat_map, All, None, Result, Ok}
use Rattle.std.specs.List.{filter}
use Rattle.oemm_limits.specs.declared.TheConstants.{MOST_EDITS, MOST_SCRIPT_BYTES, MOST_TASKS}
use Rattle.oemm_lines.specs.declared.parts.Line.{Line}
use Rattle.oemm_lines.specs.Stream.{Flow, texts_of, told_lines}
use Rattle.mesh_data.specs.declared.edits.Task.{Task}
use Rattle.edit_script.specs.declared.fault.ScriptWhy.{ScriptWhy}
use Rattle.edit_script.specs.declared.line.LineMeaning.{LineMeaning}
use Rattle.edit_script.specs.declared.line.LineMeaning.TheVariants.{TaskLine, EditLine}
use Rattle.edit_script.specs.Line.{line_says}
use Rattle.edit_script.specs.Grammar.{has_words}
use Rattle.edit_script.specs.Ranges.{AreNumbered}

-- the lines of a script, and those of them that have words
abbrev pub script_lines : List ℕ → Flow
script_lines bytes = told_lines true MOST_SCRIPT_BYTES 0 1 bytes

abbrev pub spoken_lines : List ℕ → List Line
spoken_lines bytes = filter has_words (script_lines bytes).lines

-- what a line says, and what lines say one after another
abbrev pub saying : Line → Result LineMeaning ScriptWhy
saying l = line_says (texts_of l)

abbrev pub sayings : List Line → List (Result LineMeaning ScriptWhy)
sayings lines = map saying lines

-- what is said to tell a task: that it begins, and then each of its edits
abbrev pub telling : Task → List (Result LineMeaning ScriptWhy)
telling task = Ok (TaskLine task.lane task.low task.high) ∷ map (λ edit. Ok (EditLine edit)) task.edits

-- the task has no more edits than it may
abbrev pub HasFewEdits : Task → Type 0
HasFewEdits task = length task.edits ≤ MOST_EDITS

-- the tasks keep the limits of their number and of that of their edits, and each has its number in its lane
pub record AreInOrder (tasks : List Task) : Type 0 where
  pub few : length tasks ≤ MOST_TASKS
  pub each : All HasFewEdits tasks
  pub numbered : AreNumbered tasks

-- these lines tell these tasks one after another
abbrev pub Tell : List Line → List Task → Type 0
Tell lines tasks = (sayings lines ≡ flat_map telling tasks) × AreInOrder tasks

-- the script is within its limit, none of its lines is too long, and those with words tell these tasks
pub record TellsScript (bytes : List ℕ) (tasks : List Task) : Type 0 where
  pub short : length bytes ≤ MOST_SCRIPT_BYTES
  pub whole : (script_lines bytes).fault ≡ None
  pub told : Tell (spoken_lines bytes) tasks
