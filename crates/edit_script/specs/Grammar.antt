-- The tasks that the bytes of a script say, or the first fault.
use Rattle.std.specs.Prelude.{ℕ, ◌+◌, ◌==◌, nat_lt, Bool, true, List, [], ◌∷◌, ◌++◌, length, count_by, Option, Some, None, Result, Ok, Err, if◌then◌else◌}
use Rattle.std.specs.List.{filter}
use Rattle.oemm_limits.specs.declared.TheConstants.{MOST_EDITS, MOST_LINE_BYTES, MOST_SCRIPT_BYTES, MOST_TASKS}
use Rattle.oemm_lines.specs.Stream.{texts_of, Flow, told_lines}
use Rattle.oemm_lines.specs.declared.parts.Line.{Line}
use Rattle.oemm_lines.specs.declared.parts.LineFault.{LineFault}
use Rattle.oemm_lines.specs.declared.parts.LineFault.TheVariants as line
use Rattle.oemm_lines.specs.declared.parts.LineFault.TheVariants.{TooLong, Bytes}
use Rattle.oemm_octree.specs.declared.points.Point.{Point}
use Rattle.mesh_data.specs.declared.edits.Edit.{Edit}
use Rattle.mesh_data.specs.declared.edits.Task.{Task}
use Rattle.edit_script.specs.declared.fault.ScriptWhy.{ScriptWhy}
use Rattle.edit_script.specs.declared.fault.ScriptWhy.TheVariants.{NoTask}
use Rattle.oemm_limits.specs.declared.what.What.TheVariants.{ScriptBytes, LineBytes, Tasks, Edits}
use Rattle.edit_script.specs.declared.fault.ScriptFault.{ScriptFault}
use Rattle.edit_script.specs.declared.fault.ScriptFault.TheVariants.{Read, Syntax, TooMany, Memory}
use Rattle.edit_script.specs.declared.line.LineMeaning.{LineMeaning}
use Rattle.edit_script.specs.declared.line.LineMeaning.TheVariants.{TaskLine, EditLine}
use Rattle.edit_script.specs.Line.{line_says}

-- the next step, unless there was a fault
infixl 10 ◌>>=◌
abbrev pub ◌>>=◌ : {A B : Type 0} → Result A ScriptFault → (A → Result B ScriptFault) → Result B ScriptFault
(Ok x) >>= f = f x
(Err fault) >>= f = Err fault

-- how many of the tasks are of the lane
abbrev pub lane_count : ℕ → List Task → ℕ
lane_count lane tasks = count_by (λ task. task.lane == lane) tasks

-- a task without edits behind these tasks: its number is that of its lane's tasks before it
abbrev pub next_task : List Task → ℕ → Point → Point → Task
next_task tasks lane low high =
    record { lane = lane; number = lane_count lane tasks; low = low; high = high; edits = [] }

-- the tasks with one more
unfoldable pub with_task : List Task → ℕ → Point → Point → Result (List Task) ScriptFault
with_task tasks lane low high =
    if nat_lt (length tasks) MOST_TASKS then Ok (tasks ++ next_task tasks lane low high ∷ [])
    else Err (TooMany Tasks (MOST_TASKS + 1))

-- the task with one more edit
abbrev pub edited : Task → Edit → Result Task ScriptFault
edited task edit =
    if nat_lt (length task.edits) MOST_EDITS then Ok (record task { edits = task.edits ++ edit ∷ [] })
    else Err (TooMany Edits (MOST_EDITS + 1))

-- the tasks with one more edit of the last, in the line with this number
unfoldable pub with_edit : ℕ → List Task → Edit → Result (List Task) ScriptFault
with_edit number [] edit = Err (Syntax number NoTask)
with_edit number (task ∷ []) edit = do
  last ← edited task edit
  Ok (last ∷ [])
with_edit number (task ∷ next ∷ tasks) edit = do
  later ← with_edit number (next ∷ tasks) edit
  Ok (task ∷ later)

-- the tasks after the line with this number
abbrev pub after_line : ℕ → List Task → Result LineMeaning ScriptWhy → Result (List Task) ScriptFault
after_line number tasks (Ok (TaskLine lane low high)) = with_task tasks lane low high
after_line number tasks (Ok (EditLine edit)) = with_edit number tasks edit
after_line number tasks (Err why) = Err (Syntax number why)

-- whether the line has a word
abbrev pub has_words : Line → Bool
has_words l = nat_lt 0 (length l.words)

-- the fault of a script where its lines have one
abbrev pub fault_of_line : LineFault → ScriptFault
fault_of_line line.Read = Read
fault_of_line (TooLong at) = TooMany LineBytes (MOST_LINE_BYTES + 1)
fault_of_line (Bytes taken) = TooMany ScriptBytes MOST_SCRIPT_BYTES
fault_of_line line.Memory = Memory

-- the tasks at the end of the lines, or the fault that stands behind them
abbrev pub tasks_at_end : List Task → Option LineFault → Result (List Task) ScriptFault
tasks_at_end tasks None = Ok tasks
tasks_at_end tasks (Some fault) = Err (fault_of_line fault)

-- the tasks after these lines and what stands behind them, behind the tasks so far
unfoldable pub tasks_after : List Task → List Line → Option LineFault → Result (List Task) ScriptFault
tasks_after tasks [] end = tasks_at_end tasks end
tasks_after tasks (l ∷ lines) end = do
  more ← after_line l.number tasks (line_says (texts_of l))
  tasks_after more lines end

-- the same after those lines of a flow that have words
abbrev pub tasks_of : List Task → Flow → Result (List Task) ScriptFault
tasks_of tasks flow = tasks_after tasks (filter has_words flow.lines) flow.fault

-- the tasks of a script, or its first fault: the limit of bytes stands before each fault of the text
unfoldable pub script_of : List ℕ → Result (List Task) ScriptFault
script_of bytes =
    if nat_lt MOST_SCRIPT_BYTES (length bytes) then Err (TooMany ScriptBytes MOST_SCRIPT_BYTES)
    else tasks_of [] (told_lines true MOST_SCRIPT_BYTES 0 1 bytes)
