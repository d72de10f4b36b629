-- The text of a script: for each task the line that begins it, and then a line for each of its edits.
use Rattle.std.specs.Prelude.{ℕ, List, [], ◌∷◌, ◌++◌, codes}
use Rattle.std.specs.List.{flat_map}
use Rattle.std.specs.Fmt.{decimal, signed_decimal}
use Rattle.oemm_lists.specs.TextLine.{line}
use Rattle.mesh_data.specs.declared.edits.Task.{Task}
use Rattle.commit_journal.specs.Text.{edit_line}

-- the line that begins a task: its lane, and the low and the high corner of its box
abbrev pub task_line : Task → List ℕ
task_line task =
    line (codes "task" ∷ decimal task.lane
    ∷ signed_decimal task.low.x ∷ signed_decimal task.low.y ∷ signed_decimal task.low.z
    ∷ signed_decimal task.high.x ∷ signed_decimal task.high.y ∷ signed_decimal task.high.z ∷ [])

-- a task's lines, those of its edits as the journal has them
abbrev pub task_text : Task → List ℕ
task_text task = task_line task ++ flat_map edit_line task.edits

abbrev pub script_text : List Task → List ℕ
script_text tasks = flat_map task_text tasks
