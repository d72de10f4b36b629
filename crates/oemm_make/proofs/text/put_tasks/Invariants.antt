use Rattle.std.proofs.Common.{◌≡◌, ◌++◌, drop}
use Rattle.std.specs.String.{string_bytes}
use Rattle.oemm_make.specs.Text.{script_text}
use Rattle.oemm_make.proofs.text.put_tasks.Given as goal

abbrev pub invariant-loop-task : goal.invariant-loop-task
invariant-loop-task l =
    string_bytes l.text ++ script_text (drop l.task-index l.tasks)
    ≡ string_bytes l.initial.text ++ script_text l.tasks
