use Rattle.std.proofs.Common.{◌≡◌, ◌++◌, drop, map}
use Rattle.std.specs.String.{string_bytes}
use Rattle.commit_journal.specs.Text.{indented, step_line}
use Rattle.commit_journal.proofs.lines.put_steps.Given as goal

abbrev pub invariant-loop-step : goal.invariant-loop-step
invariant-loop-step l =
    string_bytes l.text ++ indented (map step_line (drop l.step-index l.steps))
    ≡ string_bytes l.initial.text ++ indented (map step_line l.steps)
