use Rattle.std.proofs.Common.{◌≡◌, eqb, filter, take}
use Rattle.commit_journal.proofs.lanes.lane_part.Given as goal

abbrev pub invariant-loop-entry : goal.invariant-loop-entry
invariant-loop-entry l = l.part.items ≡ filter (λ e. eqb e.task.lane l.lane) (take l.entry-index l.entry-items)
