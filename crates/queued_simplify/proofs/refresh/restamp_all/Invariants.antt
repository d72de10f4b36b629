use Rattle.std.proofs.Common.{take}
use Rattle.queued_simplify.specs.Turns.{IsRestamped}
use Rattle.queued_simplify.proofs.refresh.restamp_all.Given as goal

abbrev pub invariant-loop-name : goal.invariant-loop-name
invariant-loop-name l = IsRestamped (take l.name-index l.names) l.stamp l.fn.queue l.queue
