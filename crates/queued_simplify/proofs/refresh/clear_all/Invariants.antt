use Rattle.std.proofs.Common.{take}
use Rattle.queued_simplify.specs.Turns.{IsCleared}
use Rattle.queued_simplify.proofs.refresh.clear_all.Given as goal

abbrev pub invariant-loop-name : goal.invariant-loop-name
invariant-loop-name l = IsCleared (take l.name-index l.names) l.fn.refused l.refused
