use Rattle.half_edge.proofs.HeldKeys.{OutsBelow}
use Rattle.half_edge.proofs.outs.outs_of.Given as goal

abbrev pub invariant-loop-k : goal.invariant-loop-k
invariant-loop-k l = OutsBelow l.halves.slots l.outs l.held l.k
