use Rattle.std.proofs.Common.{arith}
use Rattle.half_edge.proofs.Search.{none_past, none_next}
use Rattle.half_edge.proofs.edges.scan_edge.Goals as goal

pub loop-k-preserved : goal.loop-k-preserved
loop-k-preserved c = none_next c.args.halves.now.slots c.loop-k.k c.args.u c.args.v c.loop-k.invariant
    (c.goes.ensures.no c.if-goes.false)

pub returns-clause-none : goal.returns-clause-none
returns-clause-none c = none_past c.args.halves.now.slots c.loop-k.k c.args.u c.args.v c.loop-k.invariant (omega arith)
