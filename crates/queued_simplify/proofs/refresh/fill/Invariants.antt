use Rattle.std.proofs.Common.{take}
use Rattle.queued_simplify.specs.Filled.{IsFilled, all_of, up_to}
use Rattle.queued_simplify.proofs.refresh.fill.Given as goal

abbrev pub invariant-loop-other : goal.invariant-loop-other
invariant-loop-other g l =
    IsFilled (g.M.Simplifiable.inside l.mesh) l.max (g.M.Simplifiable.seen l.mesh)
    (up_to (take l.name-index l.names) l.name (take l.other-index l.other-items)) l.stamp l.fn.queue l.queue

abbrev pub invariant-loop-name : goal.invariant-loop-name
invariant-loop-name g l =
    IsFilled (g.M.Simplifiable.inside l.mesh) l.max (g.M.Simplifiable.seen l.mesh)
    (all_of (take l.name-index l.names)) l.stamp l.fn.queue l.queue
