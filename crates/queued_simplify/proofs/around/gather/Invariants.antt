use Rattle.std.proofs.Common.{take}
use Rattle.queued_simplify.specs.Turns.{IsAround}
use Rattle.queued_simplify.proofs.around.gather.Given as goal

abbrev pub invariant-loop-name : goal.invariant-loop-name
invariant-loop-name g l =
    IsAround (g.M.Simplifiable.inside l.mesh) (g.M.Simplifiable.seen l.mesh).mesh l.v (take l.name-index l.ring)
    l.refused l.names.items
