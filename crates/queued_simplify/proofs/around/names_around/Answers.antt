use Rattle.oemm_lists.proofs.Once.{among-once, ascends-once}
use Rattle.queued_simplify.proofs.Arounds.{around_same}
use Rattle.queued_simplify.proofs.around.names_around.Goals as goal

pub returns-clause-around : goal.returns-clause-around
returns-clause-around g c =
    let w = g.M.Simplifiable.seen c.args.mesh.now in
    let inside = g.M.Simplifiable.inside c.args.mesh.now in
    around_same inside w.mesh c.args.v c.args.ring.now c.args.refused.now c.gather.new.names.items
    c.dedup.new.self.items c.in_ok-gather.ensures
    (λ x. among-once c.gather.new.names.items c.sort_unstable.new.self.items c.dedup.new.self.items x
    c.sort_unstable.ensures.permutation c.dedup.ensures.filtered)

pub returns-clause-once : goal.returns-clause-once
returns-clause-once g c =
    ascends-once c.sort_unstable.new.self.items c.dedup.new.self.items c.sort_unstable.ensures.sorted
    c.dedup.ensures.filtered
