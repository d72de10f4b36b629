use Rattle.std.proofs.Common.{take, ◌+◌, sym, subst}
use Rattle.queued_simplify.specs.Turns.{IsRestamped}
use Rattle.queued_simplify.proofs.Fills.{at_place}
use Rattle.queued_simplify.proofs.Fits.{restamped_more, still_before}
use Rattle.queued_simplify.proofs.refresh.restamp_all.Goals as goal

pub restamp-requires-clause-named : goal.restamp-requires-clause-named
restamp-requires-clause-named c =
    let x = c.name-item.result in
    c.loop-name.invariant.keys x
    (c.requires.keys x (at_place c.args.names.now c.loop-name.name-index x c.loop-name-test.true c.name-item.is))

pub restamp-requires-clause-later : goal.restamp-requires-clause-later
restamp-requires-clause-later c =
    let x = c.name-item.result in
    let on = at_place c.args.names.now c.loop-name.name-index x c.loop-name-test.true c.name-item.is in
    still_before c.args.names.now c.loop-name.name-index x c.args.stamp c.args.queue.now c.loop-name.queue
    c.requires.once c.loop-name-test.true c.name-item.is c.loop-name.invariant (c.requires.later x on)

pub loop-name-preserved : goal.loop-name-preserved
loop-name-preserved c =
    subst (λ q. IsRestamped (take (c.loop-name.name-index + 1) c.args.names.now) c.args.stamp c.args.queue.now q)
    (sym c.restamp.ensures)
    (restamped_more c.args.names.now c.loop-name.name-index c.name-item.result c.args.stamp c.args.queue.now
    c.loop-name.queue c.loop-name-test.true c.name-item.is c.loop-name.invariant)
