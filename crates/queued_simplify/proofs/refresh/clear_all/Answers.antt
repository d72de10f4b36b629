use Rattle.std.proofs.Common.{take, ◌+◌, sym, subst}
use Rattle.queued_simplify.specs.Turns.{IsCleared}
use Rattle.queued_simplify.proofs.Fills.{at_place}
use Rattle.queued_simplify.proofs.Fits.{cleared_more, none_cleared}
use Rattle.queued_simplify.proofs.refresh.clear_all.Goals as goal

pub loop-name-init : goal.loop-name-init
loop-name-init c = none_cleared c.args.refused.now

pub set-requires : goal.set-requires
set-requires c =
    let x = c.name-item.result in
    c.loop-name.invariant.keys x
    (c.requires x (at_place c.args.names.now c.loop-name.name-index x c.loop-name-test.true c.name-item.is))

pub loop-name-preserved : goal.loop-name-preserved
loop-name-preserved c =
    subst (λ m. IsCleared (take (c.loop-name.name-index + 1) c.args.names.now) c.args.refused.now m)
    (sym c.set.ensures)
    (cleared_more c.args.names.now c.loop-name.name-index c.name-item.result c.args.refused.now c.loop-name.refused
    c.loop-name-test.true c.name-item.is c.loop-name.invariant)
