use Rattle.triangle_edits.specs.Links.{is_shared}
use Rattle.link_test.proofs.Least.{least_more}
use Rattle.link_test.proofs.neighbours.link_violation.Goals as goal

pub loop-w-preserved : goal.loop-w-preserved
loop-w-preserved c =
    least_more (is_shared c.args.others.now c.args.one.now c.args.other.now) c.args.names.now c.loop-w.w-index c.w-item.result c.loop-w.least c.lesser_shared-least.result c.loop-w-test.true c.w-item.is c.loop-w.invariant c.lesser_shared-least.ensures
