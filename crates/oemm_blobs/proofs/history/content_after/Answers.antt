use Rattle.std.proofs.Common.{ap, sym, ◌∙◌}
use Rattle.oemm_blobs.specs.Content.{with_change}
use Rattle.oemm_blobs.proofs.InTurn.{changed_next}
use Rattle.oemm_blobs.proofs.history.content_after.Goals as goal

pub loop-change-preserved : goal.loop-change-preserved
loop-change-preserved c =
    c.in_ok-make.ensures.ok
    ∙ ap (with_change c.change-item.result) c.loop-change.invariant
    ∙ sym (changed_next c.args.changes.now c.loop-change.change-index c.change-item.result
    c.change-item.is c.loop-change-test.true _)
