use Rattle.std.proofs.Common.{◌++◌, ◌∷◌, [], take, ap, sym, ◌∙◌}
use Rattle.std.proofs.lemmas.List.{take_more}
use Rattle.std.specs.FinMap as finite
use Rattle.collapse_queue.specs.Queues.{no_stamps}
use Rattle.collapse_queue.proofs.StampMaps.{zero_more}
use Rattle.collapse_queue.proofs.stamps.Stamps.for_names.Goals as goal

pub loop-name-preserved : goal.loop-name-preserved
loop-name-preserved c =
    let ns = c.slice-name-items.result.now in
    let k = c.loop-name.name-index in
    c.in_ok-insert.ensures.ok ∙ ap (λ m. finite.insert m c.name-item.result 0) c.loop-name.invariant
    ∙ zero_more (take k ns) c.name-item.result
    ∙ ap no_stamps (ap (λ x. take k ns ++ x ∷ []) c.name-item.is
    ∙ sym (take_more ns k c.name-item.result c.loop-name-test.true))
