use Rattle.std.proofs.Common.{ap, sym, ◌∙◌}
use Rattle.std.specs.FinMap as finite
use Rattle.collapse_queue.proofs.StampMaps.{get_stamp}
use Rattle.collapse_queue.proofs.stamps.Stamps.of.Goals as goal

pub returns : goal.returns
returns c =
    c.copied.ensures ∙ c.get.ensures.value ∙ sym (get_stamp c.self.inside.stamps.entries c.args.u)
    ∙ ap (λ m. finite.get m c.args.u) c.self.view_is
