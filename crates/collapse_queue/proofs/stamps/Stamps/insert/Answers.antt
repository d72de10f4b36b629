use Rattle.std.proofs.Common.{ap, ◌∙◌}
use Rattle.std.specs.FinMap as finite
use Rattle.collapse_queue.proofs.StampMaps.{one_given}
use Rattle.collapse_queue.proofs.stamps.Stamps.insert.Goals as goal

pub returns : goal.returns
returns c = record {
  ok = one_given c.self.inside.stamps.entries c.insert.new.self.entries c.args.u c.args.stamp
      c.in_ok-insert.ensures.updates.0
      ∙ ap (λ m. finite.insert m c.args.u c.args.stamp) c.self.view_is;
}
