use Rattle.std.proofs.Common.{ℕ, ltb, sym, ap, ◌∙◌}
use Rattle.std.specs.List.{list_all}
use Rattle.oemm_shelf.proofs.Formed.{below_of, each_of_all}
use Rattle.oemm_shelf.proofs.tests.is_core.Goals as goal

pub returns : goal.returns
returns c = λ on.
    below_of c.args.count c.args.core.now (each_of_all (λ (l : ℕ). ltb l c.args.count) c.args.core.now
    (ap (list_all (λ (l : ℕ). ltb l c.args.count)) (sym c.slice.ensures.items) ∙ sym c.are_below.ensures ∙ on))
