use Rattle.std.proofs.Common.{ap, ◌∙◌, subst, sym}
use Rattle.std.specs.List.Sorted.{IsStrictlyIncreasing}
use Rattle.oemm_lists.specs.Numbers.{among}
use Rattle.oemm_lists.proofs.Once.{among-once, ascends-once}
use Rattle.frozen_rim.proofs.free.set_of.Goals as goal

pub of-requires : goal.of-requires
of-requires c =
    subst IsStrictlyIncreasing (sym c.from_vec.ensures) (ascends-once c.sort_unstable.new.self.items c.dedup.new.self.items c.sort_unstable.ensures.sorted c.dedup.ensures.filtered)

pub returns : goal.returns
returns c = λ v.
    ap (among v) (c.of.ensures ∙ c.from_vec.ensures)
    ∙ among-once c.args.names.items c.sort_unstable.new.self.items c.dedup.new.self.items v c.sort_unstable.ensures.permutation c.dedup.ensures.filtered
