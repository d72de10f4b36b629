use Rattle.std.proofs.Common.{ap, ◌∙◌, subst, sym}
use Rattle.std.specs.List.Sorted.{IsStrictlyIncreasing}
use Rattle.oemm_lists.specs.Numbers.{among}
use Rattle.oemm_lists.proofs.Once.{among-once, ascends-once}
use Rattle.mesh_edits.proofs.Rims.{rim_names}
use Rattle.mesh_edits.proofs.made.rim_of.Goals as goal

pub of-requires : goal.of-requires
of-requires c =
    subst IsStrictlyIncreasing (sym c.from_vec.ensures) (ascends-once c.sort_unstable.new.self.items c.dedup.new.self.items c.sort_unstable.ensures.sorted c.dedup.ensures.filtered)

pub returns : goal.returns
returns c = λ v.
    ap (among v) (c.of.ensures ∙ c.from_vec.ensures)
    ∙ among-once c.in_ok-names.names.items c.sort_unstable.new.self.items c.dedup.new.self.items v c.sort_unstable.ensures.permutation c.dedup.ensures.filtered
    ∙ ap (among v) c.in_ok-names.ensures ∙ rim_names v c.args.mixed.now
