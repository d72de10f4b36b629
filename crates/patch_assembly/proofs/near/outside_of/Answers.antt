use Rattle.std.proofs.Common.{not, sym, ◌∙◌, ap, subst}
use Rattle.std.specs.List.{filter}
use Rattle.std.specs.List.Sorted.{IsStrictlyIncreasing}
use Rattle.std.proofs.lemmas.List.Kept.{IsStrictlyIncreasing-filter}
use Rattle.oemm_octree.specs.Leaves.{is_one_of}
use Rattle.patch_assembly.proofs.near.outside_of.Goals as goal

pub of-requires : goal.of-requires
of-requires c =
    subst IsStrictlyIncreasing
    (ap (filter (λ l. not (is_one_of c.args.core.now l))) (sym c.slice.ensures.items) ∙ sym (c.from_vec.ensures ∙ c.in_ok-outside.ensures))
    (IsStrictlyIncreasing-filter (λ l. not (is_one_of c.args.core.now l)) c.args.near.now c.slice.ensures.ascending)
