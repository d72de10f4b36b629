use Rattle.std.proofs.Common.{ℕ, Bool, List, eqb, ap, ◌∙◌, subst, sym}
use Rattle.std.proofs.lemmas.Bool.{eqb-true}
use Rattle.std.proofs.lemmas.List.Filters.{dedup_is}
use Rattle.std.proofs.lemmas.List.Sorted.{list_any-IsPermutation}
use Rattle.std.specs.List.{list_any}
use Rattle.std.specs.List.Sorted.{IsStrictlyIncreasing}
use Rattle.oemm_lists.proofs.Once.{list_any-dedup, ascends-once}
use Rattle.oemm_octree.specs.Leaves.{is_one_of}
use Rattle.neighbour_index.proofs.sets.set_of.Goals as goal

pub of-requires : goal.of-requires
of-requires c =
    subst IsStrictlyIncreasing (sym c.from_vec.ensures)
    (ascends-once c.sort_unstable.new.self.items c.dedup.new.self.items c.sort_unstable.ensures.sorted
    c.dedup.ensures.filtered)

pub returns : goal.returns
returns c = λ l.
    let sorted = c.sort_unstable.new.self.items in
    let is_leaf : ℕ → Bool = λ m. eqb l m in
    ap (λ (xs : List ℕ). is_one_of xs l) (c.of.ensures ∙ c.from_vec.ensures)
    ∙ ap (list_any is_leaf) (dedup_is eqb sorted c.dedup.new.self.items c.dedup.ensures.filtered)
    ∙ list_any-dedup eqb eqb-true is_leaf sorted
    ∙ sym (list_any-IsPermutation is_leaf c.args.leaves.items sorted c.sort_unstable.ensures.permutation)
