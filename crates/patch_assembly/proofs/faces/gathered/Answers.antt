use Rattle.std.proofs.Common.{rules, ap, ◌∙◌}
use Rattle.std.specs.List.Sorted.{IsSorted}
use Rattle.std.proofs.lemmas.List.Sorted.{answers_always}
use Rattle.oemm_lists.specs.Ascending.{in_order}
use Rattle.mesh_sheets.specs.Assembled.{mixed_cmp}
use Rattle.patch_assembly.proofs.Made.{kept_from_sort, two_parts}
use Rattle.patch_assembly.proofs.faces.gathered.Goals as goal

pub returns : goal.returns
returns c =
    let sorted : IsSorted mixed_cmp c.sort_unstable_by_key.new.self.items =
    c.sort_unstable_by_key.ensures.sorted (λ x. (x.tri, x.leaf)) (answers_always _ _ _ (λ f a r q k. search rules)) in
    kept_from_sort c.add_all-2.new.out.items c.sort_unstable_by_key.new.self.items
    c.sort_unstable_by_key.ensures.permutation sorted
    ∙ ap (in_order mixed_cmp)
    (two_parts c.args.inner.now c.args.outer.now c.new-kept.result.items c.add_all.new.out.items c.add_all-2.new.out.items
    c.new-kept.ensures.items c.in_ok-add_all.ensures c.in_ok-add_all-2.ensures)
