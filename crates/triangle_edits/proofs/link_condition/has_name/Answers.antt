use Rattle.std.proofs.Common.{◌∙◌}
use Rattle.std.proofs.lemmas.List.Sorted.{IsNonDecreasingBy-from_sort}
use Rattle.oemm_lists.proofs.Searches.{found_number}
use Rattle.triangle_edits.proofs.link_condition.has_name.Goals as goal

pub returns : goal.returns
returns c =
    let names = c.args.sorted.now in
    c.is_ok.ensures.value ∙ found_number names c.args.w c.binary_search.result (IsNonDecreasingBy-from_sort (λ x. x) names c.requires) c.binary_search.ensures.position
