use Rattle.std.proofs.Common.{◌≡◌, ◌∙◌, subst, sym}
use Rattle.std.specs.Cmp.{nat_cmp_total}
use Rattle.std.specs.List.Sorted.{IsPermutation}
use Rattle.std.proofs.lemmas.Map.Lookups.{exact_unsigned}
use Rattle.mesh_data.specs.Triangles.{neighbours}
use Rattle.triangle_lists.proofs.Sorting.{in_order_from_sort}
use Rattle.triangle_edits.proofs.Neighbours.{least_by}
use Rattle.triangle_edits.proofs.link_condition.link_violation.Goals as goal

pub returns : goal.returns
returns c =
    let ts = c.args.tris.now in
    let of_u = c.as_slice.result.now in
    let of_v = c.as_slice-2.result.now in
    let of : of_u ≡ _ = c.as_slice.ensures.value ∙ in_order_from_sort nat_cmp_total exact_unsigned (neighbours c.args.u ts) c.in_ok-of_u.of_u.items c.in_ok-of_u.ensures.permutation c.in_ok-of_u.ensures.ascending in
    let is : IsPermutation (neighbours c.args.v ts) of_v = subst (IsPermutation (neighbours c.args.v ts)) (sym c.as_slice-2.ensures.value) c.in_ok-of_v.ensures.permutation in
    c.first_shared.ensures ∙ least_by ts c.args.u c.args.v of_u of_v c.apex-ahead.result c.apex-behind.result of is c.apex-ahead.ensures c.apex-behind.ensures
