use Rattle.std.proofs.Common.{ℕ, rules, ◌∙◌}
use Rattle.std.proofs.lemmas.List.Sorted.{answers_always}
use Rattle.std.specs.List.{flat_map}
use Rattle.mesh_data.specs.declared.geometry.Tri.{Tri}
use Rattle.mesh_data.specs.Rings.{from_each_corner}
use Rattle.triangle_lists.proofs.Orders.{tri_cmp_total, tri_cmp-IsAntisymmetric}
use Rattle.triangle_lists.proofs.Sorting.{Rises-in_order, weight-in_order}
use Rattle.mesh_cutting.proofs.Groups.{grouped, tagged_corners_are}
use Rattle.mesh_cutting.proofs.grouping.corners_by_leaf.Goals as goal

pub returns : goal.returns
returns c =
    let all = flat_map from_each_corner c.args.tris.now in
    grouped tri_cmp_total tri_cmp-IsAntisymmetric _ _ all _ _
    (Rises-in_order tri_cmp_total all) (λ f. weight-in_order tri_cmp_total f all)
    (c.in_ok-corners.ensures ∙ tagged_corners_are _ c.args.tris.now)
    (c.sort_unstable_by_key.ensures.sorted (λ (x : ℕ × Tri). (x.0, x.1))
    (answers_always _ _ _ (λ f a r g h. search rules)))
    c.sort_unstable_by_key.ensures.permutation
