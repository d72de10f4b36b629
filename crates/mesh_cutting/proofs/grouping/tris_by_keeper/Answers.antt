use Rattle.std.proofs.Common.{ℕ, refl, rules}
use Rattle.std.proofs.lemmas.List.Sorted.{answers_always}
use Rattle.mesh_data.specs.declared.geometry.Tri.{Tri}
use Rattle.triangle_lists.proofs.Orders.{tri_cmp_total, tri_cmp-IsAntisymmetric}
use Rattle.triangle_lists.proofs.Sorting.{Rises-from_sorted}
use Rattle.mesh_cutting.proofs.Groups.{grouped}
use Rattle.mesh_cutting.proofs.grouping.tris_by_keeper.Goals as goal

pub returns : goal.returns
returns c =
    grouped tri_cmp_total tri_cmp-IsAntisymmetric _ c.args.tris.now c.args.tris.now _ _
    (Rises-from_sorted tri_cmp_total c.args.tris.now c.requires) (λ f. refl) c.in_ok-kept.ensures
    (c.sort_unstable_by_key.ensures.sorted (λ (x : ℕ × Tri). (x.0, x.1))
    (answers_always _ _ _ (λ f a r g h. search rules)))
    c.sort_unstable_by_key.ensures.permutation
