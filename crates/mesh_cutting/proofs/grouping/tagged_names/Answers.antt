use Rattle.std.proofs.Common.{◌≡◌, ◌∙◌, ℕ, List, [], ◌∷◌, ◌++◌, sym, refl, arith}
use Rattle.std.proofs.lemmas.List.FromFn.{map-range_with_len_more}
use Rattle.std.specs.Prelude.{slice_index_or}
use Rattle.mesh_cutting.proofs.grouping.tagged_names.Goals as goal

pub loop-place-preserved : goal.loop-place-preserved
loop-place-preserved c =
    let h : ℕ → ℕ = λ v. slice_index_or c.args.homes.now v c.args.none in
    let place = c.loop-place.place in
    c.in_ok-push.ensures.items
    ∙ (λ i. c.loop-place.invariant i ++ (c.leaf_at.ensures i, place) ∷ [])
    ∙ sym (map-range_with_len_more (λ v. (h v, v)) 0 place place (omega arith))
