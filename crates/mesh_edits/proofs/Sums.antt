-- How many planes two vertices have.
use Rattle.std.proofs.Common.{◌≡◌, ◌≢◌, ℕ, ◌+◌, ◌≤◌, true, false, cond, eqb, List, [], ◌∷◌, Option, Some, sym, ◌∙◌, refl, arith}
use Rattle.std.proofs.lemmas.Bool.{eqb-true}
use Rattle.std.proofs.lemmas.List.Recursion.{is_sum_by}
use Rattle.std.specs.List.{find, sum_by}
use Rattle.std.specs.Option.{option_map_or}
use Rattle.mesh_data.specs.Planes.{no_sums}
use Rattle.sheet_data.specs.Summed.{SummedVertex}
use Rattle.patch_edits.specs.PatchMesh.{sums_at}

abbrev weighs : List SummedVertex → ℕ
weighs [] = 0
weighs (x ∷ xs) = x.quad.planes + weighs xs

weighs_is : (vs : List SummedVertex) → weighs vs ≡ sum_by (λ (x : SummedVertex). x.quad.planes) vs
weighs_is vs = is_sum_by weighs (λ (x : SummedVertex). x.quad.planes) refl (λ _ _. refl) vs

abbrev planes_of : Option SummedVertex → ℕ
planes_of o = (option_map_or (λ (x : SummedVertex). x.quad) o no_sums).planes

one_weighs : (v : ℕ) (vs : List SummedVertex) → planes_of (find (λ (x : SummedVertex). eqb v x.name) vs) ≤ weighs vs
one_weighs v [] = omega arith
one_weighs v (x ∷ vs) =
    let rest = one_weighs v vs in
    elim (eqb v x.name) as (λ b. planes_of (cond b (Some x) (find (λ (x : SummedVertex). eqb v x.name) vs)) ≤ x.quad.planes + weighs vs) [ true ↦ omega arith | false ↦ omega arith ]

two_weigh : (u v : ℕ) (vs : List SummedVertex) → u ≢ v
    → planes_of (find (λ (x : SummedVertex). eqb u x.name) vs) + planes_of (find (λ (x : SummedVertex). eqb v x.name) vs) ≤ weighs vs
two_weigh u v [] apart = omega arith
two_weigh u v (x ∷ vs) apart =
    let at_u = find (λ (x : SummedVertex). eqb u x.name) vs in
    let at_v = find (λ (x : SummedVertex). eqb v x.name) vs in
    let rest = two_weigh u v vs apart in
    let of_u = one_weighs u vs in
    let of_v = one_weighs v vs in
    elim (eqb u x.name) as (λ b. eqb u x.name ≡ b → planes_of (cond b (Some x) at_u) + planes_of (cond (eqb v x.name) (Some x) at_v) ≤ x.quad.planes + weighs vs) [
      | true ↦ λ here. elim (eqb v x.name) as (λ b. eqb v x.name ≡ b → x.quad.planes + planes_of (cond b (Some x) at_v) ≤ x.quad.planes + weighs vs) [
        | true ↦ λ there. absurd (apart (eqb-true u x.name here ∙ sym (eqb-true v x.name there)))
        | false ↦ λ _. omega arith
      ] refl
      | false ↦ λ _. elim (eqb v x.name) as (λ b. planes_of at_u + planes_of (cond b (Some x) at_v) ≤ x.quad.planes + weighs vs) [ true ↦ omega arith | false ↦ omega arith ]
    ] refl

-- two names have no more planes than all
pub two_at : (u v : ℕ) (vs : List SummedVertex) (most : ℕ) → u ≢ v → sum_by (λ (x : SummedVertex). x.quad.planes) vs ≤ most → (sums_at vs u).planes + (sums_at vs v).planes ≤ most
two_at u v vs most apart few = omega (arith, two_weigh u v vs apart, weighs_is vs, few)
