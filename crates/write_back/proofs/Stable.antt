-- Items that are sorted by their leaves alone, those of one leaf as they stood.
use Rattle.std.proofs.Common.{◌≡◌, ℕ, ◌&&◌, not, eqb, List, [], ◌∷◌, length, sym, ap, ◌∙◌, refl, arith, inl, inr}
use Rattle.std.proofs.lemmas.Bool.{cases_order, eq-eqb, ne_eqb}
use Rattle.std.specs.Cmp.{nat_cmp_is}
use Rattle.std.specs.List.{filter}
use Rattle.std.specs.List.Sorted.{IsStableByKey}
use Rattle.std.specs.Ordering.{is_lt, nat_cmp}
use Rattle.std.specs.declared.cmp.Ordering.TheVariants.{Less, Equal}
use Rattle.mesh_sheets.proofs.Filters.{and_false}

-- numbers tie where they are the same
tie_is : (l m : ℕ) → (not (is_lt (nat_cmp l m)) && not (is_lt (nat_cmp m l))) ≡ eqb m l
tie_is l m =
    elim (cases_order l m) [
      | inl same ↦
          (λ i. not (is_lt (sym (nat_cmp_is l m Equal same) i)) && not (is_lt (sym (nat_cmp_is m l Equal (sym same)) i)))
          ∙ sym (eq-eqb m l (sym same))
      | inr other ↦ elim other [
        | inl lt ↦
            ap (λ r. not (is_lt r) && not (is_lt (nat_cmp m l))) (sym (nat_cmp_is l m Less lt))
            ∙ sym (ne_eqb m l (λ e. omega (arith, e, lt)))
        | inr gt ↦
            ap (λ r. not (is_lt (nat_cmp l m)) && not (is_lt r)) (sym (nat_cmp_is m l Less gt))
            ∙ and_false (not (is_lt (nat_cmp l m)))
            ∙ sym (ne_eqb m l (λ e. omega (arith, e, gt)))
      ]
    ]

pub stable_same : {X : Type 0} (items groups : List (ℕ × X)) → length groups ≡ length items
    → IsStableByKey (λ x. x.0) nat_cmp items groups → (l : ℕ)
    → filter (λ x. eqb x.0 l) groups ≡ filter (λ x. eqb x.0 l) items
stable_same [] [] long stable l = refl
stable_same [] (y ∷ ys) long stable l = absurd (omega (arith, long))
stable_same (x ∷ xs) groups long stable l =
    (λ i. filter (λ y. sym (tie_is l y.0) i) groups)
    ∙ stable (l, x.1)
    ∙ (λ i. filter (λ y. tie_is l y.0 i) (x ∷ xs))
