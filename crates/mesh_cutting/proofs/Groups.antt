-- Items that are sorted by their numbers, and then by themselves, are grouped.
use Rattle.std.proofs.Common.{◌≡◌, ◌∙◌, ℕ, zero, suc, ◌+◌, ◌≤◌, ◌++◌, arith, Bool, true, false, cond, eqb, List, [], ◌∷◌, map, sym, ap, refl, subst, get_or, inl, inr}
use Rattle.std.proofs.lemmas.Bool.{cases_order, eqb-true}
use Rattle.std.proofs.lemmas.Cmp.{on_total, then_total}
use Rattle.std.proofs.lemmas.List.Sorted.{sorted_far, ranks_by, sum_by-IsPermutation}
use Rattle.std.proofs.lemmas.Map.Keys.{ge_from_not_lt}
use Rattle.std.specs.Cmp.{IsTotalOrder, nat_cmp_total, nat_cmp_is}
use Rattle.std.specs.FinMap.{IsAntisymmetric}
use Rattle.std.specs.List.{filter, flat_map, range_with_len}
use Rattle.std.specs.List.Sorted.{IsSorted, IsPermutation, IsNonDecreasingBy}
use Rattle.std.specs.Ordering.{is_gt, is_lt, nat_cmp, ordering_then}
use Rattle.std.specs.declared.cmp.Ordering.{Ordering}
use Rattle.std.specs.declared.cmp.Ordering.TheVariants.{Less, Equal, Greater}
use Rattle.std.proofs.lemmas.List.Recursion.{is_sum_by}
use Rattle.mesh_data.specs.declared.geometry.Tri.{Tri}
use Rattle.mesh_data.specs.Rings.{from_each_corner}
use Rattle.triangle_lists.proofs.Sorting.{Rises, IsLeast, Rises-from_sorted, weight}
use Rattle.mesh_sheets.proofs.Filters.{sum_filter, weight-map, one_in_order, rises_filter}
use Rattle.mesh_cutting.specs.Cuts.{AreGrouped, tagged}

-- by the number, then by the item
abbrev pub group_cmp : {X : Type 0} → (X → X → Ordering) → ℕ × X → ℕ × X → Ordering
group_cmp cmp p q = ordering_then (nat_cmp p.0 q.0) (cmp p.1 q.1)

not_less_first : (r s : Ordering) → is_lt (ordering_then r s) ≡ false → is_lt r ≡ false
not_less_first Less s h = h
not_less_first Equal s h = refl
not_less_first Greater s h = refl

module _ {X : Type 0} {cmp : X → X → Ordering} (o : IsTotalOrder cmp) (one : IsAntisymmetric cmp) where
  group_total : IsTotalOrder (group_cmp cmp)
  group_total = then_total (on_total (λ (x : ℕ × X). x.0) nat_cmp_total) (on_total (λ (x : ℕ × X). x.1) o)

  same_number : (x y : ℕ × X) (l : ℕ) → eqb x.0 l ≡ true → eqb y.0 l ≡ true → is_gt (group_cmp cmp x y) ≡ false
      → is_gt (cmp x.1 y.1) ≡ false
  same_number x y l here there low =
      let tied : nat_cmp x.0 y.0 ≡ Equal =
      sym (nat_cmp_is x.0 y.0 Equal (eqb-true x.0 l here ∙ sym (eqb-true y.0 l there))) in
      subst (λ (r : Ordering). is_gt (ordering_then r (cmp x.1 y.1)) ≡ false) tied low

  least_group : (x : ℕ × X) (l : ℕ) (ys : List (ℕ × X)) → eqb x.0 l ≡ true → IsLeast group_total x ys
      → IsLeast o x.1 (map (λ y. y.1) (filter (λ y. eqb y.0 l) ys))
  least_group x l [] here low = tt
  least_group x l (y ∷ ys) here low =
      elim (eqb y.0 l) as (λ b. eqb y.0 l ≡ b
      → IsLeast o x.1 (map (λ y. y.1) (cond b (y ∷ filter (λ y. eqb y.0 l) ys) (filter (λ y. eqb y.0 l) ys)))) [
        | true ↦ λ there. (same_number x y l here there low.0, least_group x l ys here low.1)
        | false ↦ λ _. least_group x l ys here low.1
      ] refl

  rises_group : (l : ℕ) (xs : List (ℕ × X)) → Rises group_total xs
      → Rises o (map (λ x. x.1) (filter (λ x. eqb x.0 l) xs))
  rises_group l [] up = tt
  rises_group l (x ∷ xs) up =
      elim (eqb x.0 l) as (λ b. eqb x.0 l ≡ b
      → Rises o (map (λ x. x.1) (cond b (x ∷ filter (λ x. eqb x.0 l) xs) (filter (λ x. eqb x.0 l) xs)))) [
        | true ↦ λ here. (least_group x l xs here up.0, rises_group l xs up.1)
        | false ↦ λ _. rises_group l xs up.1
      ] refl

  by_numbers : (groups : List (ℕ × X)) → IsSorted (group_cmp cmp) groups → IsNonDecreasingBy (λ q. q.0) groups
  by_numbers groups up i j d le lt =
      let p = get_or groups i d in
      let q = get_or groups j d in
      ge_from_not_lt q.0 p.0 (not_less_first (nat_cmp q.0 p.0) _
      (sorted_far (λ x y. is_lt (group_cmp cmp x y)) (ranks_by group_total (λ x. x)) groups up i j d le lt))

  -- xs are the items ys in order
  pub grouped : (k : X → ℕ) (xs ys : List X) (made groups : List (ℕ × X)) → Rises o xs
      → ((f : X → ℕ) → weight f xs ≡ weight f ys) → made ≡ tagged k ys
      → IsSorted (group_cmp cmp) groups → IsPermutation made groups → AreGrouped k xs groups
  grouped k xs ys made groups up alike is sorted moved =
      let by_sum : (g : ℕ × X → ℕ) (qs : List (ℕ × X)) → _ = λ g qs. is_sum_by (weight g) g refl (λ _ _. refl) qs in
      record {
        sorted = by_numbers groups sorted;
        items = λ l.
            one_in_order o one _ _
            (rises_group l groups (Rises-from_sorted group_total groups sorted))
            (rises_filter o one (λ x. eqb (k x) l) xs up)
            (λ f.
            let g : ℕ × X → ℕ = λ x. cond (eqb x.0 l) (f x.1) 0 in
            weight-map f (λ (x : ℕ × X). x.1) (filter (λ x. eqb x.0 l) groups)
            ∙ sum_filter (λ (x : ℕ × X). f x.1) (λ x. eqb x.0 l) groups
            ∙ by_sum g groups ∙ sum_by-IsPermutation g made groups moved ∙ sym (by_sum g made)
            ∙ ap (weight g) is
            ∙ weight-map g (λ x. (k x, x)) ys
            ∙ sym (alike (λ x. cond (eqb (k x) l) (f x) 0))
            ∙ sym (sum_filter f (λ x. eqb (k x) l) xs));
      }

-- ---- what is grouped

pub tagged_corners_are : (k : Tri → ℕ) (ts : List Tri) → flat_map (λ t. tagged k (from_each_corner t)) ts
    ≡ tagged k (flat_map from_each_corner ts)
tagged_corners_are k [] = refl
tagged_corners_are k (t ∷ ts) =
    ap (λ (rest : List (ℕ × Tri)). tagged k (from_each_corner t) ++ rest) (tagged_corners_are k ts)

not_above : (a b : ℕ) → a ≤ b → is_gt (nat_cmp a b) ≡ false
not_above a b le =
    elim (cases_order a b) [
      | inl same ↦ sym (ap is_gt (nat_cmp_is a b Equal same))
      | inr other ↦ elim other [ inl lt ↦ sym (ap is_gt (nat_cmp_is a b Less lt)) | inr gt ↦ absurd (omega (arith, gt, le)) ]
    ]

least_of_range : (a b n : ℕ) → a ≤ b → IsLeast nat_cmp_total a (range_with_len b n)
least_of_range a b zero le = tt
least_of_range a b (suc n) le = (not_above a b le, least_of_range a (b + 1) n (omega arith))

pub range_rises : (a n : ℕ) → Rises nat_cmp_total (range_with_len a n)
range_rises a zero = tt
range_rises a (suc n) = (least_of_range a (a + 1) n (omega arith), range_rises (a + 1) n)
