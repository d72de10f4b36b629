-- Sheets that don't clash agree.
use Rattle.std.proofs.Common.{◌≡◌, ℕ, suc, ◌+◌, ◌<◌, ◌≤◌, Bool, true, false, not, ◌||◌, eqb, List, [], ◌∷◌, ◌++◌, get_or, sym, ap, ◌∙◌, refl, subst, arith, Option, Some, None, inl, inr}
use Rattle.std.specs.Prelude.{◌↔◌}
use Rattle.std.specs.List.{AllByRecursion, IsDistinct, list_any}
use Rattle.std.specs.List.Sorted.{IsNonDecreasing, IsStrictlyIncreasing}
use Rattle.std.specs.Option.{option_map, option_or}
use Rattle.std.specs.Ordering.{nat_cmp}
use Rattle.std.specs.Cmp.{nat_cmp_total}
use Rattle.std.proofs.lemmas.Bool.{and_parts, and_from, ne_eqb, cases_lt, false≢true}
use Rattle.std.proofs.lemmas.List.Sorted.{IsNonDecreasingBy-from_sort, IsPermutation-sym}
use Rattle.std.proofs.lemmas.Map.Keys.{IsDistinct-IsPermutation, IsDistinct-cons, IsDistinct-from_apart, IsDistinct-head, IsDistinct-tail, IsStrictlyIncreasing-from_distinct, below_from_sorted, sorted_from_strictly_increasing}
use Rattle.oemm_limits.specs.declared.TheConstants.{MOST_ITEMS}
use Rattle.oemm_lists.specs.Ascending.{in_order}
use Rattle.mesh_data.specs.Planes.{most_planes}
use Rattle.mesh_data.specs.Rings.{are_distinct}
use Rattle.mesh_sheets.proofs.Climbing.{Climbs, increasing}
use Rattle.sheet_data.specs.declared.sheets.LeafSheet.{LeafSheet}
use Rattle.sheet_forms.specs.Formed.{AreAgreed}
use Rattle.triangle_lists.proofs.Paths.{eqb_comm}
use Rattle.triangle_lists.proofs.Sorting.{IsPermutation-in_order, IsSorted-in_order}
use Rattle.patch_assembly.specs.declared.clash.Clash.{Clash}
use Rattle.patch_assembly.specs.declared.clash.Clash.TheVariants.{Twice, Planes, Many}
use Rattle.patch_assembly.specs.Clashes.{clash_in, faces_in, first_twice, if_above, least_twice, names_in, own_clash, planes_in}
use Rattle.patch_assembly.proofs.Sorted.{climbs_once, once_climbs, twice_told, up_from}
use Rattle.patch_assembly.proofs.Vertices.{if_not_above, when_above}

-- ---- names that differ

climbing : (ns : List ℕ) → IsStrictlyIncreasing ns → Climbs ns
climbing [] up = tt
climbing (n ∷ []) up = tt
climbing (n ∷ m ∷ ns) up = (
  up 0 (omega arith),
  climbing (m ∷ ns) (λ k lt.
      let next : suc k + 1 ≡ suc (k + 1) = omega arith in
      subst (λ (j : ℕ). get_or (m ∷ ns) k 0 < get_or (n ∷ m ∷ ns) j 0) next (up (suc k) (omega arith))),
)

none_is : (n : ℕ) (ns : List ℕ) → AllByRecursion (λ m. eqb n m ≡ false) ns → list_any (λ m. eqb m n) ns ≡ false
none_is n [] all = refl
none_is n (m ∷ ns) all = ap (λ (b : Bool). b || list_any (λ m. eqb m n) ns) (eqb_comm m n ∙ all.0) ∙ none_is n ns all.1

each_is : (n : ℕ) (ns : List ℕ) → list_any (λ m. eqb m n) ns ≡ false → AllByRecursion (λ m. eqb n m ≡ false) ns
each_is n [] none = tt
each_is n (m ∷ ns) none =
    elim (eqb m n) as (λ b. eqb m n ≡ b → (b || list_any (λ m. eqb m n) ns) ≡ false → AllByRecursion (λ m. eqb n m ≡ false) (m ∷ ns)) [
      | true ↦ λ _ no. absurd (false≢true (sym no))
      | false ↦ λ away rest. (eqb_comm n m ∙ away, each_is n ns rest)
    ] refl none

not_false : (b : Bool) → not b ≡ true → b ≡ false
not_false true e = absurd (false≢true e)
not_false false e = refl

distinct_test : (ns : List ℕ) → IsDistinct eqb ns → are_distinct ns ≡ true
distinct_test [] d = refl
distinct_test (n ∷ ns) d =
    and_from _ _ (ap not (none_is n ns (IsDistinct-head eqb n ns d))) (distinct_test ns (IsDistinct-tail eqb n ns d))

distinct_told : (ns : List ℕ) → are_distinct ns ≡ true → IsDistinct eqb ns
distinct_told [] d = IsDistinct-from_apart eqb [] (λ i j d lt no. absurd (omega arith))
distinct_told (n ∷ ns) d =
    let parts = and_parts (not (list_any (λ m. eqb m n) ns)) (are_distinct ns) d in
    IsDistinct-cons eqb n ns (each_is n ns (not_false _ parts.0)) (distinct_told ns parts.1)

module _ (ns : List ℕ) where
  rising : IsNonDecreasing (in_order nat_cmp ns)
  rising = IsNonDecreasingBy-from_sort (λ x. x) (in_order nat_cmp ns) (IsSorted-in_order nat_cmp_total ns)

  told : first_twice (in_order nat_cmp ns) ≡ least_twice ns
  told = twice_told ns (in_order nat_cmp ns) (IsPermutation-in_order nat_cmp ns) rising

  pub none_twice : least_twice ns ≡ None → are_distinct ns ≡ true
  none_twice none =
      let up = increasing (in_order nat_cmp ns) (once_climbs (in_order nat_cmp ns) (up_from (in_order nat_cmp ns) rising) (told ∙ none)) in
      let sorted = sorted_from_strictly_increasing (in_order nat_cmp ns) up in
      let apart : IsDistinct eqb (in_order nat_cmp ns) =
      IsDistinct-from_apart eqb (in_order nat_cmp ns) (λ i j d lt below.
      ne_eqb _ _ (λ e. let less = below_from_sorted (in_order nat_cmp ns) i j d sorted lt below in omega (arith, e, less))) in
      distinct_test ns (IsDistinct-IsPermutation eqb eqb_comm (in_order nat_cmp ns) ns (IsPermutation-sym ns (in_order nat_cmp ns) (IsPermutation-in_order nat_cmp ns)) apart)

  pub twice_none : are_distinct ns ≡ true → least_twice ns ≡ None
  twice_none once =
      let apart = IsDistinct-IsPermutation eqb eqb_comm ns (in_order nat_cmp ns) (IsPermutation-in_order nat_cmp ns) (distinct_told ns once) in
      sym told
      ∙ climbs_once (in_order nat_cmp ns) (climbing (in_order nat_cmp ns) (IsStrictlyIncreasing-from_distinct (in_order nat_cmp ns) rising apart))

-- ---- no clash

none_of : (a b : Option Clash) → option_or a b ≡ None → (a ≡ None) × (b ≡ None)
none_of None b none = (refl, none)
none_of (Some x) b none = absurd (cc)

none_mapped : (o : Option ℕ) → option_map Twice o ≡ None → o ≡ None
none_mapped None none = refl
none_mapped (Some v) none = absurd (cc)

not_above : (limit : ℕ) (clash : ℕ → Clash) (n : ℕ) → if_above limit clash n ≡ None → n ≤ limit
not_above limit clash n none =
    elim (cases_lt limit n) [
      | inl lt ↦ let some = when_above limit clash n lt in absurd (cc)
      | inr le ↦ le
    ]

pub agrees : (inner outer : List LeafSheet) → (clash_in inner outer ≡ None) ↔ AreAgreed inner outer
agrees inner outer = (
  λ none.
      let parts = none_of (own_clash inner) (if_above MOST_ITEMS Many (faces_in (inner ++ outer))) none in
      let own = none_of (option_map Twice (least_twice (names_in inner))) (if_above most_planes Planes (planes_in inner)) parts.0 in
      record {
        once = none_twice (names_in inner) (none_mapped (least_twice (names_in inner)) own.0);
        planes = not_above most_planes Planes (planes_in inner) own.1;
        few = not_above MOST_ITEMS Many (faces_in (inner ++ outer)) parts.1;
      },
  λ agreed.
      ap (λ (o : Option ℕ). option_or (option_or (option_map Twice o) (if_above most_planes Planes (planes_in inner))) (if_above MOST_ITEMS Many (faces_in (inner ++ outer))))
      (twice_none (names_in inner) agreed.once)
      ∙ ap (λ (o : Option Clash). option_or o (if_above MOST_ITEMS Many (faces_in (inner ++ outer)))) (if_not_above most_planes Planes (planes_in inner) agreed.planes)
      ∙ if_not_above MOST_ITEMS Many (faces_in (inner ++ outer)) agreed.few,
)
