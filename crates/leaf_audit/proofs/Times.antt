-- A table of how often names come.
use Rattle.std.proofs.Common.{◌≡◌, ◌≢◌, ℕ, zero, suc, ◌+◌, ◌<◌, ◌≤◌, min, Bool, true, false, cond, eqb, List, [], ◌∷◌, ◌++◌, length, set, get_or, refl, sym, ap, ◌∙◌, arith, Option, Some, None}
use Rattle.std.specs.Prelude.{slice_index}
use Rattle.std.specs.List.{All, AllByRecursion, count_by, find}
use Rattle.std.specs.List.Sorted.{IsNonDecreasing, IsStrictlyIncreasing}
use Rattle.std.specs.Cmp.{nat_cmp_total}
use Rattle.std.specs.Ordering.{nat_cmp}
use Rattle.std.proofs.lemmas.Bool.{eqb-false, eqb-true, lt-ltb, ltb-true, false_from_ne_true}
use Rattle.std.proofs.lemmas.Grind.{get_or-set_at}
use Rattle.std.proofs.lemmas.List.{get_or-set_other, length-set}
use Rattle.std.proofs.lemmas.List.Elements.{recursion_from_All}
use Rattle.std.proofs.lemmas.List.Sorted.{All-permutation, IsNonDecreasingBy-from_sort, length_permutation, sum_by-IsPermutation}
use Rattle.std.proofs.lemmas.List.Sums.{sum_by-append, sum_by-cons}
use Rattle.oemm_lists.specs.Ascending.{in_order}
use Rattle.mesh_sheets.proofs.Climbing.{increasing}
use Rattle.sheet_forms.proofs.Counts.{few_climbing}
use Rattle.triangle_lists.proofs.Sorting.{IsPermutation-in_order, IsSorted-in_order}
use Rattle.patch_assembly.specs.Clashes.{comes_twice, least_twice}
use Rattle.patch_assembly.proofs.Sorted.{Up, once_climbs, twice_told, up_from}
use Rattle.leaf_audit.specs.Tallies.{AreTimes, IsFirstTwice}

abbrev one : Bool → ℕ
one b = cond b 1 0

count_cons : (v n : ℕ) (ns : List ℕ) → count_by (λ m. eqb m v) (n ∷ ns) ≡ one (eqb n v) + count_by (λ m. eqb m v) ns
count_cons v n ns = sum_by-cons (λ m. one (eqb m v)) n ns

count_more : (v n : ℕ) (ns : List ℕ) → count_by (λ m. eqb m v) (ns ++ n ∷ []) ≡ count_by (λ m. eqb m v) ns + one (eqb n v)
count_more v n ns =
    let all = sum_by-append (λ m. one (eqb m v)) ns (n ∷ []) in
    let last = count_cons v n [] in
    let none : count_by (λ m. eqb m v) [] ≡ 0 = refl in
    omega (arith, all, last, none)

-- one name more is counted
pub times_more : (table names : List ℕ) (v x : ℕ) → v < length table → AreTimes table names
    → x ≡ min (slice_index table v + 1) 2 → AreTimes (set table v x) (names ++ v ∷ [])
times_more table names v x lt times is w below =
    elim (eqb v w) as (λ b. eqb v w ≡ b → slice_index (set table v x) w ≡ min 2 (count_by (λ m. eqb m w) (names ++ v ∷ []))) [
      | true ↦ λ same.
          let e : v ≡ w = eqb-true v w same in
          let more = count_more w v names in
          let here : one (eqb v w) ≡ 1 = ap one same in
          let old : slice_index table v ≡ min 2 (count_by (λ m. eqb m w) names) =
          times v lt ∙ ap (λ (k : ℕ). min 2 (count_by (λ m. eqb m k) names)) e in
          get_or-set_at table v w x 0 (sym e) lt ∙ omega (arith, is, old, more, here)
      | false ↦ λ away.
          let apart : w ≢ v = λ e. let differs = eqb-false v w away in differs (sym e) in
          let more = count_more w v names in
          let here : one (eqb v w) ≡ 0 = ap one away in
          let len : w < length table = omega (arith, below, length-set table v x) in
          get_or-set_other table v w x 0 apart ∙ times w len ∙ omega (arith, more, here)
    ] refl

-- ---- the least name that comes twice

none_found : (p : ℕ → Bool) (ns : List ℕ) → AllByRecursion (λ n. p n ≡ false) ns → find p ns ≡ None
none_found p [] all = refl
none_found p (n ∷ ns) all = ap (λ (b : Bool). cond b (Some n) (find p ns)) all.0 ∙ none_found p ns all.1

above_all : (v x : ℕ) (ns : List ℕ) → AllByRecursion (λ m. x ≤ m) ns → 0 < count_by (λ m. eqb m v) ns → x ≤ v
above_all v x [] all some = absurd (omega (arith, some))
above_all v x (n ∷ ns) all some =
    elim (eqb n v) as (λ b. eqb n v ≡ b → x ≤ v) [
      | true ↦ λ same. let e : n ≡ v = eqb-true n v same in let le : x ≤ n = all.0 in omega (arith, e, le)
      | false ↦ λ away.
          let here : one (eqb n v) ≡ 0 = ap one away in
          above_all v x ns all.1 (omega (arith, some, count_cons v n ns, here))
    ] refl

least_found : (p : ℕ → Bool) (v : ℕ) (ns : List ℕ) → Up ns → p v ≡ true → 0 < count_by (λ m. eqb m v) ns
    → ((w : ℕ) → w < v → p w ≡ false) → find p ns ≡ Some v
least_found p v [] up on some least = absurd (omega (arith, some))
least_found p v (n ∷ ns) up on some least =
    elim (eqb n v) as (λ b. eqb n v ≡ b → find p (n ∷ ns) ≡ Some v) [
      | true ↦ λ same.
          let e : n ≡ v = eqb-true n v same in
          ap (λ (b : Bool). cond b (Some n) (find p ns)) (ap p e ∙ on) ∙ ap Some e
      | false ↦ λ away.
          let here : one (eqb n v) ≡ 0 = ap one away in
          let rest : 0 < count_by (λ m. eqb m v) ns = omega (arith, some, count_cons v n ns, here) in
          let le : n ≤ v = above_all v n ns up.0 rest in
          let apart : n ≢ v = eqb-false n v away in
          let lt : n < v = omega (arith, le, apart) in
          ap (λ (b : Bool). cond b (Some n) (find p ns)) (least n lt) ∙ least_found p v ns up.1 on rest least
    ] refl

each_below : (P : ℕ → Type 0) (n : ℕ) (ns : List ℕ) → ((m : ℕ) → m < n → P m) → AllByRecursion (λ m. m < n) ns → AllByRecursion P ns
each_below P n [] h all = tt
each_below P n (m ∷ ns) h all = (h m all.0, each_below P n ns h all.1)

module _ (ns : List ℕ) where
  rising : IsNonDecreasing (in_order nat_cmp ns)
  rising = IsNonDecreasingBy-from_sort (λ x. x) (in_order nat_cmp ns) (IsSorted-in_order nat_cmp_total ns)

  counted_in_order : (v : ℕ) → count_by (λ m. eqb m v) (in_order nat_cmp ns) ≡ count_by (λ m. eqb m v) ns
  counted_in_order v = sum_by-IsPermutation (λ m. one (eqb m v)) ns (in_order nat_cmp ns) (IsPermutation-in_order nat_cmp ns)

  module _ (n : ℕ) (below : All (λ m. m < n) ns) where
    ordered_below : AllByRecursion (λ m. m < n) (in_order nat_cmp ns)
    ordered_below =
        recursion_from_All (λ m. m < n) (in_order nat_cmp ns)
        (All-permutation (λ m. m < n) ns (in_order nat_cmp ns) (IsPermutation-in_order nat_cmp ns) below)

    -- names below n, none of which comes twice, are at most n
    pub few_names : least_twice ns ≡ None → length ns ≤ n
    few_names none =
        let told = twice_told ns (in_order nat_cmp ns) (IsPermutation-in_order nat_cmp ns) rising in
        let up : IsStrictlyIncreasing (in_order nat_cmp ns) =
        increasing (in_order nat_cmp ns) (once_climbs (in_order nat_cmp ns) (up_from (in_order nat_cmp ns) rising) (told ∙ none)) in
        let le = few_climbing n (in_order nat_cmp ns) up (at_each (in_order nat_cmp ns) ordered_below) in
        let same = length_permutation ns (in_order nat_cmp ns) (IsPermutation-in_order nat_cmp ns) in
        omega (arith, le, same)
      where
        at_each : (ms : List ℕ) → AllByRecursion (λ m. m < n) ms → (k : ℕ) → k < length ms → get_or ms k 0 < n
        at_each [] all k lt = absurd (omega arith)
        at_each (m ∷ ms) all zero lt = all.0
        at_each (m ∷ ms) all (suc k) lt = at_each ms all.1 k (omega arith)

-- what a table says comes twice first is the least name that does
module _ (table ns : List ℕ) (times : AreTimes table ns) (below : All (λ m. m < length table) ns) where
  once : (v : ℕ) → v < length table → (slice_index table v ≡ 2 → ⊥) → comes_twice ns v ≡ false
  once v lt differs =
      false_from_ne_true (comes_twice ns v) (λ h.
      let many : 1 < count_by (λ m. eqb m v) ns = ltb-true 1 (count_by (λ m. eqb m v) ns) h in
      differs (times v lt ∙ omega (arith, many)))

  pub told_twice : (o : Option ℕ) → IsFirstTwice table o → least_twice ns ≡ o
  told_twice None first =
      none_found (comes_twice ns) (in_order nat_cmp ns)
      (each_below (λ m. comes_twice ns m ≡ false) (length table) (in_order nat_cmp ns) (λ m lt. once m lt (first m lt))
      (ordered_below ns (length table) below))
  told_twice (Some v) first =
      let lt : v < length table = first.0 in
      let is : min 2 (count_by (λ m. eqb m v) ns) ≡ 2 = sym (times v lt) ∙ first.1 in
      let many : 1 < count_by (λ m. eqb m v) ns = omega (arith, is) in
      let some : 0 < count_by (λ m. eqb m v) (in_order nat_cmp ns) = omega (arith, many, counted_in_order ns v) in
      least_found (comes_twice ns) v (in_order nat_cmp ns) (up_from (in_order nat_cmp ns) (rising ns))
      (lt-ltb 1 (count_by (λ m. eqb m v) ns) many) some
      (λ w less. once w (omega (arith, less, lt)) (first.2 w less))
