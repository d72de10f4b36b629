-- Numbers found by a binary search.
use Rattle.std.proofs.Common.{◌≡◌, ℕ, ◌≤◌, ◌<◌, eqb, List, [], ◌∷◌, length, map, get_or, Result, Ok, Err, is_ok, sym, ap, ◌∙◌, refl, subst, arith, inl, inr}
use Rattle.std.proofs.lemmas.Bool.{eq-eqb, ne_eqb, cases_lt}
use Rattle.std.proofs.lemmas.List.{get_or_default, get_or-map, length-map}
use Rattle.std.proofs.lemmas.List.Folds.{list_any_at, list_any_none}
use Rattle.std.proofs.lemmas.List.Sorted.{searched}
use Rattle.std.proofs.lemmas.Map.Keys.{non_decreasing_from_sorted, sorted_from_strictly_increasing}
use Rattle.std.specs.List.Sorted.{IsNonDecreasing, IsNonDecreasingBy, IsStrictlyIncreasing, IsBinarySearchResult, IsSearchInRange}
use Rattle.std.specs.Ordering.{nat_cmp, ordering_index}
use Rattle.oemm_lists.specs.Numbers.{among}

pub ascending_rises : (ns : List ℕ) → IsStrictlyIncreasing ns → IsNonDecreasing ns
ascending_rises ns up = non_decreasing_from_sorted ns (sorted_from_strictly_increasing ns up)

-- what a binary search among numbers that don't fall answers
pub found_number : (ns : List ℕ) (n : ℕ) (r : Result ℕ ℕ) → IsNonDecreasing ns → IsBinarySearchResult (λ y. nat_cmp y n) ns r → is_ok r ≡ among n ns
found_number ns n (Ok i) up at =
    let found = searched ns n (Ok i) at (λ i j le lt. up i j 0 le lt) in
    sym (list_any_at (λ x. eqb x n) ns i 0 found.0 (eq-eqb (get_or ns i 0) n found.1))
found_number ns n (Err i) up at =
    let parts = searched ns n (Err i) at (λ i j le lt. up i j 0 le lt) in
    sym (list_any_none (λ x. eqb x n) ns (λ k d lt.
    let same : get_or ns k d ≡ get_or ns k 0 = get_or_default ns k d 0 lt in
    ne_eqb (get_or ns k d) n (λ e. elim (cases_lt k i) [ inl below ↦ let apart = parts.1 k below in omega arith | inr above ↦ let apart = parts.2 k above lt in omega arith ])))

-- a search by the number of items is one among their numbers
by_numbers : {X : Type 0} (f : X → ℕ) (x : X) (xs : List X) (n : ℕ) (r : Result ℕ ℕ)
    → IsSearchInRange r (length xs) → IsBinarySearchResult (λ y. nat_cmp (f y) n) xs r → IsBinarySearchResult (λ y. nat_cmp y n) (map f xs) r
by_numbers f x xs n (Ok i) lt at = λ d. ap (λ m. nat_cmp m n) (get_or-map f xs i x d lt) ∙ at x
by_numbers f x xs n (Err i) le at = λ up.
    let len : length (map f xs) ≡ length xs = length-map xs f in
    let parts = at (λ a b d a_b lt.
    subst (λ m. ordering_index (nat_cmp m n) ≤ ordering_index (nat_cmp (f (get_or xs b d)) n)) (get_or-map f xs a d 0 (omega (arith, a_b, lt)))
    (subst (λ m. ordering_index (nat_cmp (get_or (map f xs) a 0) n) ≤ ordering_index (nat_cmp m n)) (get_or-map f xs b d 0 lt) (up a b 0 a_b (omega (arith, len, lt))))) in (
      λ k d lo lt. ap (λ m. nat_cmp m n) (get_or-map f xs k x d (omega (arith, lt, le))) ∙ parts.0 k x lo lt,
      λ k d lo lt. ap (λ m. nat_cmp m n) (get_or-map f xs k x d (omega (arith, lt, len))) ∙ parts.1 k x lo (omega (arith, lt, len)),
    )

-- what a binary search by the number of items answers
pub found_by : {X : Type 0} (f : X → ℕ) (xs : List X) (n : ℕ) (r : Result ℕ ℕ)
    → IsNonDecreasing (map f xs) → IsSearchInRange r (length xs) → IsBinarySearchResult (λ y. nat_cmp (f y) n) xs r → is_ok r ≡ among n (map f xs)
found_by f [] n (Ok i) up lt at = absurd (omega (arith, lt))
found_by f [] n (Err i) up le at = refl
found_by f (x ∷ xs) n r up place at = found_number (map f (x ∷ xs)) n r up (by_numbers f x (x ∷ xs) n r place at)
