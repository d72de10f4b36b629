-- Sorted items, each of which is kept once.
use Rattle.std.proofs.Common.{◌≡◌, ℕ, Bool, true, false, cond, ◌||◌, eqb, List, [], ◌∷◌, sym, ap, ◌∙◌, refl, subst}
use Rattle.std.proofs.lemmas.Bool.{eqb-true}
use Rattle.std.proofs.lemmas.List.Filters.{dedup_is}
use Rattle.std.proofs.lemmas.List.Sorted.{list_any-IsPermutation}
use Rattle.std.proofs.lemmas.Map.Keys.{IsStrictlyIncreasing-dedup}
use Rattle.std.specs.List.{list_any, dedup, dedup_from}
use Rattle.std.specs.List.Retain.{DiffersFromLast, IsFiltered}
use Rattle.std.specs.List.Sorted.{IsPermutation, IsSorted, IsStrictlyIncreasing}
use Rattle.std.specs.Ordering.{nat_cmp}
use Rattle.oemm_lists.specs.Numbers.{among}

or_again : (a b : Bool) → (a || b) ≡ (a || (a || b))
or_again true b = refl
or_again false b = refl

list_any-dedup_from : {X : Type 0} (same : X → X → Bool) → ((x y : X) → same x y ≡ true → x ≡ y) → (p : X → Bool) (k : X) (xs : List X)
    → list_any p (dedup_from same k xs) ≡ (p k || list_any p xs)
list_any-dedup_from same exact p k [] = refl
list_any-dedup_from same exact p k (x ∷ xs) =
    elim (same x k) as (λ b. same x k ≡ b → list_any p (cond b (dedup_from same k xs) (k ∷ dedup_from same x xs)) ≡ (p k || (p x || list_any p xs))) [
      | true ↦ λ is. list_any-dedup_from same exact p k xs ∙ or_again (p k) (list_any p xs) ∙ ap (λ y. p k || (p y || list_any p xs)) (sym (exact x k is))
      | false ↦ λ _. ap (λ (b : Bool). p k || b) (list_any-dedup_from same exact p x xs)
    ] refl

-- items of which equal neighbours are dropped pass a test alike
pub list_any-dedup : {X : Type 0} (same : X → X → Bool) → ((x y : X) → same x y ≡ true → x ≡ y) → (p : X → Bool) (xs : List X) → list_any p (dedup same xs) ≡ list_any p xs
list_any-dedup same exact p [] = refl
list_any-dedup same exact p (x ∷ xs) = list_any-dedup_from same exact p x xs

-- sorted numbers that are kept once each have the members that they had
pub among-once : (numbers sorted once : List ℕ) (n : ℕ) → IsPermutation numbers sorted → IsFiltered (DiffersFromLast eqb) [] sorted once → among n once ≡ among n numbers
among-once numbers sorted once n moved kept =
    let p : ℕ → Bool = λ m. eqb m n in
    ap (list_any p) (dedup_is eqb sorted once kept) ∙ list_any-dedup eqb eqb-true p sorted ∙ sym (list_any-IsPermutation p numbers sorted moved)

-- and they ascend
pub ascends-once : (sorted once : List ℕ) → IsSorted nat_cmp sorted → IsFiltered (DiffersFromLast eqb) [] sorted once → IsStrictlyIncreasing once
ascends-once sorted once up kept = subst IsStrictlyIncreasing (sym (dedup_is eqb sorted once kept)) (IsStrictlyIncreasing-dedup sorted up)
