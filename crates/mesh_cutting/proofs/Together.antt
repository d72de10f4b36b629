-- In a list that doesn't fall by a number the items of one number stand together.
use Rattle.std.proofs.Common.{◌≡◌, ℕ, ◌+◌, ◌<◌, ◌≤◌, Bool, true, false, cond, eqb, ltb, leb, List, [], ◌∷◌, ◌++◌, length, get_or, take, drop, suc, sym, ap, ◌∙◌, refl, subst, arith, append-nil}
use Rattle.std.proofs.lemmas.Bool.{ltb-true, ltb-false, leb-true, leb-false, eq-eqb, ne_eqb}
use Rattle.std.proofs.lemmas.List.{take-append-drop, length-take, length-drop, get_or-take, get_or-drop}
use Rattle.std.proofs.lemmas.List.Elements.{filter-append}
use Rattle.std.proofs.lemmas.List.Sorted.{IsPartitionedBy-ltb, IsPartitionedBy-leb, IsNonDecreasingBy-drop}
use Rattle.std.specs.List.{filter, All}
use Rattle.std.specs.List.Sorted.{IsNonDecreasingBy, IsPartitionedBy, IsPartitionPoint}

filter_none : {X : Type 0} (p : X → Bool) (xs : List X) → All (λ x. p x ≡ false) xs → filter p xs ≡ []
filter_none p [] none = refl
filter_none p (x ∷ xs) none =
    ap (λ (b : Bool). cond b (x ∷ filter p xs) (filter p xs)) (none 0 x (omega arith))
    ∙ filter_none p xs (λ k d lt. none (suc k) d (omega arith))

filter_all : {X : Type 0} (p : X → Bool) (xs : List X) → All (λ x. p x ≡ true) xs → filter p xs ≡ xs
filter_all p [] all = refl
filter_all p (x ∷ xs) all =
    ap (λ (b : Bool). cond b (x ∷ filter p xs) (filter p xs)) (all 0 x (omega arith))
    ∙ ap (λ ys. x ∷ ys) (filter_all p xs (λ k d lt. all (suc k) d (omega arith)))

module _ {X : Type 0} (key : X → ℕ) (v : ℕ) where
  abbrev pub Below : List X → ℕ → Type 0
  Below xs i = IsPartitionPoint (λ x. ltb (key x) v ≡ true) (λ x. ltb (key x) v ≡ false) xs i

  abbrev pub UpTo : List X → ℕ → Type 0
  UpTo xs i = IsPartitionPoint (λ x. leb (key x) v ≡ true) (λ x. leb (key x) v ≡ false) xs i

  front_apart : (xs : List X) (i : ℕ) → Below xs i → i ≤ length xs → All (λ x. eqb (key x) v ≡ false) (take i xs)
  front_apart xs i at within m d lt =
      let below : m < i = omega (arith, length-take i xs) in
      let low : key (get_or xs m d) < v = ltb-true (key (get_or xs m d)) v (at.0 m d (omega arith) below) in
      ap (λ (x : X). eqb (key x) v) (get_or-take i xs m d below) ∙ ne_eqb (key (get_or xs m d)) v (λ same. omega arith)

  group_same : (xs : List X) (i k : ℕ) → Below xs i → UpTo (drop i xs) k → i ≤ length xs → k ≤ length (drop i xs)
      → All (λ x. eqb (key x) v ≡ true) (take k (drop i xs))
  group_same xs i k at upto within fits m d lt =
      let rest = drop i xs in
      let below : m < k = omega (arith, length-take k rest) in
      let high : key (get_or rest m d) ≤ v = leb-true (key (get_or rest m d)) v (upto.0 m d (omega arith) below) in
      let low : v ≤ key (get_or xs (i + m) d) =
      ltb-false (key (get_or xs (i + m) d)) v (at.1 (i + m) d (omega arith) (omega (arith, length-drop i xs))) in
      let same : key (get_or rest m d) ≡ key (get_or xs (i + m) d) = ap key (get_or-drop i xs m d) in
      ap (λ (x : X). eqb (key x) v) (get_or-take k rest m d below) ∙ eq-eqb (key (get_or rest m d)) v (omega arith)

  back_apart : (rest : List X) (k : ℕ) → UpTo rest k → k ≤ length rest → All (λ x. eqb (key x) v ≡ false) (drop k rest)
  back_apart rest k upto fits m d lt =
      let high : v < key (get_or rest (k + m) d) =
      leb-false (key (get_or rest (k + m) d)) v (upto.1 (k + m) d (omega arith) (omega (arith, length-drop k rest))) in
      ap (λ (x : X). eqb (key x) v) (get_or-drop k rest m d)
      ∙ ne_eqb (key (get_or rest (k + m) d)) v (λ same. omega arith)

  run_is : (xs : List X) (i k : ℕ) → Below xs i → UpTo (drop i xs) k → i ≤ length xs → k ≤ length (drop i xs)
      → take k (drop i xs) ≡ filter (λ x. eqb (key x) v) xs
  run_is xs i k at upto within fits =
      let p : X → Bool = λ x. eqb (key x) v in
      let rest = drop i xs in
      let of_rest : filter p rest ≡ take k rest =
      ap (filter p) (sym (take-append-drop k rest))
      ∙ filter-append p (take k rest) (drop k rest)
      ∙ (λ n. filter_all p (take k rest) (group_same xs i k at upto within fits) n
      ++ filter_none p (drop k rest) (back_apart rest k upto fits) n)
      ∙ append-nil (take k rest) in
      sym (
      ap (filter p) (sym (take-append-drop i xs))
      ∙ filter-append p (take i xs) rest
      ∙ (λ n. filter_none p (take i xs) (front_apart xs i at within) n ++ of_rest n)
      )

  pub parted_below : (xs : List X) → IsNonDecreasingBy key xs → IsPartitionedBy (λ x. ltb (key x) v) xs
  parted_below xs up = IsPartitionedBy-ltb key xs v up

  pub parted_upto : (xs rest : List X) (i : ℕ) → IsNonDecreasingBy key xs → rest ≡ drop i xs
      → IsPartitionedBy (λ x. leb (key x) v) rest
  parted_upto xs rest i up is =
      subst (IsPartitionedBy (λ x. leb (key x) v)) (sym is)
      (IsPartitionedBy-leb key (drop i xs) v (IsNonDecreasingBy-drop key i xs up))

  -- those of the number stand from the first that isn't below it to the last that isn't above it
  pub run_by_parts : (xs rest run : List X) (i k : ℕ) → Below xs i → rest ≡ drop i xs → UpTo rest k → i ≤ length xs
      → k ≤ length rest → run ≡ take k rest → run ≡ filter (λ x. eqb (key x) v) xs
  run_by_parts xs rest run i k at is upto within fits made =
      made ∙ ap (take k) is
      ∙ run_is xs i k at (subst (λ ys. UpTo ys k) is upto) within (subst (λ ys. k ≤ length ys) is fits)
