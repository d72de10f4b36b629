-- The leaves round a core.
use Rattle.std.proofs.Common.{◌≡◌, ℕ, suc, ◌+◌, ◌<◌, ◌≤◌, Bool, true, false, not, ◌&&◌, ◌||◌, eqb, List, [], ◌∷◌, length, get_or, refl, sym, ap, ◌∙◌, subst, arith, inl, inr, flat_map}
use Rattle.std.specs.List.{AllByRecursion, filter, list_any, range_with_len}
use Rattle.std.specs.List.Sorted.{IsStrictlyIncreasing}
use Rattle.std.proofs.lemmas.Bool.{and_parts, eq-eqb, eqb-true, false≢true, false_from_ne_true, or_cases, or_left}
use Rattle.std.proofs.lemmas.List.Folds.{list_any-append}
use Rattle.std.proofs.lemmas.List.Kept.{IsStrictlyIncreasing-filter}
use Rattle.oemm_lists.specs.Numbers.{among}
use Rattle.oemm_octree.specs.declared.cells.Cell.{Cell}
use Rattle.oemm_octree.specs.Leaves.{AreBelow, is_one_of}
use Rattle.mesh_sheets.specs.Assembled.{rim_of}
use Rattle.mesh_sheets.proofs.Assembling.{one_of_range}
use Rattle.mesh_sheets.proofs.Climbing.{Climbs, increasing, range_climbs}
use Rattle.mesh_sheets.proofs.Filters.{any_agree, one_of_filter}
use Rattle.sheet_data.specs.declared.sheets.LeafSheet.{LeafSheet}
use Rattle.triangle_lists.proofs.Paths.{eqb_comm}

-- ---- lists that climb and have the same members are one

at_most : (n : ℕ) (ns : List ℕ) → Climbs (n ∷ ns) → (l : ℕ) → is_one_of ns l ≡ true → n < l
at_most n [] up l on = absurd (false≢true on)
at_most n (k ∷ ns) up l on =
    elim (eqb l k) as (λ b. eqb l k ≡ b → (b || is_one_of ns l) ≡ true → n < l) [
      | true ↦ λ same _. subst (λ (j : ℕ). n < j) (sym (eqb-true l k same)) up.0
      | false ↦ λ _ more. let later = at_most k ns up.1 l more in let first : n < k = up.0 in omega arith
    ] refl on

climbs_on : (n : ℕ) (ns : List ℕ) → Climbs (n ∷ ns) → Climbs ns
climbs_on n [] up = tt
climbs_on n (k ∷ ns) up = up.1

head_of : (n : ℕ) (ns : List ℕ) → is_one_of (n ∷ ns) n ≡ true
head_of n ns = or_left (eqb n n) (is_one_of ns n) (eq-eqb n n refl)

-- the first of one list is not below the first of the other
not_below : (x y : ℕ) (xs ys : List ℕ) → Climbs (y ∷ ys) → ((l : ℕ) → is_one_of (x ∷ xs) l ≡ is_one_of (y ∷ ys) l) → y ≤ x
not_below x y xs ys up alike =
    let on : is_one_of (y ∷ ys) x ≡ true = sym (alike x) ∙ head_of x xs in
    elim (or_cases (eqb x y) (is_one_of ys x) on) [
      | inl same ↦ let e = eqb-true x y same in omega arith
      | inr later ↦ let above = at_most y ys up x later in omega arith
    ]

without : (n : ℕ) (ns : List ℕ) → Climbs (n ∷ ns) → (l : ℕ) → is_one_of ns l ≡ (not (eqb l n) && is_one_of (n ∷ ns) l)
without n ns up l =
    elim (eqb l n) as (λ b. eqb l n ≡ b → is_one_of ns l ≡ (not b && (b || is_one_of ns l))) [
      | true ↦ λ same. false_from_ne_true (is_one_of ns l) (λ on. let above = at_most n ns up l on in let e = eqb-true l n same in absurd (omega arith))
      | false ↦ λ _. refl
    ] refl

pub same_climbs : (xs ys : List ℕ) → Climbs xs → Climbs ys → ((l : ℕ) → is_one_of xs l ≡ is_one_of ys l) → xs ≡ ys
same_climbs [] [] up_x up_y alike = refl
same_climbs [] (y ∷ ys) up_x up_y alike = absurd (false≢true (alike y ∙ head_of y ys))
same_climbs (x ∷ xs) [] up_x up_y alike = absurd (false≢true (sym (alike x) ∙ head_of x xs))
same_climbs (x ∷ xs) (y ∷ ys) up_x up_y alike =
    let le = not_below x y xs ys up_y alike in
    let ge = not_below y x ys xs up_x (λ l. sym (alike l)) in
    let first : x ≡ y = omega arith in
    let rest = same_climbs xs ys (climbs_on x xs up_x) (climbs_on y ys up_y) (λ l.
    without x xs up_x l ∙ (λ i. not (eqb l (first i)) && alike l i) ∙ sym (without y ys up_y l)) in
    λ i. first i ∷ rest i

climbing : (ns : List ℕ) → IsStrictlyIncreasing ns → Climbs ns
climbing [] up = tt
climbing (n ∷ []) up = tt
climbing (n ∷ m ∷ ns) up = (
  up 0 (omega arith),
  climbing (m ∷ ns) (λ k lt.
      let next : suc k + 1 ≡ suc (k + 1) = omega arith in
      subst (λ (j : ℕ). get_or (m ∷ ns) k 0 < get_or (n ∷ m ∷ ns) j 0) next (up (suc k) (omega arith))),
)

-- ---- what is named outside of a core

-- those of some leaves that are not in the core
abbrev pub outside : List ℕ → List ℕ → List ℕ
outside core ls = filter (λ l. not (among l core)) ls

among_is : (ns : List ℕ) (n : ℕ) → among n ns ≡ is_one_of ns n
among_is ns n = any_agree (λ m. eqb m n) (λ m. eqb n m) (λ m. eqb_comm m n) ns

and_or : (a b c : Bool) → ((a && b) || (a && c)) ≡ (a && (b || c))
and_or true b c = refl
and_or false b c = refl

and_none : (a : Bool) → false ≡ (a && false)
and_none true = refl
and_none false = refl

named_is : (core : List ℕ) (inner : List LeafSheet) (l : ℕ) → is_one_of (flat_map (λ s. outside core s.near) inner) l
    ≡ (not (is_one_of core l) && list_any (λ s. is_one_of s.near l) inner)
named_is core [] l = and_none (not (is_one_of core l))
named_is core (s ∷ inner) l =
    list_any-append (λ m. eqb l m) (outside core s.near) (flat_map (λ s. outside core s.near) inner)
    ∙ (λ i. one_of_filter (λ l. not (among l core)) s.near l i || named_is core inner l i)
    ∙ (λ i. (not (among_is core l i) && is_one_of s.near l) || (not (is_one_of core l) && list_any (λ s. is_one_of s.near l) inner))
    ∙ and_or (not (is_one_of core l)) (is_one_of s.near l) (list_any (λ s. is_one_of s.near l) inner)

-- a leaf that a sheet names is one of so many
named_below : (n : ℕ) (inner : List LeafSheet) → AllByRecursion (λ s. AreBelow n s.near) inner → (l : ℕ)
    → list_any (λ s. is_one_of s.near l) inner ≡ true → l < n
named_below n [] all l on = absurd (false≢true on)
named_below n (s ∷ inner) all l on =
    elim (or_cases (is_one_of s.near l) (list_any (λ s. is_one_of s.near l) inner) on) [
      | inl here ↦ all.0 l here
      | inr later ↦ named_below n inner all.1 l later
    ]

pub rim_is : (cells : List Cell) (core : List ℕ) (inner : List LeafSheet) (leaves rim : List ℕ)
    → AllByRecursion (λ s. AreBelow (length cells) s.near) inner
    → leaves ≡ flat_map (λ s. outside core s.near) inner
    → ((l : ℕ) → is_one_of rim l ≡ is_one_of leaves l) → IsStrictlyIncreasing rim → rim ≡ rim_of cells core inner
rim_is cells core inner leaves rim below are has up =
    let test : ℕ → Bool = λ l. not (is_one_of core l) && list_any (λ s. is_one_of s.near l) inner in
    let range = range_with_len 0 (length cells) in
    let mine : (l : ℕ) → is_one_of rim l ≡ test l =
    λ l. has l ∙ ap (λ (ls : List ℕ). is_one_of ls l) are ∙ named_is core inner l in
    same_climbs rim (filter test range) (climbing rim up)
    (climbing (filter test range) (IsStrictlyIncreasing-filter test range (increasing range (range_climbs 0 (length cells)))))
    (λ l. mine l ∙ elim (test l) as (λ b. test l ≡ b → b ≡ is_one_of (filter test range) l) [
      | true ↦ λ on.
          let lt : l < length cells = named_below (length cells) inner below l (and_parts (not (is_one_of core l)) _ on).1 in
          sym (one_of_range test l 0 (length cells) on (omega arith) (omega arith))
      | false ↦ λ off. sym (one_of_filter test range l ∙ ap (λ b. b && is_one_of range l) off)
    ] refl)
