-- The leaves round a core, as its own sheets name them.
use Rattle.std.proofs.Common.{◌≡◌, ℕ, zero, suc, ◌+◌, ◌<◌, Bool, true, false, cond, not, ◌&&◌, ◌||◌, eqb, List, [], ◌∷◌, ◌++◌, map, length, sym, ap, ◌∙◌, refl, arith, inl, inr}
use Rattle.std.proofs.lemmas.Bool.{and_from, or_cases, or_left, or_right, or_from, eqb-true, eq-eqb, ne_eqb, false≢true}
use Rattle.std.proofs.lemmas.Map.Keys.{sorted_head, sorted_tail, sorted_from_strictly_increasing}
use Rattle.std.specs.List.{filter, list_any, range_with_len, AllByRecursion}
use Rattle.std.specs.List.Sorted.{IsSorted, IsStrictlyIncreasing, IsStrictlySortedBy}
use Rattle.std.specs.Ordering.{nat_cmp}
use Rattle.std.specs.declared.cmp.Ordering.TheVariants.{Less}
use Rattle.std.specs.Cmp.{nat_cmp_total}
use Rattle.std.proofs.lemmas.Cmp.{tied_itself}
use Rattle.oemm_octree.specs.declared.cells.Cell.{Cell}
use Rattle.mesh_data.specs.Mesh.{Mesh}
use Rattle.mesh_data.specs.Triangles.{tri_cmp}
use Rattle.sheet_data.specs.declared.sheets.LeafSheet.{LeafSheet}
use Rattle.oemm_octree.specs.Leaves.{is_one_of, AreBelow}
use Rattle.mesh_sheets.specs.Sheets.{near, sheet, patch, are_near}
use Rattle.mesh_sheets.specs.Assembled.{assembled, rim_of}
use Rattle.mesh_sheets.proofs.Filters.{AreDistinct, one_of_filter, any_map}
use Rattle.mesh_sheets.proofs.Assembling.{IsRound, assembled_is, one_of_range}

-- ---- different numbers

not_less_itself : (n : ℕ) → nat_cmp n n ≡ Less → ⊥
not_less_itself n h = let e = sym (tied_itself nat_cmp_total n) ∙ h in absurd (cc)

above_is_other : (n : ℕ) (ns : List ℕ) → AllByRecursion (λ k. nat_cmp n k ≡ Less) ns → is_one_of ns n ≡ false
above_is_other n [] all = refl
above_is_other n (k ∷ ns) all =
    or_from (eqb n k) (is_one_of ns n) (ne_eqb n k (λ e. not_less_itself n (ap (nat_cmp n) e ∙ all.0))) (above_is_other n ns all.1)

distinct_sorted : (ns : List ℕ) → IsStrictlySortedBy nat_cmp ns → AreDistinct ns
distinct_sorted [] up = tt
distinct_sorted (n ∷ ns) up = (above_is_other n ns (sorted_head nat_cmp n ns up), distinct_sorted ns (sorted_tail nat_cmp n ns up))

pub distinct_increasing : (ns : List ℕ) → IsStrictlyIncreasing ns → AreDistinct ns
distinct_increasing ns up = distinct_sorted ns (sorted_from_strictly_increasing ns up)

below_range : (p : ℕ → Bool) (l a n : ℕ) → l < a → is_one_of (filter p (range_with_len a n)) l ≡ false
below_range p l a zero lt = refl
below_range p l a (suc n) lt =
    let rest = filter p (range_with_len (a + 1) n) in
    let later = below_range p l (a + 1) n (omega arith) in
    elim (p a) as (λ b. is_one_of (cond b (a ∷ rest) rest) l ≡ false) [ true ↦ or_from (eqb l a) (is_one_of rest l) (ne_eqb l a (λ e. absurd (omega arith))) later | false ↦ later ]

pub distinct_range : (p : ℕ → Bool) (a n : ℕ) → AreDistinct (filter p (range_with_len a n))
distinct_range p a zero = tt
distinct_range p a (suc n) =
    let rest = filter p (range_with_len (a + 1) n) in
    elim (p a) as (λ b. AreDistinct (cond b (a ∷ rest) rest)) [ true ↦ (below_range p a (a + 1) n (omega arith), distinct_range p (a + 1) n) | false ↦ distinct_range p (a + 1) n ]

not_in_both : (xs ys : List ℕ) (n : ℕ) → is_one_of xs n ≡ false → is_one_of ys n ≡ false → is_one_of (xs ++ ys) n ≡ false
not_in_both [] ys n h k = k
not_in_both (x ∷ xs) ys n h k =
    elim (eqb n x) as (λ b. (b || is_one_of xs n) ≡ false → (b || is_one_of (xs ++ ys) n) ≡ false) [ true ↦ λ e. e | false ↦ λ e. not_in_both xs ys n e k ] h

pub distinct_append : (xs ys : List ℕ) → AreDistinct xs → AreDistinct ys → ((n : ℕ) → is_one_of xs n ≡ true → is_one_of ys n ≡ false) → AreDistinct (xs ++ ys)
distinct_append [] ys d e apart = e
distinct_append (x ∷ xs) ys d e apart =
    (not_in_both xs ys x d.0 (apart x (or_left (eqb x x) (is_one_of xs x) (eq-eqb x x refl))), distinct_append xs ys d.1 e (λ n on. apart n (or_right (eqb n x) (is_one_of xs n) on)))

-- ---- the rim

pub rim_apart : (cells : List Cell) (core : List ℕ) (inner : List LeafSheet) (l : ℕ) → is_one_of core l ≡ true → is_one_of (rim_of cells core inner) l ≡ false
rim_apart cells core inner l on =
    one_of_filter (λ l. not (is_one_of core l) && list_any (λ s. is_one_of s.near l) inner) (range_with_len 0 (length cells)) l
    ∙ ap (λ b. (not b && list_any (λ s. is_one_of s.near l) inner) && is_one_of (range_with_len 0 (length cells)) l) on

some_near : (cells : List Cell) (m : Mesh) (core : List ℕ) (leaf l : ℕ) → is_one_of core leaf ≡ true → is_one_of (near cells m leaf) l ≡ true → list_any (λ k. is_one_of (near cells m k) l) core ≡ true
some_near cells m [] leaf l on at = absurd (false≢true on)
some_near cells m (k ∷ core) leaf l on at =
    elim (or_cases (eqb leaf k) (is_one_of core leaf) on) [
      | inl here ↦ or_left (is_one_of (near cells m k) l) (list_any (λ k. is_one_of (near cells m k) l) core) (ap (λ (n : ℕ). is_one_of (near cells m n) l) (sym (eqb-true leaf k here)) ∙ at)
      | inr more ↦ or_right (is_one_of (near cells m k) l) (list_any (λ k. is_one_of (near cells m k) l) core) (some_near cells m core leaf l more at)
    ]

pub range_below : (p : ℕ → Bool) (l a n : ℕ) → is_one_of (filter p (range_with_len a n)) l ≡ true → l < a + n
range_below p l a zero h = absurd (false≢true h)
range_below p l a (suc n) h =
    let rest = filter p (range_with_len (a + 1) n) in
    elim (p a) as (λ b. is_one_of (cond b (a ∷ rest) rest) l ≡ true → l < a + suc n) [
      | true ↦ λ on. elim (or_cases (eqb l a) (is_one_of rest l) on) [ inl here ↦ let is = eqb-true l a here in omega arith | inr more ↦ let lt = range_below p l (a + 1) n more in omega arith ]
      | false ↦ λ on. let lt = range_below p l (a + 1) n on in omega arith
    ] h

rim_round : (cells : List Cell) (m : Mesh) (core : List ℕ) → IsRound cells m core (rim_of cells core (map (sheet cells m) core))
unfolding sheet
rim_round cells m core leaf l on at out =
    let inner = map (sheet cells m) core in
    let lt : l < length cells = let h = range_below (are_near cells m leaf) l 0 (length cells) at in omega arith in
    let named : list_any (λ (s : LeafSheet). is_one_of s.near l) inner ≡ true = any_map (λ (s : LeafSheet). is_one_of s.near l) (sheet cells m) core ∙ some_near cells m core leaf l on at in
    one_of_range (λ l. not (is_one_of core l) && list_any (λ s. is_one_of s.near l) inner) l 0 (length cells) (and_from _ _ (ap not out) named) (omega arith) (omega arith)

-- the leaves of a core, and those round it, are different
pub rim_distinct : (cells : List Cell) (core : List ℕ) (inner : List LeafSheet) → IsStrictlyIncreasing core → AreDistinct (core ++ rim_of cells core inner)
rim_distinct cells core inner up =
    distinct_append core (rim_of cells core inner) (distinct_increasing core up)
    (distinct_range (λ l. not (is_one_of core l) && list_any (λ s. is_one_of s.near l) inner) 0 (length cells)) (rim_apart cells core inner)

-- the patch that the sheets of the core, and those of the leaves outside that they name, make
pub patch_from_sheets : (cells : List Cell) (m : Mesh) (core : List ℕ) → AreBelow (length cells) core → IsStrictlyIncreasing core → IsSorted tri_cmp m.tris
    → let inner = map (sheet cells m) core in
    assembled core inner (map (sheet cells m) (rim_of cells core inner)) ≡ patch cells m core
patch_from_sheets cells m core below up sorted =
    let rim = rim_of cells core (map (sheet cells m) core) in
    assembled_is cells m core below rim sorted
    (rim_distinct cells core (map (sheet cells m) core) up)
    (rim_round cells m core)
