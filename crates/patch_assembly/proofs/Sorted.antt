-- Names in order, and what a set has.
use Rattle.std.proofs.Common.{◌≡◌, ◌≢◌, ℕ, suc, ◌+◌, ◌<◌, ◌≤◌, Bool, true, false, cond, not, eqb, ltb, List, [], ◌∷◌, length, map, get_or, sym, ap, ◌∙◌, refl, arith, zero-add, Some, None, filter}
use Rattle.std.specs.List.{find, count_by, AllByRecursion}
use Rattle.std.specs.List.Sorted.{IsSorted, IsPermutation, IsNonDecreasing, IsNonDecreasingBy}
use Rattle.std.specs.Ordering.{nat_cmp, is_lt}
use Rattle.std.specs.Cmp.{nat_cmp_total}
use Rattle.std.specs.FinMap.{nat_cmp-IsAntisymmetric}
use Rattle.std.specs.declared.cmp.Ordering.TheVariants.{Less, Equal, Greater}
use Rattle.std.proofs.lemmas.Bool.{eq-eqb, ne_eqb, eqb-false, ltb-true, lt-ltb, false_from_ne_true}
use Rattle.std.proofs.lemmas.List.{get_or-map, length-map}
use Rattle.std.proofs.lemmas.List.Elements.{recursion_from_All}
use Rattle.std.proofs.lemmas.List.Sorted.{sum_by-IsPermutation}
use Rattle.std.proofs.lemmas.List.Sums.{sum_by-cons}
use Rattle.oemm_lists.specs.Ascending.{in_order}
use Rattle.oemm_lists.specs.Numbers.{among}
use Rattle.oemm_octree.specs.Leaves.{is_one_of}
use Rattle.mesh_data.specs.declared.geometry.Tri.{Tri}
use Rattle.mesh_sheets.proofs.Climbing.{Climbs}
use Rattle.mesh_sheets.proofs.Filters.{any_agree}
use Rattle.sheet_data.specs.Summed.{SummedVertex}
use Rattle.sheet_data.specs.declared.patches.Mixed.{Mixed}
use Rattle.sheet_data.specs.declared.patches.NearList.{NearList}
use Rattle.sheet_data.specs.declared.sheets.LeafSheet.{LeafSheet}
use Rattle.triangle_lists.proofs.Paths.{eqb_comm}
use Rattle.triangle_lists.proofs.Sorting.{in_order_from_sort}
use Rattle.patch_assembly.specs.Clashes.{comes_twice, first_twice, least_twice}

pub among_is : (ns : List ℕ) (n : ℕ) → among n ns ≡ is_one_of ns n
among_is ns n = any_agree (λ m. eqb m n) (λ m. eqb n m) (λ m. eqb_comm m n) ns

-- a face with the leaf that keeps it
abbrev pub kept_by : ℕ → Tri → Mixed
kept_by leaf t = record { leaf = leaf; tri = t }

-- the leaves outside of a core that a sheet names
abbrev pub near_list : List ℕ → LeafSheet → NearList
near_list core s = record { leaf = s.leaf; outside = filter (λ l. not (is_one_of core l)) s.near }

-- ---- names that don't fall

pub names_rise : (xs : List SummedVertex) → IsNonDecreasingBy (λ x. x.name) xs → IsNonDecreasing (map (λ x. x.name) xs)
names_rise [] up i j d le lt = absurd (omega arith)
names_rise (x ∷ xs) up i j d le lt =
    let name : SummedVertex → ℕ = λ x. x.name in
    let len : length (map name (x ∷ xs)) ≡ length (x ∷ xs) = length-map (x ∷ xs) name in
    let below : j < length (x ∷ xs) = omega (arith, len, lt) in
    let at_i = get_or-map name (x ∷ xs) i x d (omega (arith, below, le)) in
    let at_j = get_or-map name (x ∷ xs) j x d below in
    omega (arith, at_i, at_j, up i j x le below)

not_less : (a b : ℕ) → a ≤ b → is_lt (nat_cmp b a) ≡ false
not_less a b le =
    elim (ltb b a) as (λ t. ltb b a ≡ t → is_lt (cond t Less (cond (eqb b a) Equal Greater)) ≡ false) [
      | true ↦ λ h. let lt : b < a = ltb-true b a h in absurd (omega arith)
      | false ↦ λ _. elim (eqb b a) as (λ e. is_lt (cond e Equal Greater) ≡ false) [ true ↦ refl | false ↦ refl ]
    ] refl

sorted_numbers : (ns : List ℕ) → IsNonDecreasing ns → IsSorted nat_cmp ns
sorted_numbers ns up k d low high = not_less (get_or ns k d) (get_or ns (k + 1) d) (up k (k + 1) d (omega arith) high)

-- no number is below one before it
abbrev pub Up : List ℕ → Type 0
Up [] = Unit {0}
Up (n ∷ ns) = AllByRecursion (λ m. n ≤ m) ns × Up ns

pub up_from : (ns : List ℕ) → IsNonDecreasing ns → Up ns
up_from [] up = tt
up_from (n ∷ ns) up = (
  recursion_from_All (λ m. n ≤ m) ns (λ k d lt. up 0 (suc k) d (omega arith) (omega arith)),
  up_from ns (λ i j d le lt. up (suc i) (suc j) d (omega arith) (omega arith)),
)

-- ---- a number that comes twice

abbrev one : Bool → ℕ
one b = cond b 1 0

count_cons : (v n : ℕ) (ns : List ℕ) → count_by (λ m. eqb m v) (n ∷ ns) ≡ one (eqb n v) + count_by (λ m. eqb m v) ns
count_cons v n ns = sum_by-cons (λ m. one (eqb m v)) n ns

none_equal : (v : ℕ) (ns : List ℕ) → AllByRecursion (λ m. v < m) ns → count_by (λ m. eqb m v) ns ≡ 0
none_equal v [] all = refl
none_equal v (n ∷ ns) all =
    let lt : v < n = all.0 in
    let apart : n ≢ v = λ e. omega arith in
    let here : one (eqb n v) ≡ 0 = ap one (ne_eqb n v apart) in
    omega (arith, count_cons v n ns, here, none_equal v ns all.1)

few : (n : ℕ) → n ≤ 1 → ltb 1 n ≡ false
few n le = false_from_ne_true (ltb 1 n) (λ h. let lt : 1 < n = ltb-true 1 n h in absurd (omega arith))

find_agree : (p q : ℕ → Bool) (ns : List ℕ) → AllByRecursion (λ n. p n ≡ q n) ns → find p ns ≡ find q ns
find_agree p q [] all = refl
find_agree p q (n ∷ ns) all = let here = all.0 in let rest = find_agree p q ns all.1 in λ i. cond (here i) (Some n) (rest i)

each : (P : ℕ → Type 0) → ((n : ℕ) → P n) → (ns : List ℕ) → AllByRecursion P ns
each P h [] = tt
each P h (n ∷ ns) = (h n, each P h ns)

all_above : (v w : ℕ) (ns : List ℕ) → v < w → AllByRecursion (λ m. w ≤ m) ns → AllByRecursion (λ m. v < m) ns
all_above v w [] lt all = tt
all_above v w (n ∷ ns) lt all = let le : w ≤ n = all.0 in (omega arith, all_above v w ns lt all.1)

-- a number that differs from each of these counts among them as without it
without_first : (v : ℕ) (all ns : List ℕ) → AllByRecursion (λ m. v < m) ns
    → AllByRecursion (λ m. comes_twice (v ∷ all) m ≡ comes_twice all m) ns
without_first v all [] above = tt
without_first v all (n ∷ ns) above =
    let lt : v < n = above.0 in
    let apart : v ≢ n = λ e. omega arith in
    let here : one (eqb v n) ≡ 0 = ap one (ne_eqb v n apart) in
    let same : count_by (λ m. eqb m n) (v ∷ all) ≡ count_by (λ m. eqb m n) all =
    count_cons n v all ∙ ap (λ k. k + count_by (λ m. eqb m n) all) here ∙ zero-add (count_by (λ m. eqb m n) all) in
    (ap (ltb 1) same, without_first v all ns above.1)

find_sorted : (ns : List ℕ) → Up ns → find (comes_twice ns) ns ≡ first_twice ns
find_sorted [] up = refl
find_sorted (v ∷ []) up =
    let self : one (eqb v v) ≡ 1 = ap one (eq-eqb v v refl) in
    let none : count_by (λ m. eqb m v) [] ≡ 0 = refl in
    let once : count_by (λ m. eqb m v) (v ∷ []) ≤ 1 = omega (arith, count_cons v v [], self, none) in
    ap (λ (b : Bool). cond b (Some v) None) (few (count_by (λ m. eqb m v) (v ∷ [])) once)
find_sorted (v ∷ w ∷ ns) up =
    let self : one (eqb v v) ≡ 1 = ap one (eq-eqb v v refl) in
    let all = v ∷ w ∷ ns in
    let first = count_cons v v (w ∷ ns) in
    elim (eqb v w) as (λ b. eqb v w ≡ b → find (comes_twice all) all ≡ cond b (Some v) (first_twice (w ∷ ns))) [
      | true ↦ λ same.
          let second = count_cons v w ns in
          let also : one (eqb w v) ≡ 1 = ap one (eqb_comm w v ∙ same) in
          let twice : 1 < count_by (λ m. eqb m v) all = omega (arith, first, second, self, also) in
          ap (λ (b : Bool). cond b (Some v) (find (comes_twice all) (w ∷ ns))) (lt-ltb 1 (count_by (λ m. eqb m v) all) twice)
      | false ↦ λ away.
          let le : v ≤ w = up.0.0 in
          let apart : v ≢ w = eqb-false v w away in
          let lt : v < w = omega arith in
          let above : AllByRecursion (λ m. v < m) (w ∷ ns) = (lt, all_above v w ns lt up.1.0) in
          let once : count_by (λ m. eqb m v) all ≤ 1 = omega (arith, first, self, none_equal v (w ∷ ns) above) in
          ap (λ (b : Bool). cond b (Some v) (find (comes_twice all) (w ∷ ns))) (few (count_by (λ m. eqb m v) all) once)
          ∙ find_agree (comes_twice all) (comes_twice (w ∷ ns)) (w ∷ ns) (without_first v (w ∷ ns) (w ∷ ns) above)
          ∙ find_sorted (w ∷ ns) up.1
    ] refl

-- the first of sorted names that stands beside an equal one is the least that comes twice
pub twice_told : (ns sorted : List ℕ) → IsPermutation ns sorted → IsNonDecreasing sorted
    → first_twice sorted ≡ least_twice ns
twice_told ns sorted moved up =
    let ordered : sorted ≡ in_order nat_cmp ns =
    in_order_from_sort nat_cmp_total nat_cmp-IsAntisymmetric ns sorted moved (sorted_numbers sorted up) in
    let alike : (v : ℕ) → comes_twice sorted v ≡ comes_twice ns v =
    λ v. ap (ltb 1) (sum_by-IsPermutation (λ m. one (eqb m v)) ns sorted moved) in
    sym (find_sorted sorted (up_from sorted up))
    ∙ find_agree (comes_twice sorted) (comes_twice ns) sorted (each _ alike sorted)
    ∙ ap (find (comes_twice ns)) ordered

-- names that don't fall, none of which stands beside an equal one, climb
pub once_climbs : (ns : List ℕ) → Up ns → first_twice ns ≡ None → Climbs ns
once_climbs [] up none = tt
once_climbs (v ∷ []) up none = tt
once_climbs (v ∷ w ∷ ns) up none =
    elim (eqb v w) as (λ b. eqb v w ≡ b → cond b (Some v) (first_twice (w ∷ ns)) ≡ None → Climbs (v ∷ w ∷ ns)) [
      | true ↦ λ _ no. absurd (cc)
      | false ↦ λ away no.
          let le : v ≤ w = up.0.0 in
          let apart : v ≢ w = eqb-false v w away in
          (omega arith, once_climbs (w ∷ ns) up.1 no)
    ] refl none

pub climbs_once : (ns : List ℕ) → Climbs ns → first_twice ns ≡ None
climbs_once [] up = refl
climbs_once (v ∷ []) up = refl
climbs_once (v ∷ w ∷ ns) up =
    let lt : v < w = up.0 in
    let apart : v ≢ w = λ e. omega arith in
    ap (λ (b : Bool). cond b (Some v) (first_twice (w ∷ ns))) (ne_eqb v w apart) ∙ climbs_once (w ∷ ns) up.1
