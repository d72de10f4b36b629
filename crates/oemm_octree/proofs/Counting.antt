-- Counts of points in cells.
use Rattle.std.proofs.Common.{◌≡◌, ℕ, zero, suc, ◌+◌, ◌-◌, ◌*◌, ◌/◌, ◌%◌, ◌^◌, ◌<◌, ◌≤◌, Bool, true, false, cond, eqb, ltb, ℤ, List, [], ◌∷◌, ◌++◌, length, get_or, take, drop, set, min, flat_map, count_by, add-one, Some, sym, ap, ◌∙◌, refl, subst, arith, append_assoc}
use Rattle.std.proofs.Math.Nat.{pow-suc, min-eq_left}
use Rattle.std.proofs.Math.Seq.{take-append_seam}
use Rattle.std.proofs.lemmas.Bool.{and_from, eqb-true, eq-eqb, ne_eqb, false≢true}
use Rattle.std.proofs.lemmas.Bool.Decides.{nat_tests}
use Rattle.std.proofs.lemmas.Grind.{flat_map-append}
use Rattle.std.proofs.lemmas.List.{take_more, take-append-drop, append-nil, get_or-set_same, get_or-set_other}
use Rattle.std.proofs.lemmas.List.Elements.{All-append, recursion_from_All, All-from_recursion}
use Rattle.std.proofs.lemmas.List.Recursion.{is_count_by}
use Rattle.std.proofs.lemmas.List.Sums.{count_by-le-length}
use Rattle.std.proofs.lemmas.Option.{slice_get-get_or}
use Rattle.std.specs.List.{slice_get, AllByRecursion}
use Rattle.oemm_limits.specs.declared.TheConstants.{MOST_ITEMS}
use Rattle.oemm_octree.specs.declared.points.Point.{Point}
use Rattle.oemm_octree.specs.declared.cells.Cell.{Cell}
use Rattle.oemm_octree.specs.Octree.{place_at, cell_holds, root_cell, IsOnGrid}
use Rattle.oemm_octree.specs.Leaves.{octant, octants, cells_by, is_crowded, IsPlaced}
use Rattle.oemm_octree.specs.Morton.{morton, rank, rank_at}
use Rattle.oemm_octree.specs.Counters.{AreCounters}
use Rattle.oemm_octree.proofs.CellParts.{at_holds, root_holds}
use Rattle.oemm_octree.proofs.Weights.{one, weight, weight-append}
use Rattle.oemm_octree.proofs.Tilings.{half_place, weight_octants}
use Rattle.oemm_octree.proofs.Ranks.{octant_rank, same_place}
use Rattle.oemm_octree.proofs.Numbers.{morton_small}
use Rattle.oemm_octree.proofs.Steps.{octant_at}

-- ---- different cells of a depth have different numbers

digits : (u v w r a b e s : ℕ) → u < 2 → v < 2 → w < 2 → a < 2 → b < 2 → e < 2
    → u + 2 * v + 4 * w + 8 * r ≡ a + 2 * b + 4 * e + 8 * s
    → (u ≡ a) × (v ≡ b) × (w ≡ e) × (r ≡ s)
digits u v w r a b e s lu lv lw la lb le same = (omega arith, omega arith, omega arith, omega arith)

halved : (n x : ℕ) → x < 2 ^ suc n → x / 2 < 2 ^ n
halved n x lt = let power = pow-suc 2 n in let k = 2 ^ n in half k x (omega arith)
  where
    half : (k x : ℕ) → x < 2 * k → x / 2 < k
    half k x lt = grind (arith, nat_tests)

from_parts : (x a : ℕ) → x / 2 ≡ a / 2 → x % 2 ≡ a % 2 → x ≡ a
from_parts x a half rest = grind (arith, nat_tests)

bit_small : (x : ℕ) → x % 2 < 2
bit_small x = omega arith

morton_same : (n x y z a b e : ℕ) → x < 2 ^ n → y < 2 ^ n → z < 2 ^ n → a < 2 ^ n → b < 2 ^ n → e < 2 ^ n
    → morton n x y z ≡ morton n a b e → (x ≡ a) × (y ≡ b) × (z ≡ e)
unfolding morton
morton_same zero x y z a b e lx ly lz la lb le same = (omega arith, omega arith, omega arith)
morton_same (suc n) x y z a b e lx ly lz la lb le same =
    let parts = digits (x % 2) (y % 2) (z % 2) (morton n (x / 2) (y / 2) (z / 2)) (a % 2) (b % 2) (e % 2)
    (morton n (a / 2) (b / 2) (e / 2)) (bit_small x) (bit_small y) (bit_small z) (bit_small a) (bit_small b)
    (bit_small e) same in
    let halves = morton_same n (x / 2) (y / 2) (z / 2) (a / 2) (b / 2) (e / 2) (halved n x lx) (halved n y ly)
    (halved n z lz) (halved n a la) (halved n b lb) (halved n e le) parts.3 in
    (from_parts x a halves.0 parts.0, from_parts y b halves.1 parts.1, from_parts z e halves.2 parts.2)

pub morton_below : (n x y z : ℕ) → morton n x y z < 8 ^ n
unfolding morton
morton_below zero x y z = omega arith
morton_below (suc n) x y z = morton_small (suc n) x y z (x % 2) (y % 2) (z % 2)
    (morton n (x / 2) (y / 2) (z / 2))
    (λ e. absurd (omega arith)) refl refl refl (subst (λ (m : ℕ). morton n (x / 2) (y / 2) (z / 2) < 8 ^ m)
    (omega arith) (morton_below n (x / 2) (y / 2) (z / 2)))

place_below : (d : ℕ) (n : ℤ) → d ≤ 16 → place_at 0 n ≡ 0 → place_at d n < 2 ^ d
place_below zero n le in_cube = omega arith
place_below (suc d) n le in_cube =
    let half = half_place d n (omega arith) in
    let rest = place_below d n (omega arith) in_cube in
    let power = pow-suc 2 d in
    subst (λ (m : ℕ). place_at m n < 2 ^ suc d) (add-one d)
    (double (place_at (d + 1) n) (place_at d n) (2 ^ d) half rest (omega arith))
  where
    double : (x h k : ℕ) → x / 2 ≡ h → h < k → 2 ^ suc d ≡ 2 * k → x < 2 ^ suc d
    double x h k half lt power = let small : x < 2 * k = grind (arith, nat_tests) in omega arith

-- a cell holds the points of the cube whose number at its depth is the cell's
holds_is : (c : Cell) (p : Point) → c.depth ≤ 16 → IsPlaced c → cell_holds root_cell p ≡ true
    → cell_holds c p ≡ eqb (rank_at c.depth p) (rank c)
holds_is c p le placed in_cube =
    elim (cell_holds c p) as (λ b. cell_holds c p ≡ b → b ≡ eqb (rank_at c.depth p) (rank c)) [
      | true ↦ λ on. sym (eq-eqb (rank_at c.depth p) (rank c) (sym (same_place p c on)))
      | false ↦ λ off. elim (eqb (rank_at c.depth p) (rank c)) as (λ b. eqb (rank_at c.depth p) (rank c) ≡ b
          → false ≡ b) [
            | true ↦ λ same.
                let root = at_holds root_cell p in_cube in
                let at = morton_same c.depth (place_at c.depth p.x) (place_at c.depth p.y)
                (place_at c.depth p.z) c.x c.y c.z
                (place_below c.depth p.x le root.0) (place_below c.depth p.y le root.1)
                (place_below c.depth p.z le root.2) placed.0 placed.1 placed.2 (eqb-true (rank_at c.depth p)
                (rank c) same) in
                sym off ∙ and_from _ _ (and_from _ _ (eq-eqb (place_at c.depth p.x) c.x at.0)
                (eq-eqb (place_at c.depth p.y) c.y at.1)) (eq-eqb (place_at c.depth p.z) c.z at.2)
            | false ↦ λ _. refl
          ] refl
    ] refl

-- the number of an octant
pub rank_more : (c o : Cell) (i k number : ℕ) → i < 8 → slice_get (octants c) i ≡ Some o → k ≡ i
    → number ≡ rank c → 8 * number + k ≡ rank o
rank_more c o i k number lt at same is =
    let here : octant c (i % 2) (i / 2 % 2) (i / 4) ≡ o = cc (octant_at c i lt, at) in
    let more = octant_rank c (i % 2) (i / 2 % 2) (i / 4) (omega arith) (omega arith) (omega arith) in
    let parts : i % 2 + 2 * (i / 2 % 2) + 4 * (i / 4) ≡ i = grind (arith, nat_tests) in
    let whole = ap rank here in
    omega arith

-- ---- counts as sums

abbrev tally : {X : Type 0} → (X → Bool) → List X → ℕ
tally q xs = weight (λ x. one (q x)) xs

tally_is : {X : Type 0} (q : X → Bool) (xs : List X) → tally q xs ≡ count_by q xs
tally_is q xs = is_count_by (tally q) q refl (λ x xs. elim (q x) as (λ b. one b + tally q xs
    ≡ cond b (1 + tally q xs) (tally q xs)) [ true ↦ refl | false ↦ omega arith ]) xs

count_more : {X : Type 0} (q : X → Bool) (xs : List X) (x : X) → count_by q (xs ++ x ∷ []) ≡ count_by q xs + one (q x)
count_more q xs x = sym (tally_is q (xs ++ x ∷ [])) ∙ weight-append (λ x. one (q x)) xs (x ∷ [])
    ∙ (let is = tally_is q xs in omega arith)

tally_agree : {X : Type 0} (P : X → Type 0) (q r : X → Bool) → ((x : X) → P x → q x ≡ r x) → (xs : List X)
    → AllByRecursion P xs → tally q xs ≡ tally r xs
tally_agree P q r h [] all = refl
tally_agree P q r h (x ∷ xs) all = let rest = tally_agree P q r h xs all.1 in λ i. one (h x all.0 i) + rest i

-- the counter of a cell of the greatest depth is the count of the cell
pub counter_is : (counters : List ℕ) (points : List Point) (more : ℕ) (c : Cell) (number : ℕ)
    → AreCounters counters points
    → more ≡ 0 → c.depth + more ≡ 6 → IsPlaced c → number ≡ rank c
    → get_or counters number 0 ≡ count_by (cell_holds c) points
counter_is counters points more c number are last deep placed is =
    let depth : c.depth ≡ 6 = omega arith in
    let small : number < 262144 = subst (λ (n : ℕ). n < 262144) (sym is)
    (subst (λ (d : ℕ). morton d c.x c.y c.z < 262144) (sym depth) (morton_below 6 c.x c.y c.z)) in
    are.each number small
    ∙ sym (tally_is (λ p. eqb (rank_at 6 p) number) points)
    ∙ tally_agree IsOnGrid (λ p. eqb (rank_at 6 p) number) (cell_holds c)
    (λ p on. (λ i. eqb (rank_at (sym depth i) p) (is i))
    ∙ sym (holds_is c p (omega arith) placed (root_holds p on)))
    points (recursion_from_All IsOnGrid points are.on_grid)
    ∙ tally_is (cell_holds c) points

-- ---- the octants of a cell

abbrev count : List Point → Cell → ℕ
count points c = count_by (cell_holds c) points

weight_plus : {X : Type 0} (f g h : X → ℕ) → ((x : X) → h x ≡ f x + g x) → (xs : List X)
    → weight h xs ≡ weight f xs + weight g xs
weight_plus f g h is [] = refl
weight_plus f g h is (x ∷ xs) = let here = is x in let rest = weight_plus f g h is xs in omega arith

weight_none : {X : Type 0} (f : X → ℕ) → ((x : X) → f x ≡ 0) → (xs : List X) → weight f xs ≡ 0
weight_none f none [] = refl
weight_none f none (x ∷ xs) = let here = none x in let rest = weight_none f none xs in omega arith

tallies : (points : List Point) (c : Cell) → c.depth < 16
    → weight (λ o. tally (cell_holds o) points) (octants c) ≡ tally (cell_holds c) points
tallies [] c lt = refl
tallies (p ∷ points) c lt =
    weight_plus (λ o. one (cell_holds o p)) (λ o. tally (cell_holds o) points)
    (λ o. tally (cell_holds o) (p ∷ points)) (λ o. refl) (octants c)
    ∙ (λ i. weight_octants p c lt i + tallies points c lt i)

pub counts : (points : List Point) (c : Cell) → c.depth < 16 → weight (count points) (octants c) ≡ count points c
counts points c lt = sym (λ i. weight (λ o. tally_is (cell_holds o) points i) (octants c)) ∙ tallies points c lt
    ∙ tally_is (cell_holds c) points

-- ---- the steps of growth

lt_ltb : (m n : ℕ) → m < n → ltb m n ≡ true
lt_ltb m n lt = grind (arith, nat_tests)

ge_ltb : (m n : ℕ) → n ≤ m → ltb m n ≡ false
ge_ltb m n le = grind (arith, nat_tests)

take_all : {X : Type 0} (i : ℕ) (xs : List X) → length xs ≤ i → take i xs ≡ xs
take_all zero [] le = refl
take_all zero (x ∷ xs) le = absurd (omega arith)
take_all (suc i) [] le = refl
take_all {X = X} (suc i) (x ∷ xs) le = ap (λ (ys : List X). x ∷ ys) (take_all i xs (omega arith))

module _ (points : List Point) (cap : ℕ) where
  abbrev grown : ℕ → Cell → List Cell
  grown more c = cells_by (is_crowded points cap) more c

  taken_few : (cs : List Cell) (i : ℕ) → weight (count points) (take i cs) ≤ weight (count points) cs
  taken_few cs i = let all = weight-append (count points) (take i cs) (drop i cs) in
      let whole = ap (weight (count points)) (take-append-drop i cs) in omega arith

  pub grown_more : (m i total n sum : ℕ) (c o : Cell) (old now new : List Cell) → length points ≤ MOST_ITEMS
      → c.depth < 16 → i < 8 → slice_get (octants c) i ≡ Some o
      → (total ≡ weight (count points) (take i (octants c))) × (now ≡ old ++ flat_map (grown m) (take i (octants c)))
      → (n ≡ count points o) × (new ≡ now ++ grown m o)
      → sum ≡ min (total + n) 4294967295
      → (sum ≡ weight (count points) (take (i + 1) (octants c)))
      × (new ≡ old ++ flat_map (grown m) (take (i + 1) (octants c)))
  grown_more m i total n sum c o old now new few deep lt at before here is =
      let os = octants c in
      let next : take (i + 1) os ≡ take i os ++ o ∷ [] = take_more os i o lt
      ∙ ap (λ (k : Cell). take i os ++ k ∷ []) (cc (slice_get-get_or os i o lt, at)) in
      let sums = ap (weight (count points)) next ∙ weight-append (count points) (take i os) (o ∷ []) in
      let most = taken_few os (i + 1) in
      let whole = counts points c deep in
      let length_few = count_by-le-length (cell_holds c) points in
      let total_is = before.0 in
      let n_is = here.0 in
      let fits : total + n ≤ 4294967295 = omega arith in
      let sum_is : sum ≡ total + n = is ∙ min-eq_left fits in (
        omega arith,
        here.1 ∙ ap (λ (xs : List Cell). xs ++ grown m o) before.1
            ∙ append_assoc old (flat_map (grown m) (take i os)) (grown m o)
            ∙ ap (λ (xs : List Cell). old ++ (flat_map (grown m) (take i os) ++ xs)) (sym (append-nil (grown m o)))
            ∙ ap (λ (xs : List Cell). old ++ xs)
            (sym (ap (flat_map (grown m)) next ∙ flat_map-append (grown m) (take i os) (o ∷ []))),
      )

  pub grown_none : (more : ℕ) (c : Cell) → more ≡ 0 → grown more c ≡ c ∷ []
  unfolding cells_by
  grown_none more c last = ap (λ (n : ℕ). grown n c) last

  all_taken : (i : ℕ) (c : Cell) → 8 ≤ i → take i (octants c) ≡ octants c
  all_taken i c le = take_all i (octants c) le

  pub total_is : (total i : ℕ) (c : Cell) → c.depth < 16 → 8 ≤ i
      → total ≡ weight (count points) (take i (octants c)) → total ≡ count points c
  total_is total i c deep le is = is ∙ ap (weight (count points)) (all_taken i c le) ∙ counts points c deep

  pub grown_kept : (more i total : ℕ) (c : Cell) (old now : List Cell) → (more ≡ 0 → ⊥) → 8 ≤ i → cap < total
      → total ≡ count points c
      → now ≡ old ++ flat_map (grown (more - 1)) (take i (octants c)) → now ≡ old ++ grown more c
  unfolding cells_by
  grown_kept zero i total c old now some le many is are = absurd (some refl)
  grown_kept (suc m) i total c old now some le many is are =
      are ∙ ap (λ (xs : List Cell). old ++ flat_map (grown (suc m - 1)) xs) (all_taken i c le)
      ∙ ap (λ (n : ℕ). old ++ flat_map (grown n) (octants c)) (omega arith)
      ∙ ap (λ b. old ++ cond b (flat_map (grown m) (octants c)) (c ∷ []))
      (sym (lt_ltb cap (count points c) (omega arith)))

  pub grown_cut : (more start total : ℕ) (c : Cell) (old rest now cut new : List Cell) → (more ≡ 0 → ⊥)
      → total ≤ cap → total ≡ count points c → start ≡ length old
      → now ≡ old ++ rest → cut ≡ take start now → new ≡ cut ++ c ∷ [] → new ≡ old ++ grown more c
  unfolding cells_by
  grown_cut zero start total c old rest now cut new some few is begins are left pushed = absurd (some refl)
  grown_cut (suc m) start total c old rest now cut new some few is begins are left pushed =
      pushed ∙ ap (λ (xs : List Cell). xs ++ c ∷ [])
      (left ∙ (λ i. take (begins i) (are i)) ∙ take-append_seam old rest)
      ∙ ap (λ b. old ++ cond b (flat_map (grown m) (octants c)) (c ∷ []))
      (sym (ge_ltb cap (count points c) (omega arith)))

-- ---- one point more

pub counters_more : (counters : List ℕ) (points : List Point) (p : Point) (i now : ℕ)
    → AreCounters counters points → IsOnGrid p → length counters ≡ 262144 → i ≡ rank_at 6 p → i < 262144
    → now ≡ get_or counters i now → AreCounters (set counters i (now + 1)) (points ++ p ∷ [])
counters_more counters points p i now are on whole is lt value =
    record {
      on_grid = All-append IsOnGrid points (p ∷ []) are.on_grid (All-from_recursion IsOnGrid (p ∷ []) (on, tt));
      each = λ j below. each j below;
    }
  where
    same_default : (xs : List ℕ) (k d e : ℕ) → k < length xs → get_or xs k d ≡ get_or xs k e
    same_default [] k d e lt = absurd (omega arith)
    same_default (x ∷ xs) zero d e lt = refl
    same_default (x ∷ xs) (suc k) d e lt = same_default xs k d e (omega arith)

    each : (j : ℕ) → j < 262144 → get_or (set counters i (now + 1)) j 0 ≡ count_by (λ p. eqb (rank_at 6 p) j)
        (points ++ p ∷ [])
    each j below =
        let more = count_more (λ p. eqb (rank_at 6 p) j) points p in
        let was = are.each j below in
        elim (eqb j i) as (λ b. eqb j i ≡ b
        → get_or (set counters i (now + 1)) j 0 ≡ count_by (λ p. eqb (rank_at 6 p) j) (points ++ p ∷ [])) [
          | true ↦ λ same.
              let here : j ≡ i = eqb-true j i same in
              let put = ap (λ (k : ℕ). get_or (set counters i (now + 1)) k 0) here
              ∙ get_or-set_same counters i (now + 1) 0 (omega arith) in
              let value_is : now ≡ get_or counters j 0 = value ∙ same_default counters i now 0 (omega arith)
              ∙ ap (λ (k : ℕ). get_or counters k 0) (sym here) in
              let once = ap one (eq-eqb (rank_at 6 p) j (sym (here ∙ is))) in
              omega arith
          | false ↦ λ apart.
              let other : j ≡ i → ⊥ = λ here. absurd (false≢true (sym apart ∙ eq-eqb j i here)) in
              let kept = get_or-set_other counters i j (now + 1) 0 other in
              let never = ap one (ne_eqb (rank_at 6 p) j (λ e. other (sym e ∙ sym is))) in
              omega arith
        ] refl
