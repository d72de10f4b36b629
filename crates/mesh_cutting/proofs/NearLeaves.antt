-- The leaves that are near to one, by the triangles from the corners in it.
use Rattle.std.proofs.Common.{◌≡◌, ℕ, zero, suc, ◌+◌, ◌<◌, ◌≤◌, Bool, true, false, cond, not, ◌&&◌, ◌||◌, eqb, List, [], ◌∷◌, ◌++◌, length, map, get_or, sym, ap, ◌∙◌, refl, subst, arith, inl, inr}
use Rattle.std.proofs.lemmas.Bool.{cases_lt, eq-eqb, eqb-true, ne_eqb, or_left, or_right}
use Rattle.std.proofs.lemmas.List.{length-map}
use Rattle.std.proofs.lemmas.List.Elements.{recursion_from_All}
use Rattle.std.proofs.lemmas.List.Folds.{list_any-append}
use Rattle.std.proofs.lemmas.List.Kept.{IsStrictlyIncreasing-filter}
use Rattle.std.specs.List.{All, AllByRecursion, filter, flat_map, list_any, range_with_len}
use Rattle.std.specs.List.Sorted.{IsStrictlyIncreasing}
use Rattle.std.specs.Ordering.{is_le}
use Rattle.std.specs.declared.cmp.Ordering.{Ordering}
use Rattle.oemm_lists.specs.Ascending.{in_order, inserted}
use Rattle.oemm_octree.specs.Leaves.{home, is_one_of}
use Rattle.mesh_data.specs.declared.geometry.Tri.{Tri}
use Rattle.mesh_data.specs.Rings.{from_each_corner}
use Rattle.mesh_data.specs.Triangles.{IsBelow, corners, tri_cmp}
use Rattle.triangle_lists.proofs.Paths.{eqb_comm}
use Rattle.neighbour_index.specs.Neighbours.{are_neighbours, is_listed, lives_in}
use Rattle.mesh_sheets.specs.Sheets.{are_near, leaf_of, leaves_of, near}
use Rattle.mesh_sheets.proofs.Climbing.{increasing, range_climbs}
use Rattle.mesh_sheets.proofs.Filters.{and_false, filter_all, one_of_filter}
use Rattle.mesh_sheets.proofs.Assembling.{one_of_range}
use Rattle.mesh_cutting.specs.Cuts.{Cut, corner_tris, leaf_at, listed_at, mesh_in}
use Rattle.mesh_cutting.proofs.OneList.{one_list}
use Rattle.mesh_cutting.proofs.Places.{leaf_is}

-- ---- tests of lists

and_true : (b : Bool) → (b && true) ≡ b
and_true true = refl
and_true false = refl

-- a second test that all share
shared : (a b c rest y : Bool)
    → ((a && y) || ((b && y) || ((c && y) || (rest && y)))) ≡ ((a || (b || (c || rest))) && y)
shared a b c rest true =
    (λ i. and_true a i || (and_true b i || (and_true c i || and_true rest i))) ∙ sym (and_true (a || (b || (c || rest))))
shared a b c rest false =
    (λ i. and_false a i || (and_false b i || (and_false c i || and_false rest i))) ∙ sym (and_false (a || (b || (c || rest))))

any_inserted : {X : Type 0} (p : X → Bool) (cmp : X → X → Ordering) (x : X) (ys : List X)
    → list_any p (inserted cmp x ys) ≡ (p x || list_any p ys)
any_inserted p cmp x [] = refl
any_inserted p cmp x (y ∷ ys) =
    elim (is_le (cmp x y)) as (λ b. list_any p (cond b (x ∷ y ∷ ys) (y ∷ inserted cmp x ys)) ≡ (p x || (p y || list_any p ys))) [
      | true ↦ refl
      | false ↦ ap (λ b. p y || b) (any_inserted p cmp x ys) ∙ swapped (p y) (p x) (list_any p ys)
    ]
  where
    swapped : (a b c : Bool) → (a || (b || c)) ≡ (b || (a || c))
    swapped true true c = refl
    swapped true false c = refl
    swapped false true c = refl
    swapped false false c = refl

any_in_order : {X : Type 0} (p : X → Bool) (cmp : X → X → Ordering) (xs : List X)
    → list_any p (in_order cmp xs) ≡ list_any p xs
any_in_order p cmp [] = refl
any_in_order p cmp (x ∷ xs) = any_inserted p cmp x (in_order cmp xs) ∙ ap (λ b. p x || b) (any_in_order p cmp xs)

any_passed : {X : Type 0} (p q : X → Bool) (xs : List X) → list_any p (filter q xs) ≡ list_any (λ x. q x && p x) xs
any_passed p q [] = refl
any_passed p q (x ∷ xs) =
    elim (q x) as (λ b. list_any p (cond b (x ∷ filter q xs) (filter q xs)) ≡ ((b && p x) || list_any (λ x. q x && p x) xs)) [
      | true ↦ ap (λ b. p x || b) (any_passed p q xs)
      | false ↦ any_passed p q xs
    ]

any_agree : {X : Type 0} (p q : X → Bool) (xs : List X) → AllByRecursion (λ x. p x ≡ q x) xs
    → list_any p xs ≡ list_any q xs
any_agree p q [] all = refl
any_agree p q (x ∷ xs) all = λ i. all.0 i || any_agree p q xs all.1 i

off_range_from : (a n l : ℕ) → a + n ≤ l → is_one_of (range_with_len a n) l ≡ false
off_range_from a zero l high = refl
off_range_from a (suc n) l high =
    λ i. ne_eqb l a (λ same. omega (arith, same, high)) i || off_range_from (a + 1) n l (omega (arith, high)) i

off_range : (n l : ℕ) → n ≤ l → is_one_of (range_with_len 0 n) l ≡ false
off_range n l high = off_range_from 0 n l (omega (arith, high))

in_range : (n l : ℕ) → l < n → is_one_of (range_with_len 0 n) l ≡ true
in_range n l lt =
    ap (λ (ls : List ℕ). is_one_of ls l) (sym (filter_all (range_with_len 0 n)))
    ∙ one_of_range (λ _. true) l 0 n refl (omega arith) (omega (arith, lt))

module _ (k : ℕ → ℕ) where
  -- some corner of the triangle has the number
  abbrev pub has : ℕ → Tri → Bool
  has l t = list_any (λ v. eqb (k v) l) (corners t)

  -- the triangle has a corner of each
  abbrev pub joins : ℕ → ℕ → Tri → Bool
  joins l m t = has l t && has m t

  -- ---- listed corners

  abbrev listed : List Tri → List (ℕ × ℕ)
  listed ts = flat_map (λ t. map (λ v. (v, k v)) (corners t)) ts

  entry : (w v l : ℕ) → (eqb w v && eqb (k w) l) ≡ (eqb w v && eqb (k v) l)
  entry w v l =
      elim (eqb w v) as (λ b. eqb w v ≡ b → (b && eqb (k w) l) ≡ (b && eqb (k v) l)) [
        | true ↦ λ same. ap (λ (u : ℕ). eqb (k u) l) (eqb-true w v same)
        | false ↦ λ _. refl
      ] refl

  listed_is : (ts : List Tri) (v l : ℕ)
      → is_listed (listed ts) l v ≡ (list_any (λ w. eqb w v) (flat_map corners ts) && eqb (k v) l)
  listed_is [] v l = refl
  listed_is (t ∷ ts) v l =
      (λ i. entry t.a v l i || (entry t.b v l i || (entry t.c v l i || listed_is ts v l i)))
      ∙ shared (eqb t.a v) (eqb t.b v) (eqb t.c v) (list_any (λ w. eqb w v) (flat_map corners ts)) (eqb (k v) l)

  module _ (ss : List Tri) where
    abbrev Corner : ℕ → Type 0
    Corner v = list_any (λ w. eqb w v) (flat_map corners ss) ≡ true

    lives : (l : ℕ) (ts : List Tri) → ((v : ℕ) → list_any (λ w. eqb w v) (flat_map corners ts) ≡ true → Corner v)
        → AllByRecursion (λ t. lives_in (listed ss) l t ≡ has l t) ts
    lives l [] within = tt
    lives l (t ∷ ts) within =
        let rest = flat_map corners ts in
        let at : (v : ℕ) → Corner v → is_listed (listed ss) l v ≡ eqb (k v) l = λ v on. listed_is ss v l ∙ ap (λ b. b && eqb (k v) l) on in
        let a = at t.a (within t.a (or_left (eqb t.a t.a) _ (eq-eqb t.a t.a refl))) in
        let b = at t.b (within t.b (or_right (eqb t.a t.b) _ (or_left (eqb t.b t.b) _ (eq-eqb t.b t.b refl)))) in
        let c = at t.c (within t.c (or_right (eqb t.a t.c) _ (or_right (eqb t.b t.c) _ (or_left (eqb t.c t.c) _ (eq-eqb t.c t.c refl))))) in (
          λ i. a i || (b i || (c i || false)),
          lives l ts (λ v on. within v (or_right (eqb t.a v) _ (or_right (eqb t.b v) _ (or_right (eqb t.c v) _ on)))),
        )

    pub neighbours_are : (l m : ℕ) → are_neighbours ss (listed ss) l m ≡ (not (eqb l m) && list_any (joins l m) ss)
    neighbours_are l m =
        ap (λ b. not (eqb l m) && b) (any_agree _ _ ss (zipped ss (lives l ss (λ v on. on)) (lives m ss (λ v on. on))))
      where
        zipped : (ts : List Tri) → AllByRecursion (λ t. lives_in (listed ss) l t ≡ has l t) ts
            → AllByRecursion (λ t. lives_in (listed ss) m t ≡ has m t) ts
            → AllByRecursion (λ t. (lives_in (listed ss) l t && lives_in (listed ss) m t) ≡ joins l m t) ts
        zipped [] p q = tt
        zipped (t ∷ ts) p q = (λ i. p.0 i && q.0 i, zipped ts p.1 q.1)

  -- ---- triangles from their corners

  turned_or : (a b c : Bool) → (b || (c || (a || false))) ≡ (a || (b || (c || false)))
  turned_or true true c = refl
  turned_or true false true = refl
  turned_or true false false = refl
  turned_or false true c = refl
  turned_or false false true = refl
  turned_or false false false = refl

  next : (l m : ℕ) (t : Tri) → joins l m (record { a = t.b; b = t.c; c = t.a }) ≡ joins l m t
  next l m t = λ i. turned_or (eqb (k t.a) l) (eqb (k t.b) l) (eqb (k t.c) l) i
      && turned_or (eqb (k t.a) m) (eqb (k t.b) m) (eqb (k t.c) m) i

  some_corner : (a b c y rest : Bool) → ((a && ((a || (b || (c || false))) && y)) || ((b && ((a || (b || (c || false))) && y))
      || ((c && ((a || (b || (c || false))) && y)) || rest))) ≡ (((a || (b || (c || false))) && y) || rest)
  some_corner true true true true rest = refl
  some_corner true true true false rest = refl
  some_corner true true false true rest = refl
  some_corner true true false false rest = refl
  some_corner true false true true rest = refl
  some_corner true false true false rest = refl
  some_corner true false false true rest = refl
  some_corner true false false false rest = refl
  some_corner false true true true rest = refl
  some_corner false true true false rest = refl
  some_corner false true false true rest = refl
  some_corner false true false false rest = refl
  some_corner false false true true rest = refl
  some_corner false false true false rest = refl
  some_corner false false false y rest = refl

  from_corners : (l m : ℕ) (ts : List Tri)
      → list_any (λ t. eqb (k t.a) l && joins l m t) (flat_map from_each_corner ts) ≡ list_any (joins l m) ts
  from_corners l m [] = refl
  from_corners l m (t ∷ ts) =
      let rest = list_any (λ t. eqb (k t.a) l && joins l m t) (flat_map from_each_corner ts) in
      let second : Tri = record { a = t.b; b = t.c; c = t.a } in
      (λ i. (eqb (k t.a) l && joins l m t) || ((eqb (k t.b) l && next l m t i)
      || ((eqb (k t.c) l && (next l m second ∙ next l m t) i) || rest)))
      ∙ some_corner (eqb (k t.a) l) (eqb (k t.b) l) (eqb (k t.c) l) (has m t) rest
      ∙ ap (λ b. joins l m t || b) (from_corners l m ts)

  none_has : (n l m : ℕ) (ts : List Tri) → AllByRecursion (λ t. (k t.a < n) × (k t.b < n) × (k t.c < n)) ts → n ≤ m
      → list_any (joins l m) ts ≡ false
  none_has n l m [] all high = refl
  none_has n l m (t ∷ ts) all high =
      let off : (v : ℕ) → k v < n → eqb (k v) m ≡ false = λ v lt. ne_eqb (k v) m (λ same. omega (arith, same, lt, high)) in
      (λ i. (has l t && (off t.a all.0.0 i || (off t.b all.0.1 i || (off t.c all.0.2 i || false)))) || none_has n l m ts all.1 high i)
      ∙ ap (λ b. b || false) (and_false (has l t))

-- ---- the leaves near to one

module _ (c : Cut) (leaf : ℕ) (under : All (IsBelow (length c.points)) c.tris)
    (homed : All (λ l. l < length c.cells) (map (home c.cells) c.points)) where
  abbrev k : ℕ → ℕ
  k = leaf_at c.cells c.points

  below : (v : ℕ) → v < length c.points → k v < length c.cells
  below v lt = homed v (length c.cells) (omega (arith, length-map c.points (home c.cells), lt))

  lows : (ts : List Tri) → AllByRecursion (IsBelow (length c.points)) ts
      → AllByRecursion (λ t. (k t.a < length c.cells) × (k t.b < length c.cells) × (k t.c < length c.cells)) ts
  lows [] all = tt
  lows (t ∷ ts) all = ((below t.a all.0.0, below t.b all.0.1, below t.c all.0.2), lows ts all.1)

  near_tri : (l : ℕ) (t : Tri) → is_one_of (leaves_of c.cells (mesh_in c) t) l ≡ has k l t
  near_tri l t =
      let at : (v : ℕ) → eqb l (leaf_of c.cells (mesh_in c) v) ≡ eqb (k v) l =
      λ v. ap (eqb l) (leaf_is c v) ∙ eqb_comm l (k v) in
      λ i. at t.a i || (at t.b i || (at t.c i || false))

  near_test : (l : ℕ) → are_near c.cells (mesh_in c) leaf l ≡ (not (eqb leaf l) && list_any (joins k leaf l) c.tris)
  near_test l = λ i. not (eqb leaf l) && list_any (λ t. near_tri leaf t i && near_tri l t i) c.tris

  pub near_is : (own : List Tri) (found : List ℕ)
      → own ≡ filter (λ t. eqb (k t.a) leaf) (corner_tris c.tris) → IsStrictlyIncreasing found
      → ((l : ℕ) → is_one_of found l ≡ are_neighbours own (flat_map (listed_at (map (home c.cells) c.points) (length c.cells)) own) leaf l)
      → found ≡ near c.cells (mesh_in c) leaf
  near_is own found own_is up told =
      let n = length c.cells in
      let test = are_near c.cells (mesh_in c) leaf in
      let by_tris : (l : ℕ) → is_one_of found l ≡ (not (eqb leaf l) && list_any (joins k leaf l) c.tris) = λ l.
      told l ∙ neighbours_are k own leaf l
      ∙ ap (λ b. not (eqb leaf l) && b)
      (ap (list_any (joins k leaf l)) own_is
      ∙ any_passed (joins k leaf l) (λ t. eqb (k t.a) leaf) (corner_tris c.tris)
      ∙ any_in_order (λ t. eqb (k t.a) leaf && joins k leaf l t) tri_cmp (flat_map from_each_corner c.tris)
      ∙ from_corners k leaf l c.tris) in
      one_list found (filter test (range_with_len 0 n)) up
      (IsStrictlyIncreasing-filter test (range_with_len 0 n) (increasing (range_with_len 0 n) (range_climbs 0 n)))
      (λ l. elim (cases_lt l n) [
        | inl lt ↦
            by_tris l ∙ sym (near_test l) ∙ sym (and_true (test l))
            ∙ ap (λ b. test l && b) (sym (in_range n l lt))
            ∙ sym (one_of_filter test (range_with_len 0 n) l)
        | inr high ↦
            by_tris l
            ∙ ap (λ b. not (eqb leaf l) && b) (none_has k n leaf l c.tris (lows c.tris (recursion_from_All _ c.tris under)) high)
            ∙ and_false (not (eqb leaf l))
            ∙ sym (and_false (test l)) ∙ ap (λ b. test l && b) (sym (off_range n l high))
            ∙ sym (one_of_filter test (range_with_len 0 n) l)
      ])
