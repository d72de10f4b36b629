-- The sheets that a well-formed patch makes keep the rules of a spelling.
use Rattle.std.proofs.Common.{◌≡◌, ◌≢◌, ℕ, ◌+◌, ◌<◌, ◌≤◌, min, Bool, true, false, cond, not, ◌&&◌, ◌||◌, eqb, List, [], ◌∷◌, ◌++◌, map, length, Option, Some, None, ap, sym, ◌∙◌, refl, subst, arith, inl, inr, length-append}
use Rattle.std.proofs.lemmas.Bool.{both_ways, eq-eqb, eqb-true, false≢true, or_cases, or_left, or_right}
use Rattle.std.proofs.lemmas.List.{length-map}
use Rattle.std.proofs.lemmas.List.Elements.{All-from_recursion, recursion_from_All}
use Rattle.std.proofs.lemmas.List.Kept.{IsStrictlyIncreasing-filter}
use Rattle.std.proofs.lemmas.List.Sorted.{length_permutation}
use Rattle.std.proofs.lemmas.Map.Keys.{IsStrictlyIncreasing-from_sorted, sorted_from_strictly_increasing, sorted_head, sorted_tail}
use Rattle.std.specs.List.{All, AllByRecursion, filter, find, list_any, range_with_len}
use Rattle.std.specs.List.Sorted.{IsStrictlyIncreasing, IsStrictlySortedBy}
use Rattle.std.specs.Option.{option_map_or}
use Rattle.std.specs.Ordering.{is_le, nat_cmp}
use Rattle.std.specs.declared.cmp.Ordering.{Ordering}
use Rattle.std.specs.declared.cmp.Ordering.TheVariants.{Less}
use Rattle.oemm_limits.specs.declared.TheConstants.{MOST_ITEMS}
use Rattle.oemm_lists.specs.Ascending.{in_order, inserted}
use Rattle.oemm_octree.specs.declared.cells.Cell.{Cell}
use Rattle.oemm_octree.specs.Leaves.{AreBelow, AreTiles, home, is_one_of}
use Rattle.oemm_octree.proofs.Searches.{few_tiles}
use Rattle.oemm_octree.proofs.Weights.{is_one_of-head}
use Rattle.mesh_data.specs.declared.geometry.Tri.{Tri}
use Rattle.mesh_data.specs.Triangles.{IsProper, corners, tri_cmp, turned}
use Rattle.triangle_lists.proofs.Orders.{tri_cmp_total}
use Rattle.triangle_lists.proofs.Sorting.{IsPermutation-in_order, IsSorted-in_order}
use Rattle.sheet_data.specs.Summed.{SummedVertex}
use Rattle.sheet_data.specs.declared.patches.Mixed.{Mixed}
use Rattle.sheet_data.specs.declared.patches.NearList.{NearList}
use Rattle.sheet_data.specs.declared.patches.Patch.{Patch}
use Rattle.leaf_codec.specs.Sheets.{KeepsSheetRules, names_of}
use Rattle.mesh_sheets.specs.Assembled.{has_name}
use Rattle.mesh_sheets.specs.Written.{are_near_by, keeper_by, leaf_by, leaves_by, patch_tris, sheets_of, written}
use Rattle.mesh_sheets.proofs.Climbing.{increasing, range_climbs}
use Rattle.mesh_sheets.proofs.Filters.{all_weaker, any_map, one_of_filter}
use Rattle.mesh_sheets.proofs.Leaves.{least_is_one}
use Rattle.mesh_sheets.proofs.Rims.{range_below}
use Rattle.sheet_forms.specs.Formed.{IsPatchFor}
use Rattle.sheet_forms.proofs.Counts.{below_at, below_of, few_climbing}
use Rattle.sheet_forms.proofs.Formed.{filter_each, map_each}
use Rattle.store_spelling.proofs.SheetRules.{IsFace, parts_keep}

-- ---- lists

-- the names of those that pass ascend where all names do
sorted_kept : (f : SummedVertex → Bool) (vs : List SummedVertex) → IsStrictlySortedBy nat_cmp (names_of vs)
    → IsStrictlySortedBy nat_cmp (names_of (filter f vs))
unfolding IsStrictlySortedBy
sorted_kept f [] up = up
sorted_kept f (x ∷ vs) up =
    let rest = sorted_kept f vs up.1 in
    elim (f x) as (λ b. IsStrictlySortedBy nat_cmp (names_of (cond b (x ∷ filter f vs) (filter f vs)))) [
      | true ↦ (above vs up.0, rest)
      | false ↦ rest
    ]
  where
    above : (ys : List SummedVertex) → AllByRecursion (λ k. nat_cmp x.name k ≡ Less) (names_of ys)
        → AllByRecursion (λ k. nat_cmp x.name k ≡ Less) (names_of (filter f ys))
    above [] all = tt
    above (y ∷ ys) all =
        elim (f y) as (λ b. AllByRecursion (λ k. nat_cmp x.name k ≡ Less) (names_of (cond b (y ∷ filter f ys) (filter f ys)))) [
          | true ↦ (all.0, above ys all.1)
          | false ↦ above ys all.1
        ]

kept_ascend : (f : SummedVertex → Bool) (vs : List SummedVertex) → IsStrictlyIncreasing (names_of vs)
    → IsStrictlyIncreasing (names_of (filter f vs))
kept_ascend f vs up =
    IsStrictlyIncreasing-from_sorted (names_of (filter f vs))
    (sorted_kept f vs (sorted_from_strictly_increasing (names_of vs) up))

each_placed : (P : Tri → Type 0) (t : Tri) (ts : List Tri) → P t → AllByRecursion P ts
    → AllByRecursion P (inserted tri_cmp t ts)
each_placed P t [] h all = (h, tt)
each_placed P t (u ∷ us) h all =
    elim (is_le (tri_cmp t u)) as (λ b. AllByRecursion P (cond b (t ∷ u ∷ us) (u ∷ inserted tri_cmp t us))) [
      | true ↦ (h, all)
      | false ↦ (all.0, each_placed P t us h all.1)
    ]

each_in_order : (P : Tri → Type 0) (ts : List Tri) → AllByRecursion P ts → AllByRecursion P (in_order tri_cmp ts)
each_in_order P [] all = tt
each_in_order P (t ∷ ts) all = each_placed P t (in_order tri_cmp ts) all.0 (each_in_order P ts all.1)

each_append : {X : Type 0} (P : X → Type 0) (xs ys : List X) → AllByRecursion P xs → AllByRecursion P ys
    → AllByRecursion P (xs ++ ys)
each_append P [] ys a b = b
each_append P (x ∷ xs) ys a b = (a.0, each_append P xs ys a.1 b)

front_each : {X : Type 0} (P : X → Type 0) (xs ys : List X) → AllByRecursion P (xs ++ ys) → AllByRecursion P xs
front_each P [] ys all = tt
front_each P (x ∷ xs) ys all = (all.0, front_each P xs ys all.1)

back_each : {X : Type 0} (P : X → Type 0) (xs ys : List X) → AllByRecursion P (xs ++ ys) → AllByRecursion P ys
back_each P [] ys all = all
back_each P (x ∷ xs) ys all = back_each P xs ys all.1

each_mapped : {X Y : Type 0} (P : Y → Type 0) (g : X → Y) (xs : List X) → AllByRecursion P (map g xs)
    → AllByRecursion (λ x. P (g x)) xs
each_mapped P g [] all = tt
each_mapped P g (x ∷ xs) all = (all.0, each_mapped P g xs all.1)

each_both : {X : Type 0} (P Q : X → Type 0) (xs : List X) → AllByRecursion P xs → AllByRecursion Q xs
    → AllByRecursion (λ x. P x × Q x) xs
each_both P Q [] a b = tt
each_both P Q (x ∷ xs) a b = ((a.0, b.0), each_both P Q xs a.1 b.1)

few_kept : {X : Type 0} (f : X → Bool) (xs : List X) → length (filter f xs) ≤ length xs
few_kept f [] = omega arith
few_kept f (x ∷ xs) =
    let rest = few_kept f xs in
    elim (f x) as (λ b. length (cond b (x ∷ filter f xs) (filter f xs)) ≤ length (x ∷ xs)) [
      | true ↦ omega (arith, rest)
      | false ↦ omega (arith, rest)
    ]

any_weaker : {X : Type 0} (p q : X → Bool) → ((x : X) → p x ≡ true → q x ≡ true) → (xs : List X)
    → list_any p xs ≡ true → list_any q xs ≡ true
any_weaker p q h [] on = on
any_weaker p q h (x ∷ xs) on =
    elim (or_cases (p x) (list_any p xs) on) [
      | inl here ↦ or_left (q x) (list_any q xs) (h x here)
      | inr more ↦ or_right (q x) (list_any q xs) (any_weaker p q h xs more)
    ]

-- ---- a sheet

-- a name whose leaf this is, which is one of the leaves, is that of a vertex in it
corner_named : (cells : List Cell) (leaf : ℕ) → leaf < length cells → (vs : List SummedVertex) (v : ℕ)
    → eqb leaf (leaf_by cells vs v) ≡ true → has_name (filter (λ x. eqb (home cells x.point) leaf) vs) v ≡ true
corner_named cells leaf lt [] v on =
    let is : leaf ≡ length cells = eqb-true leaf (length cells) on in absurd (omega (arith, is, lt))
corner_named cells leaf lt (x ∷ vs) v on =
    let rest = filter (λ (y : SummedVertex). eqb (home cells y.point) leaf) vs in
    elim (eqb v x.name) as (λ b. eqb v x.name ≡ b
    → eqb leaf (option_map_or (λ (y : SummedVertex). home cells y.point) (cond b (Some x) (find (λ (y : SummedVertex). eqb v y.name) vs)) (length cells)) ≡ true
    → has_name (cond (eqb (home cells x.point) leaf) (x ∷ rest) rest) v ≡ true) [
      | true ↦ λ named h.
          let here : eqb (home cells x.point) leaf ≡ true =
          eq-eqb (home cells x.point) leaf (sym (eqb-true leaf (home cells x.point) h)) in
          ap (λ b. has_name (cond b (x ∷ rest) rest) v) here ∙ or_left (eqb v x.name) (has_name rest v) named
      | false ↦ λ _ h.
          let later = corner_named cells leaf lt vs v h in
          elim (eqb (home cells x.point) leaf) as (λ b. has_name (cond b (x ∷ rest) rest) v ≡ true) [
            | true ↦ or_right (eqb v x.name) (has_name rest v) later
            | false ↦ later
          ]
    ] refl on

module _ (cells : List Cell) (core : List ℕ) (p : Patch) (tiles : AreTiles cells) (below : AreBelow (length cells) core)
    (formed : IsPatchFor cells core p) where
  module _ (list : NearList) (on : is_one_of core list.leaf ≡ true)
      (outside : (k : ℕ) → is_one_of list.outside k ≡ true → is_one_of core k ≡ false) where
    abbrev here : List SummedVertex
    here = filter (λ x. eqb (home cells x.point) list.leaf) p.vertices

    abbrev keeps_whole : Tri → Bool
    keeps_whole t = eqb (keeper_by cells p.vertices t) list.leaf

    abbrev keeps_mixed : Mixed → Bool
    keeps_mixed x = eqb x.leaf list.leaf

    abbrev whole : List Tri
    whole = filter keeps_whole p.whole

    abbrev mixed : List Mixed
    mixed = filter keeps_mixed p.mixed

    abbrev is_near : ℕ → Bool
    is_near l = is_one_of list.outside l || are_near_by cells p.vertices (patch_tris p) list.leaf l

    has_corner : (t : Tri) → is_one_of (leaves_by cells p.vertices t) list.leaf ≡ true
        → list_any (has_name here) (corners t) ≡ true
    has_corner t one =
        any_weaker (λ v. eqb list.leaf (leaf_by cells p.vertices v)) (has_name here)
        (λ v is. corner_named cells list.leaf (below list.leaf on) p.vertices v is) (corners t)
        (sym (any_map (λ l. eqb list.leaf l) (leaf_by cells p.vertices) (corners t)) ∙ one)

    abbrev IsTurned : Tri → Type 0
    IsTurned t = IsProper t × (turned t ≡ t)

    turned_all : AllByRecursion IsTurned (patch_tris p)
    turned_all = recursion_from_All IsTurned (patch_tris p) formed.proper

    whole_faces : AllByRecursion (IsFace here) whole
    whole_faces =
        all_weaker (λ (t : Tri). IsTurned t × (keeps_whole t ≡ true)) (IsFace here)
        (λ t is. (
          is.0.0,
          is.0.1,
          has_corner t
              (least_is_one (leaf_by cells p.vertices t.a) (leaf_by cells p.vertices t.b) (leaf_by cells p.vertices t.c) list.leaf is.1),
        ))
        whole (filter_each IsTurned keeps_whole p.whole (front_each IsTurned p.whole (map (λ x. x.tri) p.mixed) turned_all))

    abbrev IsKept : Mixed → Type 0
    IsKept x = IsTurned x.tri
        × (is_one_of core x.leaf ≡ true → is_one_of (leaves_by cells p.vertices x.tri) x.leaf ≡ true)

    kept_all : AllByRecursion IsKept p.mixed
    kept_all =
        each_both (λ (x : Mixed). IsTurned x.tri)
        (λ (x : Mixed). is_one_of core x.leaf ≡ true → is_one_of (leaves_by cells p.vertices x.tri) x.leaf ≡ true)
        p.mixed (each_mapped IsTurned (λ (x : Mixed). x.tri) p.mixed (back_each IsTurned p.whole (map (λ x. x.tri) p.mixed) turned_all))
        (recursion_from_All
        (λ (x : Mixed). is_one_of core x.leaf ≡ true → is_one_of (leaves_by cells p.vertices x.tri) x.leaf ≡ true) p.mixed formed.kept)

    mixed_face : (x : Mixed) → IsKept x × (keeps_mixed x ≡ true) → IsFace here x.tri
    mixed_face x is =
        let same : x.leaf ≡ list.leaf = eqb-true x.leaf list.leaf is.1 in
        let one = is.0.1 (ap (is_one_of core) same ∙ on) in
        (is.0.0.0, is.0.0.1, has_corner x.tri (ap (is_one_of (leaves_by cells p.vertices x.tri)) (sym same) ∙ one))

    mixed_faces : AllByRecursion (IsFace here) (map (λ x. x.tri) mixed)
    mixed_faces =
        map_each (IsFace here) (λ (x : Mixed). x.tri) mixed
        (all_weaker (λ (x : Mixed). IsKept x × (keeps_mixed x ≡ true)) (λ (x : Mixed). IsFace here x.tri) mixed_face mixed
        (filter_each IsKept keeps_mixed p.mixed kept_all))

    few_faces : length (in_order tri_cmp (whole ++ map (λ x. x.tri) mixed)) ≤ MOST_ITEMS
    few_faces =
        let tris = map (λ (x : Mixed). x.tri) mixed in
        let long = length_permutation (whole ++ tris) (in_order tri_cmp (whole ++ tris)) (IsPermutation-in_order tri_cmp (whole ++ tris)) in
        omega (
          arith,
          long,
          length-append whole tris,
          length-map mixed (λ (x : Mixed). x.tri),
          few_kept keeps_whole p.whole,
          few_kept keeps_mixed p.mixed,
          length-append p.whole (map (λ (x : Mixed). x.tri) p.mixed),
          length-map p.mixed (λ (x : Mixed). x.tri),
          formed.few,
        )

    few_here : length here ≤ MOST_ITEMS
    few_here =
        let name : SummedVertex → ℕ = λ x. x.name in
        let few = few_climbing MOST_ITEMS (map name p.vertices) formed.ascend
        (below_at name MOST_ITEMS p.vertices (recursion_from_All (λ (x : SummedVertex). x.name < MOST_ITEMS) p.vertices formed.below)) in
        omega (arith, few, length-map p.vertices name, few_kept (λ (x : SummedVertex). eqb (home cells x.point) list.leaf) p.vertices)

    near_ascend : IsStrictlyIncreasing (filter is_near (range_with_len 0 (length cells)))
    near_ascend =
        IsStrictlyIncreasing-filter is_near (range_with_len 0 (length cells))
        (increasing (range_with_len 0 (length cells)) (range_climbs 0 (length cells)))

    few_near : length (filter is_near (range_with_len 0 (length cells))) ≤ length cells
    few_near =
        few_climbing (length cells) (filter is_near (range_with_len 0 (length cells))) near_ascend
        (below_of (length cells) (filter is_near (range_with_len 0 (length cells)))
        (λ l is. let lt = range_below is_near l 0 (length cells) is in omega (arith, lt)))

    not_outside : is_one_of list.outside list.leaf ≡ false
    not_outside =
        elim (is_one_of list.outside list.leaf) as (λ b. is_one_of list.outside list.leaf ≡ b → b ≡ false) [
          | true ↦ λ is. absurd (both_ways (is_one_of core list.leaf) (outside list.leaf is) on)
          | false ↦ λ _. refl
        ] refl

    near_others : is_one_of (filter is_near (range_with_len 0 (length cells))) list.leaf ≡ false
    near_others =
        let some = list_any (λ t. is_one_of (leaves_by cells p.vertices t) list.leaf && is_one_of (leaves_by cells p.vertices t) list.leaf) (patch_tris p) in
        let itself = eq-eqb list.leaf list.leaf refl in
        one_of_filter is_near (range_with_len 0 (length cells)) list.leaf
        ∙ (λ i. (not_outside i || (not (itself i) && some)) && is_one_of (range_with_len 0 (length cells)) list.leaf)

    one_keeps : KeepsSheetRules (written cells p list)
    unfolding written
    one_keeps =
        parts_keep (written cells p list) (kept_ascend (λ x. eqb (home cells x.point) list.leaf) p.vertices formed.ascend)
        (All-from_recursion (IsFace here) (in_order tri_cmp (whole ++ map (λ x. x.tri) mixed))
        (each_in_order (IsFace here) (whole ++ map (λ x. x.tri) mixed) (each_append (IsFace here) whole (map (λ x. x.tri) mixed) whole_faces mixed_faces)))
        (IsSorted-in_order tri_cmp_total (whole ++ map (λ x. x.tri) mixed)) near_ascend near_others
        (omega (arith, few_here)) (omega (arith, few_faces)) (omega (arith, few_near, few_tiles cells tiles))

  each_list : (lists : List NearList)
      → ((l : ℕ) → is_one_of (map (λ (x : NearList). x.leaf) lists) l ≡ true → is_one_of core l ≡ true)
      → AllByRecursion (λ (x : NearList). (k : ℕ) → is_one_of x.outside k ≡ true → is_one_of core k ≡ false) lists
      → AllByRecursion KeepsSheetRules (map (written cells p) lists)
  each_list [] ones outs = tt
  each_list (list ∷ lists) ones outs = (
    one_keeps list (ones list.leaf (is_one_of-head list.leaf (map (λ (x : NearList). x.leaf) lists))) outs.0,
    each_list lists (λ l is. ones l (or_right (eqb l list.leaf) (is_one_of (map (λ (x : NearList). x.leaf) lists) l) is)) outs.1,
  )

  -- each sheet that the patch makes can be encoded
  pub written_keep : All KeepsSheetRules (sheets_of cells p)
  written_keep =
      All-from_recursion KeepsSheetRules (sheets_of cells p)
      (each_list p.near (λ l is. ap (λ (ls : List ℕ). is_one_of ls l) (sym formed.lists) ∙ is)
      (recursion_from_All (λ (x : NearList). (k : ℕ) → is_one_of x.outside k ≡ true → is_one_of core k ≡ false) p.near formed.outside))
