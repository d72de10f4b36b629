-- The sheets of a mesh are sheets that a leaf can have.
use Rattle.std.proofs.Common.{◌≡◌, ℕ, ◌+◌, ◌^◌, ◌<◌, ◌≤◌, Bool, true, false, cond, not, ◌&&◌, ◌||◌, eqb, ltb, nat_abs, List, [], ◌∷◌, map, length, All, Some, None, sym, ap, ◌∙◌, refl, subst, arith, inl, inr}
use Rattle.std.proofs.lemmas.Bool.{and_parts, eqb-true, eq-eqb, false≢true, or_cases, or_left, or_right, ltb-true}
use Rattle.std.proofs.lemmas.Cmp.{tied_itself}
use Rattle.std.proofs.lemmas.Int.{ints}
use Rattle.std.proofs.lemmas.List.Sums.{sum_by-cons}
use Rattle.std.proofs.lemmas.List.Elements.{All-from_recursion, recursion_from_All}
use Rattle.std.proofs.lemmas.List.Kept.{IsStrictlyIncreasing-filter}
use Rattle.std.specs.Cmp.{nat_cmp_total, unsigned_tied}
use Rattle.std.specs.FinMap as finite
use Rattle.std.specs.FinMap.Entries.{find, is_sorted, below_all}
use Rattle.std.specs.List.{filter, list_any, AllByRecursion, range_with_len}
use Rattle.std.specs.List.Sorted.{IsSorted, IsStrictlyIncreasing}
use Rattle.std.specs.Option.{is_some, option_map_or}
use Rattle.std.specs.Ordering.{nat_cmp, is_eq, eq_by_cmp}
use Rattle.oemm_octree.specs.declared.points.Point.{Point}
use Rattle.oemm_octree.specs.declared.cells.Cell.{Cell}
use Rattle.mesh_data.specs.declared.geometry.Tri.{Tri}
use Rattle.mesh_data.specs.declared.geometry.Vertex.{Vertex}
use Rattle.mesh_data.specs.declared.planes.Plane.{Plane}
use Rattle.mesh_data.specs.Manifold.{IsTriangleOf}
use Rattle.mesh_data.specs.Mesh.{Mesh, point_of}
use Rattle.mesh_data.specs.Planes.{AreBounded, sums_of, no_sums, products, most_planes}
use Rattle.mesh_data.specs.Triangles.{IsProper, turned, corners, tri_cmp}
use Rattle.oemm_plane.proofs.Sums.{planes-sums_of}
use Rattle.oemm_plane.proofs.SumsSizes.{AreBounded-added, AreBounded-products}
use Rattle.plane_counts.specs.PlaneCounts.{HasPlanes, plane_count, large_count, large_of, is_bounded}
use Rattle.edit_steps.specs.Totals.{total_in}
use Rattle.sheet_data.specs.Summed.{SummedVertex}
use Rattle.oemm_octree.specs.Leaves.{home, is_one_of}
use Rattle.mesh_sheets.specs.Clean.{IsClean, AreNamed}
use Rattle.mesh_sheets.specs.Sheets.{leaf_of, leaves_of, keeper, are_near, summed, sheet}
use Rattle.mesh_sheets.specs.Assembled.{has_name}
use Rattle.sheet_forms.specs.Formed.{IsSheetOf}
use Rattle.triangle_lists.proofs.Orders.{tri_cmp_total, tri_cmp-IsAntisymmetric}
use Rattle.triangle_lists.proofs.Sorting.{IsSorted-in_order, Rises, Rises-from_sorted}
use Rattle.mesh_sheets.proofs.Filters.{in_order_already, rises_filter, one_of_filter, all_weaker, map-map}
use Rattle.mesh_sheets.proofs.Climbing.{increasing, keys_climb, range_climbs}
use Rattle.mesh_sheets.proofs.Gathered.{has_held}
use Rattle.mesh_sheets.proofs.Kept.{find_below, sorted_kept, true_of_T}
use Rattle.mesh_sheets.proofs.Leaves.{least_is_one}
use Rattle.mesh_sheets.proofs.Rims.{range_below}

-- ---- what is so of each entry

pub entries_each : {X : Type 0} (P : ℕ → X → Type 0) (es : List (ℕ × X)) → is_sorted nat_cmp es ≡ true → ((v : ℕ) (x : X) → find nat_cmp v es ≡ Some x → P v x) → AllByRecursion (λ e. P e.0 e.1) es
entries_each P [] sorted h = tt
entries_each {X = X} P (e ∷ es) sorted h =
    let parts = and_parts (below_all nat_cmp e.0 es) (is_sorted nat_cmp es) sorted in
    let here : find nat_cmp e.0 (e ∷ es) ≡ Some e.1 = ap (λ r. cond (is_eq r) (Some e.1) (find nat_cmp e.0 es)) (tied_itself nat_cmp_total e.0) in (
      h e.0 e.1 here,
      entries_each P es parts.1 (λ v x is. h v x (
          elim (eq_by_cmp nat_cmp v e.0) as (λ b. eq_by_cmp nat_cmp v e.0 ≡ b → cond b (Some e.1) (find nat_cmp v es) ≡ Some x) [
            | true ↦ λ on.
                let same : v ≡ e.0 = eqb-true v e.0 (sym (unsigned_tied v e.0) ∙ on) in
                let none : find nat_cmp v es ≡ None = ap (λ (k : ℕ). find nat_cmp k es) same ∙ find_below (λ (y : X). true) e.0 es parts.0 in
                let no : None ≡ Some x = sym none ∙ is in absurd (cc)
            | false ↦ λ _. is
          ] refl)),
    )

pub filter_each : {X : Type 0} (P : X → Type 0) (f : X → Bool) (xs : List X) → AllByRecursion P xs → AllByRecursion (λ x. P x × (f x ≡ true)) (filter f xs)
filter_each P f [] all = tt
filter_each P f (x ∷ xs) all =
    elim (f x) as (λ b. f x ≡ b → AllByRecursion (λ x. P x × (f x ≡ true)) (cond b (x ∷ filter f xs) (filter f xs))) [
      | true ↦ λ on. ((all.0, on), filter_each P f xs all.1)
      | false ↦ λ _. filter_each P f xs all.1
    ] refl

pub map_each : {X Y : Type 0} (P : Y → Type 0) (g : X → Y) (xs : List X) → AllByRecursion (λ x. P (g x)) xs → AllByRecursion P (map g xs)
map_each P g [] all = tt
map_each P g (x ∷ xs) all = (all.0, map_each P g xs all.1)

-- ---- sums of few planes of the grid are bounded

none_bounded : AreBounded no_sums
none_bounded = record {
  planes = omega arith;
  aa = omega arith;
  ab = omega arith;
  ac = omega arith;
  ad = omega arith;
  bb = omega arith;
  bc = omega arith;
  bd = omega arith;
  cc = omega arith;
  cd = omega arith;
  dd_low = omega (arith, ints);
  dd = omega arith;
}

sums_bounded : (ls : List Plane) → length ls ≤ most_planes → large_of ls ≡ 0 → AreBounded (sums_of ls)
sums_bounded [] few none = none_bounded
sums_bounded (l ∷ ls) few none =
    let large : Plane → ℕ = λ l. cond (not (is_bounded l)) 1 0 in
    let cons : large_of (l ∷ ls) ≡ large l + large_of ls = sum_by-cons large l ls in
    let bounded : is_bounded l ≡ true = elim (is_bounded l) as (λ b. cond (not b) 1 0 + large_of ls ≡ 0 → b ≡ true) [ true ↦ λ _. refl | false ↦ λ h. absurd (omega arith) ] (sym cons ∙ none) in
    let d = and_parts _ (ltb (nat_abs l.d) (2 ^ 49)) bounded in
    let z = and_parts _ (ltb (nat_abs l.nz) (2 ^ 32)) d.0 in
    let y = and_parts (ltb (nat_abs l.nx) (2 ^ 32)) (ltb (nat_abs l.ny) (2 ^ 32)) z.0 in
    let first : AreBounded (products l) = AreBounded-products l (ltb-true (nat_abs l.nx) (2 ^ 32) y.0) (ltb-true (nat_abs l.ny) (2 ^ 32) y.1) (ltb-true (nat_abs l.nz) (2 ^ 32) z.1) (ltb-true (nat_abs l.d) (2 ^ 49) d.1) in
    AreBounded-added (products l) (sums_of ls) first (sums_bounded ls (omega arith) (omega arith)) (omega (arith, planes-sums_of ls))

few_each : (es : List (ℕ × Vertex)) (n : ℕ) → total_in plane_count es ≤ n → total_in large_count es ≡ 0 → AllByRecursion (λ e. (length e.1.planes ≤ n) × (large_of e.1.planes ≡ 0)) es
few_each [] n few none = tt
few_each (e ∷ es) n few none = ((omega arith, omega arith), few_each es n (omega arith) (omega arith))

-- ---- sheets

-- triangles of which none is below one before it are in order
pub sorted_rises : (ts : List Tri) → Rises tri_cmp_total ts → IsSorted tri_cmp ts
sorted_rises ts rises = subst (IsSorted tri_cmp) (in_order_already tri_cmp_total tri_cmp-IsAntisymmetric ts rises) (IsSorted-in_order tri_cmp_total ts)

-- what a test keeps of triangles in order is in order
sorted_filter : (p : Tri → Bool) (ts : List Tri) → IsSorted tri_cmp ts → IsSorted tri_cmp (filter p ts)
sorted_filter p ts sorted = sorted_rises (filter p ts) (rises_filter tri_cmp_total tri_cmp-IsAntisymmetric p ts (Rises-from_sorted tri_cmp_total ts sorted))

module _ (cells : List Cell) (m : Mesh) (leaf n : ℕ) (lt : leaf < length cells) (clean : IsClean m) (named : AreNamed n m) (has : HasPlanes m.vertices) where
  abbrev in_leaf : Point → Bool
  in_leaf p = eqb (home cells p) leaf

  abbrev here : List (ℕ × Vertex)
  here = filter (λ e. in_leaf e.1.point) (finite.entries m.vertices)

  abbrev IsGood : ℕ × Vertex → Type 0
  IsGood e = (e.0 < n) × (length e.1.planes ≤ most_planes) × (large_of e.1.planes ≡ 0)

  good_entries : AllByRecursion IsGood (finite.entries m.vertices)
  good_entries = both (finite.entries m.vertices) (entries_each (λ v x. v < n) (finite.entries m.vertices) (true_of_T _ (finite.entries_sorted m.vertices)) (λ v x is. named v x (finite.get-entries m.vertices v ∙ is))) (few_each (finite.entries m.vertices) most_planes has.few has.bounded)
    where
      both : (es : List (ℕ × Vertex)) → AllByRecursion (λ e. e.0 < n) es → AllByRecursion (λ e. (length e.1.planes ≤ most_planes) × (large_of e.1.planes ≡ 0)) es → AllByRecursion IsGood es
      both [] a b = tt
      both (e ∷ es) a b = ((a.0, b.0.0, b.0.1), both es a.1 b.1)

  good_here : AllByRecursion (λ e. IsGood e × (in_leaf e.1.point ≡ true)) here
  good_here = filter_each IsGood (λ e. in_leaf e.1.point) (finite.entries m.vertices) good_entries

  all_summed : (P : SummedVertex → Type 0) → ((e : ℕ × Vertex) → IsGood e × (in_leaf e.1.point ≡ true) → P (summed e)) → All P (map summed here)
  all_summed P h = All-from_recursion P (map summed here) (map_each P summed here (all_weaker (λ e. IsGood e × (in_leaf e.1.point ≡ true)) (λ e. P (summed e)) h here good_here))

  leaf_has : (v : ℕ) → eqb leaf (leaf_of cells m v) ≡ true → has_name (map summed here) v ≡ true
  leaf_has v on =
      has_held in_leaf m v
      ∙ elim (point_of m v) as (λ o. eqb leaf (option_map_or (home cells) o (length cells)) ≡ true → option_map_or in_leaf o false ≡ true) [
        | None ↦ λ h. let is = eqb-true leaf (length cells) h in absurd (omega arith)
        | Some p ↦ λ h. eq-eqb (home cells p) leaf (sym (eqb-true leaf (home cells p) h))
      ] on

  kept_has : (t : Tri) → eqb (keeper cells m t) leaf ≡ true → list_any (has_name (map summed here)) (corners t) ≡ true
  kept_has t on =
      let a = leaf_of cells m t.a in
      let b = leaf_of cells m t.b in
      let c = leaf_of cells m t.c in
      let p : ℕ → Bool = has_name (map summed here) in
      elim (or_cases (eqb leaf a) (eqb leaf b || (eqb leaf c || false)) (least_is_one a b c leaf on)) [
        | inl x ↦ or_left (p t.a) (p t.b || (p t.c || false)) (leaf_has t.a x)
        | inr y ↦ or_right (p t.a) (p t.b || (p t.c || false)) (elim (or_cases (eqb leaf b) (eqb leaf c || false) y) [
          | inl x ↦ or_left (p t.b) (p t.c || false) (leaf_has t.b x)
          | inr z ↦ or_right (p t.b) (p t.c || false) (elim (or_cases (eqb leaf c) false z) [ inl x ↦ or_left (p t.c) false (leaf_has t.c x) | inr never ↦ absurd (false≢true never) ])
        ])
      ]

  -- a name that a vertex has is one of the names
  name_below : (v : ℕ) → finite.contains_key m.vertices v ≡ true → v < n
  name_below v there =
      elim (finite.get m.vertices v) as (λ o. finite.get m.vertices v ≡ o → is_some o ≡ true → v < n) [
        | None ↦ λ _ h. absurd (false≢true h)
        | Some x ↦ λ is _. named v x is
      ] refl there

  abbrev kept : List Tri
  kept = filter (λ t. eqb (keeper cells m t) leaf) m.tris

  all_kept : (P : Tri → Type 0) → ((t : Tri) → IsTriangleOf m.vertices t × (eqb (keeper cells m t) leaf ≡ true) → P t) → All P kept
  all_kept P h =
      All-from_recursion P kept (all_weaker (λ t. IsTriangleOf m.vertices t × (eqb (keeper cells m t) leaf ≡ true)) P h kept
      (filter_each (IsTriangleOf m.vertices) (λ t. eqb (keeper cells m t) leaf) m.tris (recursion_from_All (IsTriangleOf m.vertices) m.tris clean.corners)))

  pub sheet_formed : IsSheetOf cells n leaf (sheet cells m leaf)
  unfolding sheet
  sheet_formed = record {
    is_leaf = refl;
    ascend = subst IsStrictlyIncreasing (sym (map-map (λ (x : SummedVertex). x.name) summed here)) (increasing (map (λ e. e.0) here) (keys_climb here (sorted_kept (λ (x : Vertex). in_leaf x.point) (finite.entries m.vertices) (true_of_T _ (finite.entries_sorted m.vertices)))));
    below = all_summed (λ x. x.name < n) (λ e good. good.0.0);
    homes = all_summed (λ x. home cells x.point ≡ leaf) (λ e good. eqb-true (home cells e.1.point) leaf good.1);
    bounded = all_summed (λ x. AreBounded x.quad) (λ e good. sums_bounded e.1.planes good.0.1 good.0.2);
    faces = all_kept (λ t. IsProper t × (turned t ≡ t) × (list_any (has_name (map summed here)) (corners t) ≡ true)) (λ t is. (is.0.proper, is.0.is_turned, kept_has t is.1));
    face_names = all_kept (λ t. All (λ v. v < n) (corners t)) (λ t is. All-from_recursion (λ v. v < n) (corners t) (name_below t.a is.0.a, (name_below t.b is.0.b, (name_below t.c is.0.c, tt))));
    sorted = sorted_filter (λ t. eqb (keeper cells m t) leaf) m.tris clean.sorted;
    near_ascend = IsStrictlyIncreasing-filter (are_near cells m leaf) (range_with_len 0 (length cells)) (increasing (range_with_len 0 (length cells)) (range_climbs 0 (length cells)));
    near_below = λ l on. let h = range_below (are_near cells m leaf) l 0 (length cells) on in omega arith;
    near_others = one_of_filter (are_near cells m leaf) (range_with_len 0 (length cells)) leaf
        ∙ ap (λ b. (not b && list_any (λ t. is_one_of (leaves_of cells m t) leaf && is_one_of (leaves_of cells m t) leaf) m.tris) && is_one_of (range_with_len 0 (length cells)) leaf) (eq-eqb leaf leaf refl);
  }
