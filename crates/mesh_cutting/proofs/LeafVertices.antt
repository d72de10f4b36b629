-- The vertices of a leaf's sheet.
use Rattle.std.proofs.Common.{get_or, ◌*◌, ◌≡◌, ◌∙◌, ℕ, zero, suc, ◌+◌, ◌<◌, ◌≤◌, Bool, true, false, cond, ◌&&◌, T, eqb, List, [], ◌∷◌, map, length, Option, Some, None, sym, ap, refl, subst, arith}
use Rattle.std.proofs.lemmas.Bool.{and_from, and_parts, eqb-true}
use Rattle.std.proofs.lemmas.List.{get_or-map, length-map}
use Rattle.std.proofs.lemmas.List.Sums.{count_by-le-length, length-filter}
use Rattle.std.specs.List.Sorted.{IsNonDecreasingBy, IsSorted}
use Rattle.std.specs.Cmp.{nat_cmp_is, nat_cmp_total}
use Rattle.std.specs.FinMap as finite
use Rattle.std.specs.FinMap.{nat_cmp-IsAntisymmetric}
use Rattle.std.specs.FinMap.Entries.{below_all, is_sorted, same_entries}
use Rattle.std.specs.List.{All, filter, flat_map, range_with_len}
use Rattle.std.specs.Ordering.{is_lt, nat_cmp}
use Rattle.std.specs.Prelude.{slice_index_or}
use Rattle.std.specs.declared.cmp.Ordering.TheVariants.{Less}
use Rattle.oemm_octree.specs.declared.cells.Cell.{Cell}
use Rattle.oemm_octree.specs.declared.points.Point.{Point}
use Rattle.oemm_octree.specs.Leaves.{home, is_one_of}
use Rattle.mesh_data.specs.declared.geometry.Tri.{Tri}
use Rattle.mesh_data.specs.declared.planes.Plane.{Plane}
use Rattle.mesh_data.specs.Mesh.{named_from, origin, plane_at, planes_at}
use Rattle.mesh_data.specs.Planes.{Sums, sums_of}
use Rattle.sheet_data.specs.Summed.{SummedVertex}
use Rattle.mesh_data.specs.Rings.{from_each_corner}
use Rattle.mesh_data.specs.Triangles.{IsProper, tri_cmp}
use Rattle.triangle_lists.proofs.Filters.{filter-map}
use Rattle.triangle_lists.proofs.Groups.{starts_in_order}
use Rattle.triangle_lists.proofs.Orders.{tri_cmp_total, tri_cmp-IsAntisymmetric}
use Rattle.triangle_lists.proofs.Sorting.{IsSorted-in_order, Rises-in_order}
use Rattle.triangle_edits.proofs.Results.{length-in_order}
use Rattle.mesh_sheets.specs.Sheets.{summed, vertices_in}
use Rattle.mesh_sheets.proofs.Filters.{in_order_already, map-map, map_agree, one_of_filter, rises_filter}
use Rattle.mesh_sheets.proofs.Kept.{T_of_true}
use Rattle.mesh_cutting.specs.Cuts.{AreGrouped, Cut, corner_tris, leaf_at, mesh_in}
use Rattle.mesh_cutting.proofs.CornerPlanes.{planes_found, sum_in_order}

-- ---- the vertices of points by their places

below_named : (planes : ℕ → List Plane) (v n : ℕ) (ps : List Point) → v < n
    → below_all nat_cmp v (named_from planes n ps) ≡ true
below_named planes v n [] lt = refl
below_named planes v n (p ∷ ps) lt =
    and_from _ _ (sym (ap is_lt (nat_cmp_is v n Less lt))) (below_named planes v (n + 1) ps (omega (arith, lt)))

sorted_named : (planes : ℕ → List Plane) (n : ℕ) (ps : List Point) → is_sorted nat_cmp (named_from planes n ps) ≡ true
sorted_named planes n [] = refl
sorted_named planes n (p ∷ ps) =
    and_from _ _ (below_named planes n (n + 1) ps (omega arith)) (sorted_named planes (n + 1) ps)

entries_are : (planes : ℕ → List Plane) (ps : List Point)
    → finite.entries (finite.from_entries {R = nat_cmp} (named_from planes 0 ps)) ≡ named_from planes 0 ps
entries_are planes ps =
    let made = finite.from_entries {R = nat_cmp} (named_from planes 0 ps) in
    same_entries nat_cmp nat_cmp_total nat_cmp-IsAntisymmetric _ _ (finite.entries_sorted made)
    (T_of_true _ (sorted_named planes 0 ps)) (λ v.
    sym (finite.get-entries made v) ∙ finite.get-from_entries nat_cmp_total (named_from planes 0 ps) v)

-- a vertex with this point and these sums
abbrev vertex : (ℕ → Point) → (ℕ → Sums) → ℕ → SummedVertex
vertex at sums v = record { name = v; point = at v; quad = sums v }

-- of the vertices that are named from n on, those of a leaf are those of its names
chosen : (cells : List Cell) (planes : ℕ → List Plane) (l none n : ℕ) (ps : List Point) (at : ℕ → Point) (k : ℕ → ℕ)
    → ((i : ℕ) → at (n + i) ≡ slice_index_or ps i origin)
    → ((i : ℕ) → k (n + i) ≡ slice_index_or (map (home cells) ps) i none)
    → map summed (filter (λ e. eqb (home cells e.1.point) l) (named_from planes n ps))
    ≡ map (vertex at (λ v. sums_of (planes v))) (filter (λ v. eqb (k v) l) (range_with_len n (length ps)))
chosen cells planes l none n [] at k points leaves = refl
chosen cells planes l none n (p ∷ ps) at k points leaves =
    let first : n ≡ n + 0 = omega arith in
    let next : (i : ℕ) → (n + 1) + i ≡ n + suc i = λ i. omega arith in
    let here : at n ≡ p = ap at first ∙ points 0 in
    let leaf : k n ≡ home cells p = ap k first ∙ leaves 0 in
    let made = vertex at (λ v. sums_of (planes v)) in
    let others = filter (λ e. eqb (home cells e.1.point) l) (named_from planes (n + 1) ps) in
    let names = filter (λ v. eqb (k v) l) (range_with_len (n + 1) (length ps)) in
    let rest : map summed others ≡ map made names =
    chosen cells planes l none (n + 1) ps at k (λ i. ap at (next i) ∙ points (suc i)) (λ i. ap k (next i) ∙ leaves (suc i)) in
    elim (eqb (home cells p) l) as (λ b.
    map summed (cond b ((n, record { point = p; planes = planes n }) ∷ others) others)
    ≡ map made (cond b (n ∷ names) names)) [
      | true ↦ λ i. record { name = n; point = sym here i; quad = sums_of (planes n) } ∷ rest i
      | false ↦ rest
    ] ∙ ap (λ (m : ℕ). map made (cond (eqb m l) (n ∷ names) names)) (sym leaf)

-- ---- the triangles that start at a vertex

filter_within : {X : Type 0} (p q : X → Bool) → ((x : X) → p x ≡ true → q x ≡ true) → (xs : List X)
    → filter p (filter q xs) ≡ filter p xs
filter_within p q implies [] = refl
filter_within {X = X} p q implies (x ∷ xs) =
    let rest = filter_within p q implies xs in
    elim (p x) as (λ b. p x ≡ b → filter p (cond (q x) (x ∷ filter q xs) (filter q xs)) ≡ cond b (x ∷ filter p xs) (filter p xs)) [
      | true ↦ λ yes.
          ap (λ c. filter p (cond c (x ∷ filter q xs) (filter q xs))) (implies x yes)
          ∙ ap (λ c. cond c (x ∷ filter p (filter q xs)) (filter p (filter q xs))) yes
          ∙ ap (λ (ys : List X). x ∷ ys) rest
      | false ↦ λ no.
          elim (q x) as (λ c. filter p (cond c (x ∷ filter q xs) (filter q xs)) ≡ filter p xs) [
            | true ↦ ap (λ c. cond c (x ∷ filter p (filter q xs)) (filter p (filter q xs))) no ∙ rest
            | false ↦ rest
          ]
    ] refl

star_is : (points : List Point) (v : ℕ) (own : List (ℕ × Tri))
    → map (λ y. plane_at points y.1) (filter (λ y. eqb y.1.a v) own)
    ≡ map (plane_at points) (filter (λ t. eqb t.a v) (map (λ y. y.1) own))
star_is points v own =
    sym (map-map (plane_at points) (λ (y : ℕ × Tri). y.1) (filter (λ y. eqb y.1.a v) own))
    ∙ ap (map (plane_at points)) (sym (filter-map (λ (t : Tri). eqb t.a v) (λ (y : ℕ × Tri). y.1) own))

-- ---- the vertices of a leaf

three_each : (ts : List Tri) → length (flat_map from_each_corner ts) ≡ 3 * length ts
three_each [] = refl
three_each (t ∷ ts) = omega (arith, three_each ts)

module _ (c : Cut) (leaf : ℕ) (names : List (ℕ × ℕ)) (corners own : List (ℕ × Tri)) (run : List (ℕ × ℕ))
    (names_are : AreGrouped (leaf_at c.cells c.points) (range_with_len 0 (length c.points)) names)
    (corners_are : AreGrouped (λ t. leaf_at c.cells c.points t.a) (corner_tris c.tris) corners)
    (proper : All IsProper c.tris)
    (run_is : run ≡ filter (λ x. eqb x.0 leaf) names)
    (own_is : own ≡ filter (λ x. eqb x.0 leaf) corners) where
  abbrev at : ℕ → Point
  at v = slice_index_or c.points v origin

  abbrev by_own : ℕ → Sums
  by_own v = sums_of (map (plane_at c.points) (filter (λ t. eqb t.a v) (map (λ y. y.1) own)))

  abbrev here : List ℕ
  here = filter (λ v. eqb (leaf_at c.cells c.points v) leaf) (range_with_len 0 (length c.points))

  names_here : map (λ (x : ℕ × ℕ). x.1) run ≡ here
  names_here = ap (map (λ (x : ℕ × ℕ). x.1)) run_is ∙ names_are.items leaf

  pub tris_here : map (λ (y : ℕ × Tri). y.1) own ≡ filter (λ t. eqb (leaf_at c.cells c.points t.a) leaf) (corner_tris c.tris)
  tris_here = ap (map (λ (y : ℕ × Tri). y.1)) own_is ∙ corners_are.items leaf

  own_sorted : IsSorted tri_cmp (map (λ (y : ℕ × Tri). y.1) own)
  own_sorted =
      let q : Tri → Bool = λ t. eqb (leaf_at c.cells c.points t.a) leaf in
      let rises = rises_filter tri_cmp_total tri_cmp-IsAntisymmetric q (corner_tris c.tris)
      (Rises-in_order tri_cmp_total (flat_map from_each_corner c.tris)) in
      subst (IsSorted tri_cmp)
      (in_order_already tri_cmp_total tri_cmp-IsAntisymmetric (filter q (corner_tris c.tris)) rises ∙ sym tris_here)
      (IsSorted-in_order tri_cmp_total (filter q (corner_tris c.tris)))

  -- the triangles from the corners in the leaf don't fall by their first names
  pub own_rises : IsNonDecreasingBy (λ (y : ℕ × Tri). y.1.a) own
  own_rises i j d le lt =
      let second : ℕ × Tri → Tri = λ y. y.1 in
      let before : get_or (map second own) i d.1 ≡ (get_or own i d).1 = get_or-map second own i d d.1 (omega (arith, le, lt)) in
      let after : get_or (map second own) j d.1 ≡ (get_or own j d).1 = get_or-map second own j d d.1 lt in
      let up = starts_in_order (map second own) own_sorted i j d.1 le (omega (arith, length-map own second, lt)) in
      omega (arith, up, ap (λ (t : Tri). t.a) before, ap (λ (t : Tri). t.a) after)

  pub own_few : length own ≤ 3 * length c.tris
  own_few =
      let second : ℕ × Tri → Tri = λ y. y.1 in
      let q : Tri → Bool = λ t. eqb (leaf_at c.cells c.points t.a) leaf in
      let all = flat_map from_each_corner c.tris in
      omega (
        arith,
        length-map own second,
        ap length tris_here,
        length-filter q (corner_tris c.tris),
        count_by-le-length q (corner_tris c.tris),
        length-in_order tri_cmp all,
        three_each c.tris,
      )

  sums_here : (v : ℕ) → is_one_of here v ≡ true → by_own v ≡ sums_of (planes_at c.points c.tris v)
  sums_here v on =
      let lives : eqb (leaf_at c.cells c.points v) leaf ≡ true =
      (and_parts _ _ (sym (one_of_filter (λ v. eqb (leaf_at c.cells c.points v) leaf) (range_with_len 0 (length c.points)) v) ∙ on)).0 in
      ap (λ (ts : List Tri). sums_of (map (plane_at c.points) (filter (λ t. eqb t.a v) ts))) tris_here
      ∙ ap (λ (ts : List Tri). sums_of (map (plane_at c.points) ts))
      (filter_within (λ (t : Tri). eqb t.a v) (λ t. eqb (leaf_at c.cells c.points t.a) leaf)
      (λ t starts. ap (λ (w : ℕ). eqb (leaf_at c.cells c.points w) leaf) (eqb-true t.a v starts) ∙ lives) (corner_tris c.tris))
      ∙ sum_in_order (plane_at c.points) (λ t. eqb t.a v) (flat_map from_each_corner c.tris)
      ∙ ap sums_of (planes_found c.points c.tris v proper)

  pub vertices_are : map (λ x. record {
    name = x.1;
    point = slice_index_or c.points x.1 origin;
    quad = sums_of (map (λ y. plane_at c.points y.1) (filter (λ y. eqb y.1.a x.1) own));
  }) run ≡ vertices_in (λ p. eqb (home c.cells p) leaf) (mesh_in c)
  vertices_are =
      let planes = planes_at c.points c.tris in
      (λ i. map (λ (x : ℕ × ℕ). vertex at (λ v. sums_of (star_is c.points v own i)) x.1) run)
      ∙ sym (map-map (vertex at by_own) (λ (x : ℕ × ℕ). x.1) run)
      ∙ ap (map (vertex at by_own)) names_here
      ∙ map_agree (vertex at by_own) (vertex at (λ v. sums_of (planes v))) here
      (λ v on i. record { name = v; point = at v; quad = sums_here v on i })
      ∙ sym (chosen c.cells planes leaf (length c.cells) 0 c.points at (leaf_at c.cells c.points)
      (λ i. ap at (omega arith)) (λ i. ap (leaf_at c.cells c.points) (omega arith)))
      ∙ ap (λ es. map summed (filter (λ e. eqb (home c.cells e.1.point) leaf) es)) (sym (entries_are planes c.points))
