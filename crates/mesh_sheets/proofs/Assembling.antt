-- The patch that the sheets of a mesh make is the patch of the mesh.
use Rattle.std.proofs.Common.{◌≡◌, ◌≢◌, ℕ, zero, suc, ◌+◌, ◌<◌, ◌≤◌, min, Bool, true, false, cond, not, ◌&&◌, ◌||◌, eqb, List, [], ◌∷◌, ◌++◌, map, length, sym, ap, ◌∙◌, refl, flat_map, arith, inl, inr}
use Rattle.std.proofs.lemmas.Bool.{and_parts, and_from, eqb-true, eq-eqb, ne_eqb, eqb-false, false≢true, or_cases, or_left, or_right, both_ways}
use Rattle.std.proofs.lemmas.Bool.Decides.{nat_tests}
use Rattle.std.proofs.lemmas.Cmp.{on_total, then_total, tied_itself}
use Rattle.std.proofs.lemmas.List.{map-append}
use Rattle.std.proofs.lemmas.List.Elements.{filter_agree}
use Rattle.std.proofs.lemmas.Map.Lookups.{exact_pairs, exact_unsigned}
use Rattle.std.specs.Cmp.{IsTotalOrder, nat_cmp_total}
use Rattle.std.specs.FinMap.{IsAntisymmetric}
use Rattle.std.specs.List.{filter, list_any, list_all, range_with_len}
use Rattle.std.specs.List.Sorted.{IsSorted}
use Rattle.std.specs.Ordering.{nat_cmp, is_gt, ordering_then}
use Rattle.std.specs.declared.cmp.Ordering.TheVariants.{Less, Equal, Greater}
use Rattle.std.proofs.lemmas.List.Folds.{flat_map-map}
use Rattle.oemm_octree.specs.declared.cells.Cell.{Cell}
use Rattle.mesh_data.specs.declared.geometry.Tri.{Tri}
use Rattle.oemm_lists.specs.Ascending.{in_order}
use Rattle.mesh_data.specs.Mesh.{Mesh}
use Rattle.mesh_data.specs.Triangles.{tri_cmp, corners}
use Rattle.triangle_lists.proofs.Orders.{tri_cmp_total, tri_cmp-IsAntisymmetric}
use Rattle.triangle_lists.proofs.Sorting.{Rises, IsLeast, Rises-from_sorted, Rises-in_order, weight-in_order}
use Rattle.sheet_data.specs.declared.sheets.LeafSheet.{LeafSheet}
use Rattle.sheet_data.specs.declared.patches.Mixed.{Mixed}
use Rattle.sheet_data.specs.declared.patches.NearList.{NearList}
use Rattle.sheet_data.specs.declared.patches.Patch.{Patch}
use Rattle.sheet_data.specs.Summed.{SummedVertex}
use Rattle.oemm_octree.specs.Leaves.{is_one_of, AreBelow, in_core}
use Rattle.mesh_sheets.proofs.Filters.{AreDistinct, weight-map, parts_weigh, IsMember, members, all_weaker, filter_behind_on, is_one_of-left, is_one_of-right, one_in_order, map-map, map_itself, rises_filter}
use Rattle.mesh_sheets.specs.Sheets.{leaf_of, leaves_of, keeper, are_near, near, vertices_in, sheet, is_whole, is_mixed, patch}
use Rattle.mesh_sheets.specs.Assembled.{has_name, by_name, mixed_cmp, faces_of, assembled}
use Rattle.mesh_sheets.proofs.Leaves.{leaf_held, least_is_one, none_at}
use Rattle.mesh_sheets.proofs.Gathered.{gathered, has_held}
use Rattle.oemm_octree.proofs.Weights.{is_one_of-head}
use Rattle.triangle_lists.proofs.Filters.{filter-map}

-- ---- the order of kept triangles

mixed_cmp_total : IsTotalOrder mixed_cmp
mixed_cmp_total = then_total (on_total (λ x. x.tri) tri_cmp_total) (on_total (λ x. x.leaf) nat_cmp_total)

mixed_cmp-IsAntisymmetric : IsAntisymmetric mixed_cmp
mixed_cmp-IsAntisymmetric x y h =
    ap (λ (p : Tri × ℕ). let it : Mixed = record { leaf = p.1; tri = p.0 } in it)
    (exact_pairs tri_cmp nat_cmp tri_cmp-IsAntisymmetric exact_unsigned (x.tri, x.leaf) (y.tri, y.leaf) h)

itself_not_above : (n : ℕ) → is_gt (nat_cmp n n) ≡ false
itself_not_above n = ap is_gt (tied_itself nat_cmp_total n)

-- triangles in order, each with a number of its own, are in order
module _ (k : Tri → ℕ) where
  abbrev pub tagged : Tri → Mixed
  tagged t = record { leaf = k t; tri = t }

  not_above : (s t : Tri) → is_gt (tri_cmp s t) ≡ false → is_gt (mixed_cmp (tagged s) (tagged t)) ≡ false
  not_above s t up =
      elim (tri_cmp s t) as (λ r. tri_cmp s t ≡ r → is_gt r ≡ false → is_gt (ordering_then r (nat_cmp (k s) (k t))) ≡ false) [
        | Less ↦ λ _ _. refl
        | Equal ↦ λ is _. ap (λ (x : Tri). is_gt (nat_cmp (k x) (k t))) (tri_cmp-IsAntisymmetric s t is) ∙ itself_not_above (k t)
        | Greater ↦ λ _ h. h
      ] refl up

  least_tagged : (t : Tri) (ts : List Tri) → IsLeast tri_cmp_total t ts → IsLeast mixed_cmp_total (tagged t) (map tagged ts)
  least_tagged t [] h = tt
  least_tagged t (s ∷ ts) h = (not_above t s h.0, least_tagged t ts h.1)

  rises_tagged : (ts : List Tri) → Rises tri_cmp_total ts → Rises mixed_cmp_total (map tagged ts)
  rises_tagged [] r = tt
  rises_tagged (t ∷ ts) r = (least_tagged t ts r.0, rises_tagged ts r.1)

-- ---- leaves near to each other

-- numbers that a filter keeps of a range
pub one_of_range : (p : ℕ → Bool) (l a n : ℕ) → p l ≡ true → a ≤ l → l < a + n → is_one_of (filter p (range_with_len a n)) l ≡ true
one_of_range p l a zero on low high = absurd (omega arith)
one_of_range p l a (suc n) on low high =
    let rest = filter p (range_with_len (a + 1) n) in
    elim (eqb l a) as (λ b. eqb l a ≡ b → is_one_of (cond (p a) (a ∷ rest) rest) l ≡ true) [
      | true ↦ λ here.
          ap (λ b. is_one_of (cond b (a ∷ rest) rest) l) (ap p (sym (eqb-true l a here)) ∙ on) ∙ or_left (eqb l a) (is_one_of rest l) here
      | false ↦ λ away.
          let other : l ≢ a = eqb-false l a away in
          let later = one_of_range p l (a + 1) n on (omega arith) (omega arith) in
          elim (p a) as (λ b. is_one_of (cond b (a ∷ rest) rest) l ≡ true) [ true ↦ or_right (eqb l a) (is_one_of rest l) later | false ↦ later ]
    ] refl

-- some number of a list is one of these
some_of : (core ls : List ℕ) → list_any (is_one_of core) ls ≡ true → (l : ℕ) × (is_one_of core l ≡ true) × (is_one_of ls l ≡ true)
some_of core [] h = absurd (false≢true h)
some_of core (l ∷ ls) h =
    elim (or_cases (is_one_of core l) (list_any (is_one_of core) ls) h) [
      | inl here ↦ (l, here, is_one_of-head l ls)
      | inr more ↦ let later = some_of core ls more in (later.0, later.1, or_right (eqb later.0 l) (is_one_of ls later.0) later.2)
    ]

least_at_most : (a b c l : ℕ) → is_one_of (a ∷ b ∷ c ∷ []) l ≡ true → min a (min b c) ≤ l
least_at_most a b c l h = grind (arith, nat_tests)

-- among these are the leaves outside of the core that are near to one of its leaves
abbrev pub IsRound : List Cell → Mesh → List ℕ → List ℕ → Type 0
IsRound cells m core rim =
    (leaf l : ℕ) → is_one_of core leaf ≡ true → is_one_of (near cells m leaf) l ≡ true → is_one_of core l ≡ false → is_one_of rim l ≡ true

module _ (cells : List Cell) (m : Mesh) (core : List ℕ) (below : AreBelow (length cells) core) where
  abbrev touches : Tri → Bool
  touches t = list_any (is_one_of core) (leaves_of cells m t)

  -- a triangle with a corner in the core is kept by the core, or by a leaf round it
  kept_round : (rim : List ℕ) → IsRound cells m core rim → (t : Tri) → IsMember m.tris t → touches t ≡ true → is_one_of (core ++ rim) (keeper cells m t) ≡ true
  kept_round rim round t member on =
      let k = keeper cells m t in
      elim (is_one_of core k) as (λ b. is_one_of core k ≡ b → is_one_of (core ++ rim) k ≡ true) [
        | true ↦ λ inner. is_one_of-left core rim k inner
        | false ↦ λ outer.
            let some = some_of core (leaves_of cells m t) on in
            let l = some.0 in
            let at_k : is_one_of (leaves_of cells m t) k ≡ true = least_is_one (leaf_of cells m t.a) (leaf_of cells m t.b) (leaf_of cells m t.c) k (eq-eqb k k refl) in
            let apart : not (eqb l k) ≡ true = ap not (ne_eqb l k (λ e. both_ways (is_one_of core k) outer (ap (is_one_of core) (sym e) ∙ some.1))) in
            let both : are_near cells m l k ≡ true = and_from _ _ apart (member (λ t. is_one_of (leaves_of cells m t) l && is_one_of (leaves_of cells m t) k) (and_from _ _ some.2 at_k)) in
            let lt : l < length cells = below l some.1 in
            let le : k ≤ l = least_at_most (leaf_of cells m t.a) (leaf_of cells m t.b) (leaf_of cells m t.c) l some.2 in
            is_one_of-right core rim k (round l k some.1 (one_of_range (are_near cells m l) k 0 (length cells) both (omega arith) (omega arith)) outer)
      ] refl

  tagged_by : (l : ℕ) (ts : List Tri) → map (λ t. let x : Mixed = record { leaf = l; tri = t } in x) (filter (λ t. eqb (keeper cells m t) l) ts) ≡ map (tagged (keeper cells m)) (filter (λ t. eqb (keeper cells m t) l) ts)
  tagged_by l [] = refl
  tagged_by l (t ∷ ts) =
      let ks = filter (λ t. eqb (keeper cells m t) l) ts in
      elim (eqb (keeper cells m t) l) as (λ b. eqb (keeper cells m t) l ≡ b → map (λ t. let x : Mixed = record { leaf = l; tri = t } in x) (cond b (t ∷ ks) ks) ≡ map (tagged (keeper cells m)) (cond b (t ∷ ks) ks)) [
        | true ↦ λ is. let rest = tagged_by l ts in let here : l ≡ keeper cells m t = sym (eqb-true (keeper cells m t) l is) in λ i. let x : Mixed = record { leaf = here i; tri = t } in x ∷ rest i
        | false ↦ λ _. tagged_by l ts
      ] refl

  flat_tagged : (ls : List ℕ) → flat_map (λ l. map (λ t. let x : Mixed = record { leaf = l; tri = t } in x) (filter (λ t. eqb (keeper cells m t) l) m.tris)) ls ≡ map (tagged (keeper cells m)) (flat_map (λ l. filter (λ t. eqb (keeper cells m t) l) m.tris) ls)
  flat_tagged [] = refl
  flat_tagged (l ∷ ls) =
      (λ i. tagged_by l m.tris i ++ flat_tagged ls i)
      ∙ sym (map-append (tagged (keeper cells m)) (filter (λ t. eqb (keeper cells m t) l) m.tris) (flat_map (λ l. filter (λ t. eqb (keeper cells m t) l) m.tris) ls))

  -- the faces of different sheets in order are the triangles that these leaves keep
  faces_in_order : (ls : List ℕ) → AreDistinct ls → IsSorted tri_cmp m.tris
      → in_order mixed_cmp (flat_map (λ l. map (λ t. let x : Mixed = record { leaf = l; tri = t } in x) (filter (λ t. eqb (keeper cells m t) l) m.tris)) ls)
      ≡ map (tagged (keeper cells m)) (filter (λ t. is_one_of ls (keeper cells m t)) m.tris)
  faces_in_order ls distinct sorted =
      let parts = flat_map (λ l. filter (λ t. eqb (keeper cells m t) l) m.tris) ls in
      let kept = filter (λ t. is_one_of ls (keeper cells m t)) m.tris in
      let tag : Tri → Mixed = tagged (keeper cells m) in
      let up = rises_tagged (keeper cells m) kept (rises_filter tri_cmp_total tri_cmp-IsAntisymmetric (λ t. is_one_of ls (keeper cells m t)) m.tris (Rises-from_sorted tri_cmp_total m.tris sorted)) in
      ap (in_order mixed_cmp) (flat_tagged ls)
      ∙ one_in_order mixed_cmp_total mixed_cmp-IsAntisymmetric _ _ (Rises-in_order mixed_cmp_total (map tag parts)) up (λ f.
      weight-in_order mixed_cmp_total f (map tag parts)
      ∙ weight-map f tag parts
      ∙ parts_weigh (keeper cells m) m.tris ls distinct (λ t. f (tag t))
      ∙ sym (weight-map f tag kept))

  -- the patch that the sheets of the core and of the leaves round it make
  pub assembled_is : (rim : List ℕ) → IsSorted tri_cmp m.tris → AreDistinct (core ++ rim) → IsRound cells m core rim → assembled core (map (sheet cells m) core) (map (sheet cells m) rim) ≡ patch cells m core
  unfolding sheet assembled patch
  assembled_is rim sorted distinct round =
      let none = none_at (length cells) core below in
      let inside = in_core cells core in
      let ls = core ++ rim in
      let k : Tri → ℕ = keeper cells m in
      let tag : Tri → Mixed = tagged k in
      let kept = filter (λ t. is_one_of ls (k t)) m.tris in
      let vertices : by_name (flat_map (λ s. s.vertices) (map (sheet cells m) core)) ≡ vertices_in inside m =
      ap by_name (flat_map-map (λ (s : LeafSheet). s.vertices) (sheet cells m) core) ∙ gathered cells m core in
      let faces : in_order mixed_cmp (flat_map faces_of (map (sheet cells m) core ++ map (sheet cells m) rim)) ≡ map tag kept =
      ap (λ (ss : List LeafSheet). in_order mixed_cmp (flat_map faces_of ss)) (sym (map-append (sheet cells m) core rim))
      ∙ ap (in_order mixed_cmp) (flat_map-map faces_of (sheet cells m) ls)
      ∙ faces_in_order ls distinct sorted in
      let has : (v : ℕ) → has_name (vertices_in inside m) v ≡ is_one_of core (leaf_of cells m v) = λ v. has_held inside m v ∙ sym (leaf_held cells core none m v) in
      let is_all : (t : Tri) → list_all (has_name (vertices_in inside m)) (corners t) ≡ is_whole cells core m t = λ t. λ i. has t.a i && (has t.b i && (has t.c i && true)) in
      let is_any : (t : Tri) → list_any (has_name (vertices_in inside m)) (corners t) ≡ touches t = λ t. λ i. has t.a i || (has t.b i || (has t.c i || false)) in
      let whole : map (λ (x : Mixed). x.tri) (filter (λ (x : Mixed). list_all (has_name (vertices_in inside m)) (corners x.tri)) (map tag kept)) ≡ filter (is_whole cells core m) m.tris =
      ap (map (λ (x : Mixed). x.tri)) (filter-map (λ (x : Mixed). list_all (has_name (vertices_in inside m)) (corners x.tri)) tag kept)
      ∙ map-map (λ (x : Mixed). x.tri) tag (filter (λ t. list_all (has_name (vertices_in inside m)) (corners t)) kept)
      ∙ map_itself (filter (λ t. list_all (has_name (vertices_in inside m)) (corners t)) kept)
      ∙ filter_agree (λ t. list_all (has_name (vertices_in inside m)) (corners t)) (is_whole cells core m) is_all kept
      ∙ filter_behind_on (is_whole cells core m) (λ t. is_one_of ls (k t)) m.tris (all_weaker (IsMember m.tris) (λ t. is_whole cells core m t ≡ true → is_one_of ls (k t) ≡ true) (λ t member on. kept_round rim round t member (or_left (is_one_of core (leaf_of cells m t.a)) _ (and_parts (is_one_of core (leaf_of cells m t.a)) _ on).0)) m.tris (members m.tris)) in
      let mixed : filter (λ (x : Mixed). list_any (has_name (vertices_in inside m)) (corners x.tri) && not (list_all (has_name (vertices_in inside m)) (corners x.tri))) (map tag kept) ≡ map tag (filter (is_mixed cells core m) m.tris) =
      filter-map (λ (x : Mixed). list_any (has_name (vertices_in inside m)) (corners x.tri) && not (list_all (has_name (vertices_in inside m)) (corners x.tri))) tag kept
      ∙ ap (map tag) (
      filter_agree (λ t. list_any (has_name (vertices_in inside m)) (corners t) && not (list_all (has_name (vertices_in inside m)) (corners t))) (is_mixed cells core m) (λ t. λ i. is_any t i && not (is_all t i)) kept
      ∙ filter_behind_on (is_mixed cells core m) (λ t. is_one_of ls (k t)) m.tris (all_weaker (IsMember m.tris) (λ t. is_mixed cells core m t ≡ true → is_one_of ls (k t) ≡ true) (λ t member on. kept_round rim round t member (and_parts (touches t) (not (is_whole cells core m t)) on).0) m.tris (members m.tris))) in
      let around : map (λ (s : LeafSheet). let x : NearList = record { leaf = s.leaf; outside = filter (λ l. not (is_one_of core l)) s.near } in x) (map (sheet cells m) core) ≡ map (λ leaf. let x : NearList = record { leaf = leaf; outside = filter (λ l. not (is_one_of core l)) (near cells m leaf) } in x) core =
      map-map (λ (s : LeafSheet). let x : NearList = record { leaf = s.leaf; outside = filter (λ l. not (is_one_of core l)) s.near } in x) (sheet cells m) core in
      let put : List SummedVertex → List Mixed → Patch = λ vs xs. record {
        vertices = vs;
        whole = map (λ x. x.tri) (filter (λ x. list_all (has_name vs) (corners x.tri)) xs);
        mixed = filter (λ x. list_any (has_name vs) (corners x.tri) && not (list_all (has_name vs) (corners x.tri))) xs;
        near = map (λ s. record { leaf = s.leaf; outside = filter (λ l. not (is_one_of core l)) s.near }) (map (sheet cells m) core);
      } in
      (λ i. put (vertices i) (faces i)) ∙ (λ i. record { vertices = vertices_in inside m; whole = whole i; mixed = mixed i; near = around i })
