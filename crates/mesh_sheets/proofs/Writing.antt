-- The sheets that the patch of a mesh makes are the sheets of the mesh.
use Rattle.std.proofs.Common.{◌≡◌, ℕ, zero, suc, ◌+◌, ◌<◌, min, Bool, true, false, cond, not, ◌&&◌, ◌||◌, eqb, List, [], ◌∷◌, ◌++◌, map, length, sym, ap, ◌∙◌, refl, arith, inl, inr}
use Rattle.std.proofs.lemmas.Bool.{and_parts, and_from, eqb-true, ne_eqb, false≢true, or_cases, or_left, or_right, both_ways}
use Rattle.std.specs.List.{filter, list_any, range_with_len}
use Rattle.std.specs.List.Sorted.{IsSorted}
use Rattle.oemm_octree.specs.declared.cells.Cell.{Cell}
use Rattle.mesh_data.specs.declared.geometry.Tri.{Tri}
use Rattle.oemm_lists.specs.Ascending.{in_order}
use Rattle.mesh_data.specs.Mesh.{Mesh}
use Rattle.mesh_data.specs.Triangles.{tri_cmp}
use Rattle.std.specs.FinMap as finite
use Rattle.std.proofs.lemmas.List.Folds.{list_any-append}
use Rattle.triangle_lists.proofs.Orders.{tri_cmp_total, tri_cmp-IsAntisymmetric}
use Rattle.triangle_lists.proofs.Sorting.{Rises-from_sorted, Rises-in_order, weight, weight-in_order}
use Rattle.sheet_data.specs.declared.patches.Mixed.{Mixed}
use Rattle.sheet_data.specs.declared.patches.NearList.{NearList}
use Rattle.sheet_data.specs.Summed.{SummedVertex}
use Rattle.oemm_octree.specs.Leaves.{home, is_one_of, in_core, AreBelow}
use Rattle.mesh_sheets.specs.Sheets.{leaf_of, leaves_of, keeper, are_near, near, summed, vertices_in, sheet, is_whole, is_mixed, patch}
use Rattle.mesh_sheets.specs.Written.{leaf_by, leaves_by, keeper_by, are_near_by, patch_tris, written, sheets_of}
use Rattle.mesh_sheets.proofs.Filters.{weight-append, one_in_order, map-map, map_itself, rises_filter, filter_agree_on, map_agree, and_false, one_of_filter, any_agree, any_none, any_of_two}
use Rattle.mesh_sheets.proofs.Leaves.{leaf_held, least_is_one, none_at}
use Rattle.mesh_sheets.proofs.Gathered.{leaf_told}
use Rattle.mesh_sheets.proofs.Assembling.{one_of_range}
use Rattle.triangle_lists.proofs.Filters.{filter-map, filter-weaker}

or_false : (b : Bool) → (b || false) ≡ b
or_false true = refl
or_false false = refl

-- a number that a filter keeps of a range is one that passes
passes_of_range : (p : ℕ → Bool) (l a n : ℕ) → p l ≡ false → is_one_of (filter p (range_with_len a n)) l ≡ false
passes_of_range p l a zero out = refl
passes_of_range p l a (suc n) out =
    let rest = filter p (range_with_len (a + 1) n) in
    let later = passes_of_range p l (a + 1) n out in
    elim (p a) as (λ b. p a ≡ b → is_one_of (cond b (a ∷ rest) rest) l ≡ false) [
      | true ↦ λ on. ap (λ b. b || is_one_of rest l) (ne_eqb l a (λ e. both_ways (p a) (ap p (sym e) ∙ out) on)) ∙ later
      | false ↦ λ _. later
    ] refl

-- tests that agree below n keep the same of the numbers below n
filter_range : (p q : ℕ → Bool) (a n : ℕ) → ((l : ℕ) → l < a + n → p l ≡ q l) → filter p (range_with_len a n) ≡ filter q (range_with_len a n)
filter_range p q a zero h = refl
filter_range p q a (suc n) h =
    let rest = filter_range p q (a + 1) n (λ l lt. h l (omega arith)) in
    let here = h a (omega arith) in
    λ i. cond (here i) (a ∷ rest i) (rest i)

-- the whole and the mixed triangles that pass weigh what all weigh that pass, where these are whole or mixed
two_kinds : (p w x : Tri → Bool) (f : Tri → ℕ) (ts : List Tri) → ((t : Tri) → p t ≡ true → w t ≡ false → x t ≡ true) → ((t : Tri) → w t ≡ true → x t ≡ false)
    → weight f (filter p (filter w ts)) + weight f (filter p (filter x ts)) ≡ weight f (filter p ts)
two_kinds p w x f [] other apart = omega arith
two_kinds p w x f (t ∷ ts) other apart =
    let rest = two_kinds p w x f ts other apart in
    let ws = filter w ts in
    let xs = filter x ts in
    let ps = filter p ts in
    elim (w t) as (λ b. w t ≡ b → weight f (filter p (cond b (t ∷ ws) ws)) + weight f (filter p (cond (x t) (t ∷ xs) xs)) ≡ weight f (cond (p t) (t ∷ ps) ps)) [
      | true ↦ λ whole.
          ap (λ c. weight f (cond (p t) (t ∷ filter p ws) (filter p ws)) + weight f (filter p (cond c (t ∷ xs) xs))) (apart t whole)
          ∙ elim (p t) as (λ c. weight f (cond c (t ∷ filter p ws) (filter p ws)) + weight f (filter p xs) ≡ weight f (cond c (t ∷ ps) ps)) [ true ↦ omega (arith, rest) | false ↦ rest ]
      | false ↦ λ out.
          elim (p t) as (λ c. p t ≡ c → weight f (filter p ws) + weight f (filter p (cond (x t) (t ∷ xs) xs)) ≡ weight f (cond c (t ∷ ps) ps)) [
            | true ↦ λ on.
                let kept : filter p (cond (x t) (t ∷ xs) xs) ≡ t ∷ filter p xs = ap (λ c. filter p (cond c (t ∷ xs) xs)) (other t on out) ∙ ap (λ c. cond c (t ∷ filter p xs) (filter p xs)) on in
                omega (arith, rest, ap (weight f) kept)
            | false ↦ λ off.
                let gone : filter p (cond (x t) (t ∷ xs) xs) ≡ filter p xs = elim (x t) as (λ c. filter p (cond c (t ∷ xs) xs) ≡ filter p xs) [ true ↦ ap (λ c. cond c (t ∷ filter p xs) (filter p xs)) off | false ↦ refl ] in
                omega (arith, rest, ap (weight f) gone)
          ] refl
    ] refl

-- a leaf is one of the near ones where it is near
pub near_has : (cells : List Cell) (m : Mesh) (leaf l : ℕ) → l < length cells → is_one_of (near cells m leaf) l ≡ are_near cells m leaf l
near_has cells m leaf l lt =
    elim (are_near cells m leaf l) as (λ b. are_near cells m leaf l ≡ b → is_one_of (near cells m leaf) l ≡ b) [
      | true ↦ λ on. one_of_range (are_near cells m leaf) l 0 (length cells) on (omega arith) (omega arith)
      | false ↦ λ off. passes_of_range (are_near cells m leaf) l 0 (length cells) off
    ] refl

module _ (cells : List Cell) (m : Mesh) (core : List ℕ) (below : AreBelow (length cells) core) where
  none : is_one_of core (length cells) ≡ false
  none = none_at (length cells) core below

  abbrev here : List SummedVertex
  here = vertices_in (in_core cells core) m

  abbrev core_has : ℕ → Bool
  core_has v = is_one_of core (leaf_of cells m v)

  -- what the patch tells of a name's leaf
  told : (v : ℕ) → leaf_by cells here v ≡ cond (core_has v) (leaf_of cells m v) (length cells)
  told v = leaf_told cells core m v ∙ ap (λ b. cond b (leaf_of cells m v) (length cells)) (sym (leaf_held cells core none m v))

  told_inside : (v : ℕ) → core_has v ≡ true → leaf_by cells here v ≡ leaf_of cells m v
  told_inside v on = told v ∙ ap (λ b. cond b (leaf_of cells m v) (length cells)) on

  -- a leaf of the core is a name's leaf by the patch where it is so by the mesh
  told_core : (l v : ℕ) → is_one_of core l ≡ true → eqb l (leaf_by cells here v) ≡ eqb l (leaf_of cells m v)
  told_core l v on =
      ap (eqb l) (told v) ∙ elim (core_has v) as (λ b. core_has v ≡ b → eqb l (cond b (leaf_of cells m v) (length cells)) ≡ eqb l (leaf_of cells m v)) [
        | true ↦ λ _. refl
        | false ↦ λ away.
            ne_eqb l (length cells) (λ e. both_ways (is_one_of core l) (ap (is_one_of core) e ∙ none) on)
            ∙ sym (ne_eqb l (leaf_of cells m v) (λ e. both_ways (core_has v) away (ap (is_one_of core) (sym e) ∙ on)))
      ] refl

  -- and a leaf outside is none's
  told_outside : (l v : ℕ) → l < length cells → is_one_of core l ≡ false → eqb l (leaf_by cells here v) ≡ false
  told_outside l v lt out =
      ap (eqb l) (told v) ∙ elim (core_has v) as (λ b. core_has v ≡ b → eqb l (cond b (leaf_of cells m v) (length cells)) ≡ false) [
        | true ↦ λ on. ne_eqb l (leaf_of cells m v) (λ e. both_ways (is_one_of core l) out (ap (is_one_of core) e ∙ on))
        | false ↦ λ _. ne_eqb l (length cells) (λ e. absurd (omega arith))
      ] refl

  on_core : (l : ℕ) (t : Tri) → is_one_of core l ≡ true → is_one_of (leaves_by cells here t) l ≡ is_one_of (leaves_of cells m t) l
  on_core l t on =
      let a = told_core l t.a on in
      let b = told_core l t.b on in
      let c = told_core l t.c on in
      λ i. a i || (b i || (c i || false))

  on_outside : (l : ℕ) (t : Tri) → l < length cells → is_one_of core l ≡ false → is_one_of (leaves_by cells here t) l ≡ false
  on_outside l t lt out =
      let a = told_outside l t.a lt out in
      let b = told_outside l t.b lt out in
      let c = told_outside l t.c lt out in
      λ i. a i || (b i || (c i || false))

  -- a triangle with a corner in a leaf of the core has one in the core
  on_touches : (l : ℕ) (t : Tri) → is_one_of core l ≡ true → is_one_of (leaves_of cells m t) l ≡ true → list_any (is_one_of core) (leaves_of cells m t) ≡ true
  on_touches l t on at =
      let pass : (n : ℕ) → eqb l n ≡ true → is_one_of core n ≡ true = λ n e. ap (is_one_of core) (sym (eqb-true l n e)) ∙ on in
      let a = leaf_of cells m t.a in
      let b = leaf_of cells m t.b in
      let c = leaf_of cells m t.c in
      elim (or_cases (eqb l a) (eqb l b || (eqb l c || false)) at) [
        | inl x ↦ or_left (is_one_of core a) (is_one_of core b || (is_one_of core c || false)) (pass a x)
        | inr y ↦ or_right (is_one_of core a) (is_one_of core b || (is_one_of core c || false)) (elim (or_cases (eqb l b) (eqb l c || false) y) [
          | inl x ↦ or_left (is_one_of core b) (is_one_of core c || false) (pass b x)
          | inr z ↦ or_right (is_one_of core b) (is_one_of core c || false) (elim (or_cases (eqb l c) false z) [ inl x ↦ or_left (is_one_of core c) false (pass c x) | inr never ↦ absurd (false≢true never) ])
        ])
      ]

  -- ---- faces

  faces_back : (leaf : ℕ) → is_one_of core leaf ≡ true → IsSorted tri_cmp m.tris
      → in_order tri_cmp (filter (λ t. eqb (keeper_by cells here t) leaf) (filter (is_whole cells core m) m.tris) ++ map (λ (x : Mixed). x.tri) (filter (λ (x : Mixed). eqb x.leaf leaf) (map (λ t. let x : Mixed = record { leaf = keeper cells m t; tri = t } in x) (filter (is_mixed cells core m) m.tris))))
      ≡ filter (λ t. eqb (keeper cells m t) leaf) m.tris
  faces_back leaf on sorted =
      let ws = filter (is_whole cells core m) m.tris in
      let xs = filter (is_mixed cells core m) m.tris in
      let tag : Tri → Mixed = λ t. record { leaf = keeper cells m t; tri = t } in
      let p : Tri → Bool = λ t. eqb (keeper cells m t) leaf in
      let same_keeper : (t : Tri) → is_whole cells core m t ≡ true → eqb (keeper_by cells here t) leaf ≡ p t = λ t whole.
      let a = and_parts (core_has t.a) (core_has t.b && (core_has t.c && true)) whole in
      let b = and_parts (core_has t.b) (core_has t.c && true) a.1 in
      let c = and_parts (core_has t.c) true b.1 in
      λ i. eqb (min (told_inside t.a a.0 i) (min (told_inside t.b b.0 i) (told_inside t.c c.0 i))) leaf in
      let first : filter (λ t. eqb (keeper_by cells here t) leaf) ws ≡ filter p ws = filter_agree_on (λ t. eqb (keeper_by cells here t) leaf) p (is_whole cells core m) same_keeper m.tris in
      let second : map (λ (x : Mixed). x.tri) (filter (λ (x : Mixed). eqb x.leaf leaf) (map tag xs)) ≡ filter p xs =
      ap (map (λ (x : Mixed). x.tri)) (filter-map (λ (x : Mixed). eqb x.leaf leaf) tag xs) ∙ map-map (λ (x : Mixed). x.tri) tag (filter p xs) ∙ map_itself (filter p xs) in
      let up = rises_filter tri_cmp_total tri_cmp-IsAntisymmetric p m.tris (Rises-from_sorted tri_cmp_total m.tris sorted) in
      (λ i. in_order tri_cmp (first i ++ second i))
      ∙ one_in_order tri_cmp_total tri_cmp-IsAntisymmetric _ _ (Rises-in_order tri_cmp_total (filter p ws ++ filter p xs)) up (λ f.
      weight-in_order tri_cmp_total f (filter p ws ++ filter p xs)
      ∙ weight-append f (filter p ws) (filter p xs)
      ∙ two_kinds p (is_whole cells core m) (is_mixed cells core m) f m.tris
      (λ t kept out. and_from _ _ (on_touches leaf t on (least_is_one (leaf_of cells m t.a) (leaf_of cells m t.b) (leaf_of cells m t.c) leaf kept)) (ap not out))
      (λ t whole. ap (λ b. list_any (is_one_of core) (leaves_of cells m t) && not b) whole ∙ and_false (list_any (is_one_of core) (leaves_of cells m t))))

  -- ---- near leaves

  -- some whole or mixed triangle passes where some triangle does, if what passes touches the core
  some_of_both : (q : Tri → Bool) → ((t : Tri) → q t ≡ true → list_any (is_one_of core) (leaves_of cells m t) ≡ true)
      → list_any q (patch_tris (patch cells m core)) ≡ list_any q m.tris
  unfolding patch
  some_of_both q touch =
      let ws = filter (is_whole cells core m) m.tris in
      let xs = filter (is_mixed cells core m) m.tris in
      let tag : Tri → Mixed = λ t. record { leaf = keeper cells m t; tri = t } in
      list_any-append q ws (map (λ (x : Mixed). x.tri) (map tag xs))
      ∙ ap (λ (ts : List Tri). list_any q ws || list_any q ts) (map-map (λ (x : Mixed). x.tri) tag xs ∙ map_itself xs)
      ∙ any_of_two q (is_whole cells core m) (is_mixed cells core m) (λ t on out. and_from _ _ (touch t on) (ap not out)) m.tris

  near_back : (leaf : ℕ) → is_one_of core leaf ≡ true
      → filter (λ l. is_one_of (filter (λ l. not (is_one_of core l)) (near cells m leaf)) l || are_near_by cells here (patch_tris (patch cells m core)) leaf l) (range_with_len 0 (length cells)) ≡ near cells m leaf
  near_back leaf on =
      let ts = patch_tris (patch cells m core) in
      let outsides = filter (λ l. not (is_one_of core l)) (near cells m leaf) in
      let by : ℕ → Tri → Bool = λ l t. is_one_of (leaves_by cells here t) leaf && is_one_of (leaves_by cells here t) l in
      let of : ℕ → Tri → Bool = λ l t. is_one_of (leaves_of cells m t) leaf && is_one_of (leaves_of cells m t) l in
      filter_range (λ l. is_one_of outsides l || are_near_by cells here ts leaf l) (are_near cells m leaf) 0 (length cells) (λ l below_n.
      let lt : l < length cells = omega arith in
      (λ i. one_of_filter (λ l. not (is_one_of core l)) (near cells m leaf) l i || are_near_by cells here ts leaf l)
      ∙ elim (is_one_of core l) as (λ b. is_one_of core l ≡ b → ((not b && is_one_of (near cells m leaf) l) || are_near_by cells here ts leaf l) ≡ are_near cells m leaf l) [
        | true ↦ λ inner.
            ap (λ b. not (eqb leaf l) && b) (
            any_agree (by l) (of l) (λ t. λ i. on_core leaf t on i && on_core l t inner i) ts
            ∙ some_of_both (of l) (λ t at. on_touches leaf t on (and_parts (is_one_of (leaves_of cells m t) leaf) (is_one_of (leaves_of cells m t) l) at).0))
        | false ↦ λ outer.
            let nowhere : list_any (by l) ts ≡ false = any_none (by l) (λ t. ap (λ b. is_one_of (leaves_by cells here t) leaf && b) (on_outside l t lt outer) ∙ and_false (is_one_of (leaves_by cells here t) leaf)) ts in
            (λ i. near_has cells m leaf l lt i || (not (eqb leaf l) && nowhere i))
            ∙ ap (λ b. are_near cells m leaf l || b) (and_false (not (eqb leaf l)))
            ∙ or_false (are_near cells m leaf l)
      ] refl)

  -- the sheet that the patch of the mesh makes for a leaf of its core
  pub written_is : (leaf : ℕ) → is_one_of core leaf ≡ true → IsSorted tri_cmp m.tris
      → written cells (patch cells m core) (record { leaf = leaf; outside = filter (λ l. not (is_one_of core l)) (near cells m leaf) }) ≡ sheet cells m leaf
  unfolding written sheet patch
  written_is leaf on sorted =
      let es = finite.entries m.vertices in
      let vertices : filter (λ (x : SummedVertex). eqb (home cells x.point) leaf) here ≡ vertices_in (λ p. eqb (home cells p) leaf) m =
      filter-map (λ (x : SummedVertex). eqb (home cells x.point) leaf) summed (filter (λ e. in_core cells core e.1.point) es)
      ∙ ap (map summed) (filter-weaker (λ e. eqb (home cells e.1.point) leaf) (λ e. in_core cells core e.1.point) (λ e at. ap (is_one_of core) (eqb-true (home cells e.1.point) leaf at) ∙ on) es) in
      let faces = faces_back leaf on sorted in
      let around = near_back leaf on in
      λ i. record { leaf = leaf; vertices = vertices i; faces = faces i; near = around i }

  -- the sheets that the patch of the mesh makes
  pub sheets_of_is : IsSorted tri_cmp m.tris → sheets_of cells (patch cells m core) ≡ map (sheet cells m) core
  unfolding patch
  sheets_of_is sorted =
      let list : ℕ → NearList = λ leaf. record { leaf = leaf; outside = filter (λ l. not (is_one_of core l)) (near cells m leaf) } in
      map-map (written cells (patch cells m core)) list core ∙ map_agree (λ leaf. written cells (patch cells m core) (list leaf)) (sheet cells m) core (λ leaf on. written_is leaf on sorted)
