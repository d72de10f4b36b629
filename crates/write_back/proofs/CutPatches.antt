-- The patch that the sheets of a mesh of points and faces make is well formed.
use Rattle.std.proofs.Common.{◌≡◌, ℕ, ◌<◌, ◌≤◌, Bool, true, false, not, List, length, map, sym, ◌∙◌, refl, subst, arith, Option, Some, None, Ok}
use Rattle.std.proofs.lemmas.Bool.{false≢true}
use Rattle.std.proofs.lemmas.List.{length-map, map-id}
use Rattle.std.proofs.lemmas.List.Elements.{All-filter, All-map, filter_passes}
use Rattle.std.proofs.lemmas.List.FromFn.{get_or-range_with_len, length-range_with_len}
use Rattle.std.proofs.lemmas.List.Sorted.{length_permutation}
use Rattle.std.specs.List.{All, filter, range_with_len}
use Rattle.oemm_limits.specs.declared.TheConstants.{MOST_ITEMS}
use Rattle.oemm_lists.specs.Numbers.{among}
use Rattle.oemm_octree.specs.declared.cells.Cell.{Cell}
use Rattle.oemm_octree.specs.declared.points.Point.{Point}
use Rattle.oemm_octree.specs.Leaves.{AreTiles, is_one_of}
use Rattle.oemm_octree.specs.Octree.{IsOnGrid}
use Rattle.mesh_data.specs.declared.geometry.Soup.{Soup}
use Rattle.mesh_data.specs.declared.geometry.Tri.{Tri}
use Rattle.mesh_data.specs.Mesh.{Mesh, planes_at, start_tris}
use Rattle.mesh_data.specs.Triangles.{IsBelow, IsProper, tri_cmp, turned}
use Rattle.mesh_model.proofs.Starts.{triangles_started}
use Rattle.mesh_cutting.specs.Cuts.{Cut, mesh_in}
use Rattle.mesh_sheets.specs.Sheets.{sheet}
use Rattle.mesh_sheets.specs.Assembled.{assembled}
use Rattle.mesh_sheets.proofs.Filters.{map-map}
use Rattle.patch_assembly.specs.declared.clash.Clash.{Clash}
use Rattle.patch_assembly.specs.Clashes.{AreNamed, clash_in, made, unless}
use Rattle.patch_assembly.proofs.Agrees.{agrees}
use Rattle.patch_assembly.proofs.Sorted.{among_is}
use Rattle.plane_counts.proofs.Grid.{start_planed}
use Rattle.sheet_data.specs.declared.patches.Patch.{Patch}
use Rattle.sheet_data.specs.declared.sheets.LeafSheet.{LeafSheet}
use Rattle.sheet_forms.specs.Formed.{AreGiven, IsPatchFor, IsSheetOf}
use Rattle.sheet_forms.specs.Storable.{IsStorable}
use Rattle.sheet_forms.proofs.Homed.{start_homed, start_named}
use Rattle.sheet_forms.proofs.Storable.{storable_sheet}
use Rattle.sheet_forms.proofs.WellFormed.{assembled_formed}
use Rattle.triangle_lists.proofs.Orders.{tri_cmp_total}
use Rattle.triangle_lists.proofs.Sorting.{IsPermutation-in_order, IsSorted-in_order}

-- the mesh of points and faces that go together can stand in sheets
pub storable_cut :
    (cells : List Cell) (points : List Point) (faces : List Tri) (cut : Cut) → AreTiles cells → All IsOnGrid points
    → length faces ≤ MOST_ITEMS → All IsProper faces → All (IsBelow (length points)) faces
    → cut ≡ record { cells = cells; points = points; tris = start_tris (record { points = points; faces = faces }) }
    → IsStorable cut.cells (length cut.points) (mesh_in cut)
storable_cut cells points faces cut tiles on few proper below is =
    let s : Soup = record { points = points; faces = faces } in
    subst (λ (c : Cut). IsStorable c.cells (length c.points) (mesh_in c)) (sym is)
    (record {
      clean = record {
        sorted = IsSorted-in_order tri_cmp_total (map turned faces);
        corners = triangles_started (planes_at points (start_tris s)) points faces proper below;
      };
      homed = start_homed cells s tiles on;
      named = start_named s;
      planes = start_planed s on few;
      few = omega (arith, few, length_permutation (map turned faces) (start_tris s) (IsPermutation-in_order tri_cmp (map turned faces)), length-map faces turned);
    })

-- each number of a range is below its end
pub range_under : (n : ℕ) → All (λ l. l < n) (range_with_len 0 n)
range_under n i d lt =
    let short : i < n = omega (arith, lt, length-range_with_len 0 n) in
    let at = get_or-range_with_len 0 n i d short in
    omega (arith, at, short)

module _ (cells : List Cell) (n : ℕ) (m : Mesh) (core : List ℕ) (good : IsStorable cells n m) where
  of_leaves : (ls : List ℕ) → map (λ (s : LeafSheet). s.leaf) (map (sheet cells m) ls) ≡ ls
  unfolding sheet
  of_leaves ls = map-map (λ (s : LeafSheet). s.leaf) (sheet cells m) ls ∙ map-id ls

  each_formed : (ls : List ℕ) → All (λ l. l < length cells) ls → All (λ s. IsSheetOf cells n s.leaf s) (map (sheet cells m) ls)
  unfolding sheet
  each_formed ls below =
      All-map (λ s. IsSheetOf cells n s.leaf s) (sheet cells m) ls (λ i d lt. storable_sheet cells n m _ good (below i d lt))

  -- the sheets of other leaves
  abbrev pub rest : List ℕ
  rest = filter (λ l. not (among l core)) (range_with_len 0 (length cells))

  outside : All (λ s. is_one_of core s.leaf ≡ false) (map (sheet cells m) rest)
  unfolding sheet
  outside =
      All-map (λ s. is_one_of core s.leaf ≡ false) (sheet cells m) rest
      (λ i d lt. not_one _ (filter_passes (λ l. not (among l core)) (range_with_len 0 (length cells)) i d lt))
    where
      not_one : (l : ℕ) → not (among l core) ≡ true → is_one_of core l ≡ false
      not_one l h = sym (among_is core l) ∙ is_false (among l core) h
        where
          is_false : (b : Bool) → not b ≡ true → b ≡ false
          is_false true h = absurd (false≢true h)
          is_false false h = refl

  -- the names of the core's sheets are such as a mesh can have
  pub cut_named : n ≤ MOST_ITEMS → All (λ l. l < length cells) core → AreNamed (map (sheet cells m) core)
  cut_named few below =
      All-map (λ s. All (λ x. x.name < MOST_ITEMS) s.vertices) (sheet cells m) core
      (λ i d lt k e low. let under = (storable_sheet cells n m _ good (below i d lt)).below k e low in omega (arith, under, few))

  -- the patch that the core's sheets and those of all other leaves make is well formed
  pub cut_formed : n ≤ MOST_ITEMS → All (λ l. l < length cells) core → (p : Patch)
      → made core (map (sheet cells m) core) (map (sheet cells m) rest) ≡ Ok p → IsPatchFor cells core p
  cut_formed few below p is =
      let inner = map (sheet cells m) core in
      let outer = map (sheet cells m) rest in
      let none = no_clash (assembled core inner outer) (clash_in inner outer) p is in
      let given : AreGiven cells n core inner outer =
      record {
        of_core = of_leaves core;
        inner_formed = each_formed core below;
        outer_formed = each_formed rest (All-filter (λ l. not (among l core)) (λ l. l < length cells) (range_with_len 0 (length cells)) (range_under (length cells)));
        outside = outside;
        few_names = few;
      } in
      subst (IsPatchFor cells core) (same_patch (assembled core inner outer) (clash_in inner outer) p is)
      (assembled_formed cells n core inner outer given ((agrees inner outer).0 none))
    where
      no_clash : (q : Patch) (o : Option Clash) (p : Patch) → unless q o ≡ Ok p → o ≡ None
      no_clash q None p is = refl
      no_clash q (Some clash) p is = absurd (cc)

      same_patch : (q : Patch) (o : Option Clash) (p : Patch) → unless q o ≡ Ok p → q ≡ p
      same_patch q None p is = cc
      same_patch q (Some clash) p is = absurd (cc)
