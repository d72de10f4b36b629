-- The index and the first sheets of a base that a store can be built from keep the rules of a spelling.
use Rattle.std.proofs.Common.{◌≡◌, ℕ, ◌+◌, ◌<◌, ◌≤◌, ◌^◌, true, List, [], ◌∷◌, map, length, sym, ◌∙◌, refl, subst, arith}
use Rattle.std.proofs.lemmas.Bool.{and_from, le-leb, lt-ltb}
use Rattle.std.proofs.lemmas.List.{length-map}
use Rattle.std.proofs.lemmas.List.Sorted.{length_permutation}
use Rattle.std.specs.FinMap as finite
use Rattle.std.specs.List.{All}
use Rattle.oemm_limits.specs.declared.TheConstants.{MOST_DEPTH}
use Rattle.oemm_octree.specs.declared.cells.Cell.{Cell}
use Rattle.oemm_octree.specs.declared.points.Point.{Point}
use Rattle.oemm_octree.specs.Leaves.{AreTiles, IsPlaced}
use Rattle.oemm_octree.proofs.CellParts.{root_holds}
use Rattle.oemm_octree.proofs.Each.{depths}
use Rattle.oemm_octree.proofs.Searches.{few_tiles, placed}
use Rattle.oemm_octree.proofs.Tilings.{home_there, leaves_tile}
use Rattle.mesh_data.specs.declared.geometry.Soup.{Soup}
use Rattle.mesh_data.specs.declared.geometry.Vertex.{Vertex}
use Rattle.mesh_data.specs.declared.planes.Plane.{Plane}
use Rattle.mesh_data.specs.Mesh.{named_from, origin, planes_at, start, start_tris}
use Rattle.mesh_data.specs.Triangles.{tri_cmp, turned}
use Rattle.edit_steps.specs.Totals.{total_in}
use Rattle.triangle_lists.proofs.Sorting.{IsPermutation-in_order}
use Rattle.plane_counts.proofs.Stocks.{total-named}
use Rattle.byte_grammar.specs.Keeps.{Keeps}
use Rattle.leaf_codec.specs.Index.{KeepsIndexRules, is_cell}
use Rattle.leaf_codec.specs.Sheets.{KeepsSheetRules}
use Rattle.mesh_sheets.specs.Sheets.{sheet}
use Rattle.sheet_forms.proofs.Storable.{start_storable}
use Rattle.stored_mesh.specs.Stored.{Base}
use Rattle.store_spelling.specs.Bases.{IsBase}
use Rattle.store_spelling.proofs.Parted.{all_parted, keeps_parted}
use Rattle.store_spelling.proofs.SheetRules.{storable_keeps}

-- ---- numbers of a start mesh

ones : (es : List (ℕ × Vertex)) → total_in (λ _. 1) es ≡ length es
ones [] = refl
ones (e ∷ es) = omega (arith, ones es)

all_named : (planes : ℕ → List Plane) (n : ℕ) (ps : List Point) → length (named_from planes n ps) ≡ length ps
all_named planes n [] = refl
all_named planes n (p ∷ ps) = omega (arith, all_named planes (n + 1) ps)

pub vertices_started : (s : Soup) → finite.len (start s).vertices ≡ length s.points
vertices_started s =
    let planes = planes_at s.points (start_tris s) in
    finite.len-entries (start s).vertices
    ∙ sym (ones (finite.entries (start s).vertices))
    ∙ total-named (λ _. 1) planes 0 s.points
    ∙ ones (named_from planes 0 s.points)
    ∙ all_named planes 0 s.points

pub tris_started : (s : Soup) → length (start s).tris ≡ length s.faces
tris_started s =
    length_permutation (map turned s.faces) (start_tris s) (IsPermutation-in_order tri_cmp (map turned s.faces))
    ∙ length-map s.faces turned

-- ---- cells

cell_is : (c : Cell) → c.depth ≤ MOST_DEPTH → IsPlaced c → is_cell c ≡ true
unfolding is_cell
cell_is c deep placed =
    and_from _ _ (le-leb c.depth MOST_DEPTH deep)
    (and_from _ _ (lt-ltb c.x (2 ^ c.depth) placed.0)
    (and_from _ _ (lt-ltb c.y (2 ^ c.depth) placed.1) (lt-ltb c.z (2 ^ c.depth) placed.2)))

cells_keep : (cells : List Cell) → AreTiles cells → Keeps (λ before c. is_cell c ≡ true) [] cells
cells_keep cells tiles = keeps_parted (λ before c. is_cell c ≡ true) cells [] (λ front c rest is.
    let IsDeep : Cell → Type 0 = λ d. d.depth ≤ MOST_DEPTH in
    cell_is c (all_parted IsDeep front c rest (subst (All IsDeep) is (depths cells tiles)))
    (all_parted IsPlaced front c rest (subst (All IsPlaced) is (placed cells tiles))))

some_cells : (cells : List Cell) → AreTiles cells → 1 ≤ length cells
some_cells cells tiles = let there = (home_there cells origin tiles (root_holds origin (refl, refl, refl))).0 in omega arith

base_tiles : (b : Base) → IsBase b → AreTiles b.index.cells
base_tiles b base = subst AreTiles (sym base.cells) (leaves_tile b.soup.points b.index.cap)

pub index_keeps : (b : Base) → IsBase b → KeepsIndexRules b.index
index_keeps b base =
    let tiles = base_tiles b base in
    record {
      least_cap = base.least_cap;
      most_cap = base.most_cap;
      least_core = base.least_core;
      most_core = base.most_core;
      vertices = omega (arith, base.good.2.of_vertices, vertices_started b.soup, base.few_points);
      faces = omega (arith, base.good.2.of_faces, tris_started b.soup, base.few_faces);
      least_cells = some_cells b.index.cells tiles;
      most_cells = few_tiles b.index.cells tiles;
      cells = cells_keep b.index.cells tiles;
    }

pub first_keeps : (b : Base) (leaf : ℕ) → IsBase b → leaf < length b.index.cells
    → KeepsSheetRules (sheet b.index.cells (start b.soup) leaf)
first_keeps b leaf base lt =
    let tiles = base_tiles b base in
    storable_keeps b.index.cells (length b.soup.points) (start b.soup) leaf base.few_points (few_tiles b.index.cells tiles) lt
    (start_storable b.index.cells b.soup tiles base.grid base.few_faces base.good.0)
