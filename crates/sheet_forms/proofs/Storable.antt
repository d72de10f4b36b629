-- The meshes that tasks lead to from a start can stand in sheets, and their sheets make well-formed patches.
use Rattle.std.proofs.Common.{◌≡◌, ℕ, ◌<◌, ◌≤◌, true, false, eqb, List, [], ◌∷◌, ◌++◌, map, length, All, sym, ap, ◌∙◌, refl, subst, arith}
use Rattle.std.proofs.lemmas.Bool.{or_left, or_right, eq-eqb, false≢true}
use Rattle.std.proofs.lemmas.List.{length-map}
use Rattle.std.proofs.lemmas.List.Elements.{All-from_recursion}
use Rattle.std.proofs.lemmas.List.Sorted.{length_permutation}
use Rattle.std.specs.List.{AllByRecursion}
use Rattle.std.specs.List.Sorted.{IsStrictlyIncreasing}
use Rattle.oemm_limits.specs.declared.TheConstants.{MOST_ITEMS}
use Rattle.oemm_octree.specs.declared.cells.Cell.{Cell}
use Rattle.oemm_octree.specs.Leaves.{AreBelow, AreTiles, is_one_of}
use Rattle.oemm_octree.specs.Octree.{IsOnGrid}
use Rattle.mesh_data.specs.declared.edits.Task.{Task}
use Rattle.mesh_data.specs.declared.geometry.Soup.{Soup}
use Rattle.mesh_data.specs.Manifold.{IsManifold}
use Rattle.mesh_data.specs.Mesh.{Mesh, start, start_tris}
use Rattle.mesh_data.specs.Triangles.{tri_cmp, turned}
use Rattle.mesh_data.specs.Work.{do_task, play}
use Rattle.triangle_lists.proofs.Sorting.{IsPermutation-in_order}
use Rattle.sheet_data.specs.declared.sheets.LeafSheet.{LeafSheet}
use Rattle.mesh_sheets.specs.Assembled.{rim_of}
use Rattle.mesh_sheets.specs.Sheets.{patch, sheet}
use Rattle.mesh_sheets.proofs.Filters.{AreDistinct}
use Rattle.mesh_sheets.proofs.Rims.{patch_from_sheets, range_below, rim_apart, rim_distinct}
use Rattle.sheet_frame.proofs.Plays.{clean_task, start_clean}
use Rattle.sheet_forms.specs.Formed.{AreAgreed, AreGiven, IsPatchFor, IsSheetOf}
use Rattle.sheet_forms.specs.Storable.{IsStorable}
use Rattle.sheet_forms.proofs.Agreed.{sheets_agree}
use Rattle.sheet_forms.proofs.Distinct.{distinct_left}
use Rattle.sheet_forms.proofs.Formed.{sheet_formed}
use Rattle.plane_counts.proofs.Grid.{start_planed}
use Rattle.sheet_forms.proofs.Homed.{homed_task, named_task, start_homed, start_named}
use Rattle.plane_counts.proofs.Planed.{planed_task}
use Rattle.sheet_forms.proofs.WellFormed.{assembled_formed}

-- ---- from a start, through tasks

few_started : (s : Soup) → length s.faces ≤ MOST_ITEMS → length (start_tris s) ≤ MOST_ITEMS
few_started s few =
    omega (arith, length_permutation (map turned s.faces) (start_tris s) (IsPermutation-in_order tri_cmp (map turned s.faces)), length-map s.faces turned)

pub start_storable : (cells : List Cell) (s : Soup) → AreTiles cells → All IsOnGrid s.points → length s.faces ≤ MOST_ITEMS → IsManifold (start s)
    → IsStorable cells (length s.points) (start s)
start_storable cells s tiles on few manifold = record {
  clean = start_clean s manifold;
  homed = start_homed cells s tiles on;
  named = start_named s;
  planes = start_planed s on few;
  few = few_started s few;
}

pub task_storable : (cells : List Cell) (limit n : ℕ) (m : Mesh) (t : Task) → AreTiles cells → IsStorable cells n m → IsStorable cells n (do_task cells limit m t).mesh
task_storable cells limit n m t tiles good =
    let left = clean_task cells limit m t good.clean in
    record {
      clean = left.clean;
      homed = homed_task cells limit m t tiles good.homed;
      named = named_task cells limit n m t tiles good.named;
      planes = planed_task cells limit m t good.planes;
      few = omega (arith, left.few, good.few);
    }

pub play_storable : (cells : List Cell) (limit n : ℕ) (tasks : List Task) (m : Mesh) → AreTiles cells → IsStorable cells n m → IsStorable cells n (play cells limit m tasks).mesh
play_storable cells limit n [] m tiles good = good
play_storable cells limit n (t ∷ tasks) m tiles good =
    play_storable cells limit n tasks (do_task cells limit m t).mesh tiles (task_storable cells limit n m t tiles good)

-- ---- its sheets

pub storable_sheet : (cells : List Cell) (n : ℕ) (m : Mesh) (leaf : ℕ) → IsStorable cells n m → leaf < length cells → IsSheetOf cells n leaf (sheet cells m leaf)
storable_sheet cells n m leaf good lt = sheet_formed cells m leaf n lt good.clean good.named good.planes

pub storable_agree : (cells : List Cell) (n : ℕ) (m : Mesh) (core rim : List ℕ) → IsStorable cells n m → AreDistinct (core ++ rim) → AreAgreed (map (sheet cells m) core) (map (sheet cells m) rim)
storable_agree cells n m core rim good apart = sheets_agree cells m core rim (distinct_left core rim apart) apart good.planes good.few

each_formed : (cells : List Cell) (n : ℕ) (m : Mesh) (ls : List ℕ) → IsStorable cells n m → AreBelow (length cells) ls → AllByRecursion (λ (s : LeafSheet). IsSheetOf cells n s.leaf s) (map (sheet cells m) ls)
unfolding sheet
each_formed cells n m [] good below = tt
each_formed cells n m (l ∷ ls) good below = (
  storable_sheet cells n m l good (below l (or_left (eqb l l) (is_one_of ls l) (eq-eqb l l refl))),
  each_formed cells n m ls good (λ k on. below k (or_right (eqb k l) (is_one_of ls k) on)),
)

leaves_back : (cells : List Cell) (m : Mesh) (ls : List ℕ) → map (λ (s : LeafSheet). s.leaf) (map (sheet cells m) ls) ≡ ls
unfolding sheet
leaves_back cells m [] = refl
leaves_back cells m (l ∷ ls) = ap (λ (ks : List ℕ). l ∷ ks) (leaves_back cells m ls)

each_outside : (cells : List Cell) (m : Mesh) (core ls : List ℕ) → ((l : ℕ) → is_one_of ls l ≡ true → is_one_of core l ≡ false) → AllByRecursion (λ (s : LeafSheet). is_one_of core s.leaf ≡ false) (map (sheet cells m) ls)
unfolding sheet
each_outside cells m core [] out = tt
each_outside cells m core (l ∷ ls) out =
    (out l (or_left (eqb l l) (is_one_of ls l) (eq-eqb l l refl)), each_outside cells m core ls (λ k on. out k (or_right (eqb k l) (is_one_of ls k) on)))

pub storable_given : (cells : List Cell) (n : ℕ) (m : Mesh) (core rim : List ℕ) → n ≤ MOST_ITEMS → IsStorable cells n m → AreBelow (length cells) core → AreBelow (length cells) rim
    → ((l : ℕ) → is_one_of rim l ≡ true → is_one_of core l ≡ false) → AreGiven cells n core (map (sheet cells m) core) (map (sheet cells m) rim)
storable_given cells n m core rim few good below round out = record {
  of_core = leaves_back cells m core;
  inner_formed = All-from_recursion _ _ (each_formed cells n m core good below);
  outer_formed = All-from_recursion _ _ (each_formed cells n m rim good round);
  outside = All-from_recursion _ _ (each_outside cells m core rim out);
  few_names = few;
}

-- ---- its patches

pub rim_outside : (cells : List Cell) (core : List ℕ) (inner : List LeafSheet) (l : ℕ) → is_one_of (rim_of cells core inner) l ≡ true → is_one_of core l ≡ false
rim_outside cells core inner l on =
    elim (is_one_of core l) as (λ b. is_one_of core l ≡ b → b ≡ false) [
      | true ↦ λ inside. absurd (false≢true (sym (rim_apart cells core inner l inside) ∙ on))
      | false ↦ λ _. refl
    ] refl

pub rim_below : (cells : List Cell) (core : List ℕ) (inner : List LeafSheet) → AreBelow (length cells) (rim_of cells core inner)
rim_below cells core inner l on = let lt = range_below _ l 0 (length cells) on in omega arith

pub storable_patch : (cells : List Cell) (n : ℕ) (m : Mesh) (core : List ℕ) → n ≤ MOST_ITEMS → IsStorable cells n m → AreBelow (length cells) core → IsStrictlyIncreasing core → IsPatchFor cells core (patch cells m core)
storable_patch cells n m core few good below up =
    let inner = map (sheet cells m) core in
    let rim = rim_of cells core inner in
    subst (IsPatchFor cells core) (patch_from_sheets cells m core below up good.clean.sorted)
    (assembled_formed cells n core inner (map (sheet cells m) rim)
    (storable_given cells n m core rim few good below (rim_below cells core inner) (rim_outside cells core inner))
    (storable_agree cells n m core rim good (rim_distinct cells core inner up)))
