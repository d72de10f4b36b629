-- How many vertices, faces and near leaves a sheet has.
use Rattle.std.proofs.Common.{◌≡◌, ℕ, zero, suc, ◌+◌, ◌<◌, ◌≤◌, Bool, true, false, cond, eqb, List, [], ◌∷◌, map, length, get_or, ap, arith}
use Rattle.std.proofs.lemmas.Bool.{or_right}
use Rattle.std.proofs.lemmas.List.{length-map}
use Rattle.std.proofs.lemmas.List.Elements.{recursion_from_All}
use Rattle.std.specs.List.{AllByRecursion, filter}
use Rattle.std.specs.List.Sorted.{IsStrictlyIncreasing}
use Rattle.oemm_limits.specs.declared.TheConstants.{MOST_ITEMS}
use Rattle.oemm_octree.specs.declared.cells.Cell.{Cell}
use Rattle.oemm_octree.specs.Leaves.{AreBelow, is_one_of}
use Rattle.oemm_octree.proofs.Weights.{is_one_of-head}
use Rattle.mesh_data.specs.declared.geometry.Tri.{Tri}
use Rattle.mesh_data.specs.Mesh.{Mesh}
use Rattle.sheet_data.specs.declared.sheets.LeafSheet.{LeafSheet}
use Rattle.sheet_data.specs.Summed.{SummedVertex}
use Rattle.mesh_sheets.specs.Sheets.{keeper, sheet}
use Rattle.sheet_forms.specs.Formed.{IsSheetOf}
use Rattle.sheet_forms.specs.Storable.{IsStorable}

-- ---- numbers that climb below another are few

at_least : (ns : List ℕ) → IsStrictlyIncreasing ns → (k : ℕ) → k < length ns → k ≤ get_or ns k 0
at_least ns up zero lt = omega arith
at_least ns up (suc k) lt =
    let le = at_least ns up k (omega arith) in
    let more : get_or ns k 0 < get_or ns (k + 1) 0 = up k (omega arith) in
    let next : k + 1 ≡ suc k = omega arith in
    let same : get_or ns (k + 1) 0 ≡ get_or ns (suc k) 0 = ap (λ (j : ℕ). get_or ns j 0) next in
    omega (arith, le, more, same)

pub few_climbing : (n : ℕ) (ns : List ℕ) → IsStrictlyIncreasing ns → ((k : ℕ) → k < length ns → get_or ns k 0 < n) → length ns ≤ n
few_climbing n [] up below = omega arith
few_climbing n (x ∷ xs) up below =
    let le = at_least (x ∷ xs) up (length xs) (omega arith) in
    let lt = below (length xs) (omega arith) in
    omega (arith, le, lt)

pub below_at : {X : Type 0} (f : X → ℕ) (n : ℕ) (xs : List X) → AllByRecursion (λ x. f x < n) xs → (k : ℕ) → k < length (map f xs) → get_or (map f xs) k 0 < n
below_at f n [] all k lt = absurd (omega arith)
below_at f n (x ∷ xs) all zero lt = all.0
below_at f n (x ∷ xs) all (suc k) lt = below_at f n xs all.1 k (omega arith)

pub below_of : (n : ℕ) (ls : List ℕ) → AreBelow n ls → (k : ℕ) → k < length ls → get_or ls k 0 < n
below_of n [] below k lt = absurd (omega arith)
below_of n (l ∷ ls) below zero lt = below l (is_one_of-head l ls)
below_of n (l ∷ ls) below (suc k) lt = below_of n ls (λ j on. below j (or_right (eqb j l) (is_one_of ls j) on)) k (omega arith)

-- ---- sheets

-- a sheet has no more vertices than there are names, and no more near leaves than there are leaves
pub few_vertices : (cells : List Cell) (names leaf : ℕ) (s : LeafSheet) → IsSheetOf cells names leaf s → length s.vertices ≤ names
few_vertices cells names leaf s formed =
    let name : SummedVertex → ℕ = λ x. x.name in
    let few = few_climbing names (map name s.vertices) formed.ascend (below_at name names s.vertices (recursion_from_All (λ x. x.name < names) s.vertices formed.below)) in
    omega (arith, few, length-map s.vertices name)

pub few_near : (cells : List Cell) (names leaf : ℕ) (s : LeafSheet) → IsSheetOf cells names leaf s → length s.near ≤ length cells
few_near cells names leaf s formed = few_climbing (length cells) s.near formed.near_ascend (below_of (length cells) s.near formed.near_below)

few_passed : (p : Tri → Bool) (ts : List Tri) → length (filter p ts) ≤ length ts
few_passed p [] = omega arith
few_passed p (t ∷ ts) =
    let rest = few_passed p ts in
    elim (p t) as (λ b. length (cond b (t ∷ filter p ts) (filter p ts)) ≤ suc (length ts)) [ true ↦ omega arith | false ↦ omega arith ]

-- and that of a mesh no more faces than the mesh has triangles
pub few_faces : (cells : List Cell) (names : ℕ) (m : Mesh) (leaf : ℕ) → IsStorable cells names m → length (sheet cells m leaf).faces ≤ MOST_ITEMS
unfolding sheet
few_faces cells names m leaf good = omega (arith, few_passed (λ t. eqb (keeper cells m t) leaf) m.tris, good.few)
