-- The sheets that a leaf can have, and the patches that a core can have.
use Rattle.std.specs.Prelude.{◌≡◌, ℕ, ◌<◌, ◌≤◌, true, false, List, ◌++◌, map, All, length}
use Rattle.std.specs.List.{list_any, list_all, sum_by, flat_map}
use Rattle.std.specs.List.Sorted.{IsSorted, IsStrictlyIncreasing}
use Rattle.oemm_limits.specs.declared.TheConstants.{MOST_ITEMS}
use Rattle.oemm_octree.specs.declared.cells.Cell.{Cell}
use Rattle.oemm_octree.specs.Leaves.{AreBelow, home, in_core, is_one_of}
use Rattle.mesh_data.specs.Planes.{AreBounded, most_planes}
use Rattle.mesh_data.specs.Rings.{are_distinct}
use Rattle.mesh_data.specs.Triangles.{IsProper, corners, tri_cmp, turned}
use Rattle.sheet_data.specs.declared.patches.Patch.{Patch}
use Rattle.sheet_data.specs.declared.sheets.LeafSheet.{LeafSheet}
use Rattle.mesh_sheets.specs.Assembled.{faces_of, has_name, mixed_cmp}
use Rattle.mesh_sheets.specs.Written.{leaves_by, patch_tris}

-- A sheet of a leaf: names below so many, that ascend, of points whose home is the leaf; turned triangles of three
-- different names below so many, in order, each with one of the sheet's names; and other leaves, that ascend.
pub record IsSheetOf (cells : List Cell) (names leaf : ℕ) (s : LeafSheet) : Type 0 where
  pub is_leaf : s.leaf ≡ leaf
  pub ascend : IsStrictlyIncreasing (map (λ x. x.name) s.vertices)
  pub below : All (λ x. x.name < names) s.vertices
  pub homes : All (λ x. home cells x.point ≡ leaf) s.vertices
  pub bounded : All (λ x. AreBounded x.quad) s.vertices
  pub faces : All (λ t. IsProper t × (turned t ≡ t) × (list_any (has_name s.vertices) (corners t) ≡ true)) s.faces
  pub face_names : All (λ t. All (λ v. v < names) (corners t)) s.faces
  pub sorted : IsSorted tri_cmp s.faces
  pub near_ascend : IsStrictlyIncreasing s.near
  pub near_below : AreBelow (length cells) s.near
  pub near_others : is_one_of s.near leaf ≡ false

-- A patch that is well formed for a core: names that ascend, of points whose home is in the core; triangles of three,
-- and of one or two, of these names, these with the leaf that keeps them, both in order; and a list of leaves outside
-- of the core for each of its leaves, in their order.
pub record IsPatchFor (cells : List Cell) (core : List ℕ) (p : Patch) : Type 0 where
  pub ascend : IsStrictlyIncreasing (map (λ x. x.name) p.vertices)
  pub below : All (λ x. x.name < MOST_ITEMS) p.vertices
  pub homes : All (λ x. in_core cells core x.point ≡ true) p.vertices
  pub proper : All (λ t. IsProper t × (turned t ≡ t)) (patch_tris p)
  pub whole : All (λ t. list_all (has_name p.vertices) (corners t) ≡ true) p.whole
  pub touch : All (λ x. list_any (has_name p.vertices) (corners x.tri) ≡ true) p.mixed
  pub not_whole : All (λ x. list_all (has_name p.vertices) (corners x.tri) ≡ false) p.mixed
  pub whole_sorted : IsSorted tri_cmp p.whole
  pub mixed_sorted : IsSorted mixed_cmp p.mixed
  pub kept : All (λ x. is_one_of core x.leaf ≡ true → is_one_of (leaves_by cells p.vertices x.tri) x.leaf ≡ true)
      p.mixed
  pub lists : map (λ l. l.leaf) p.near ≡ core
  pub outside : All (λ l. (k : ℕ) → is_one_of l.outside k ≡ true → is_one_of core k ≡ false) p.near
  pub few : length (patch_tris p) ≤ MOST_ITEMS
  pub planes : sum_by (λ x. x.quad.planes) p.vertices ≤ most_planes

-- the sheets of a core, in its order, and of other leaves, each one that its leaf can have
pub record AreGiven (cells : List Cell) (names : ℕ) (core : List ℕ) (inner outer : List LeafSheet) : Type 0 where
  pub of_core : map (λ s. s.leaf) inner ≡ core
  pub inner_formed : All (λ s. IsSheetOf cells names s.leaf s) inner
  pub outer_formed : All (λ s. IsSheetOf cells names s.leaf s) outer
  pub outside : All (λ s. is_one_of core s.leaf ≡ false) outer
  pub few_names : names ≤ MOST_ITEMS

-- The sheets don't clash: no name is twice in those of the core, and there are no more planes in these, and no more
-- faces in all, than a mesh has.
pub record AreAgreed (inner outer : List LeafSheet) : Type 0 where
  pub once : are_distinct (map (λ x. x.name) (flat_map (λ s. s.vertices) inner)) ≡ true
  pub planes : sum_by (λ x. x.quad.planes) (flat_map (λ s. s.vertices) inner) ≤ most_planes
  pub few : length (flat_map faces_of (inner ++ outer)) ≤ MOST_ITEMS
