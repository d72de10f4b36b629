-- A patch in memory, for edits.
use Rattle.std.specs.Prelude.{◌≡◌, ℕ, true, List, length}
use Rattle.std.specs.List.{filter, list_all, list_any}
use Rattle.oemm_lists.specs.Numbers.{among}
use Rattle.oemm_octree.specs.declared.cells.Cell.{Cell}
use Rattle.oemm_octree.specs.Leaves.{AreBelow, AreTiles}
use Rattle.oemm_octree.specs.Octree.{area_of}
use Rattle.mesh_data.specs.declared.geometry.Tri.{Tri}
use Rattle.mesh_data.specs.Manifold.{is_corner}
use Rattle.mesh_data.specs.RingChanges.{IsOriented}
use Rattle.mesh_data.specs.Triangles.{corners, has_corner}
use Rattle.half_edge.specs.Meshes.{Faced, is_held}
use Rattle.sheet_data.specs.declared.patches.Mixed.{Mixed}
use Rattle.sheet_data.specs.declared.patches.NearList.{NearList}
use Rattle.sheet_data.specs.declared.patches.Patch.{Patch}
use Rattle.sheet_data.specs.Summed.{SummedVertex}
use Rattle.mesh_sheets.specs.Assembled.{has_name}
use Rattle.sheet_forms.specs.Formed.{IsPatchFor}
use Rattle.patch_edits.specs.PatchMesh.{mesh_of}

-- a patch, and the cells of its core
pub record Fragmented : Type 0 where
  pub patch : Patch
  pub area : List Cell

-- the patch is well formed for a core of some octree, whose cells are these
pub record IsPatchOn (area : List Cell) (p : Patch) : Type 0 where
  pub cells : List Cell
  pub core : List ℕ
  pub tiles : AreTiles cells
  pub below : AreBelow (length cells) core
  pub is_area : area ≡ area_of cells core
  pub formed : IsPatchFor cells core p

-- the patch of these vertices, of those of these triangles that have three of them, and of the rest
abbrev pub patch_by : List SummedVertex → List Tri → List Mixed → List NearList → Patch
patch_by vs ts mixed near = record {
  vertices = vs;
  whole = filter (λ t. list_all (has_name vs) (corners t)) ts;
  mixed = mixed;
  near = near;
}

-- that patch with the cells of its core
abbrev pub fragmented : List SummedVertex → Faced → List Mixed → List NearList → List Cell → Fragmented
fragmented vs mesh mixed near area = record { patch = patch_by vs mesh.tris mixed near; area = area }

-- The patch is well formed, the triangles are those of its mesh, and oriented, those vertices that are in one are held
-- by the half-edges, and the rim has the names of the mixed ones.
pub record IsFragment (vs : List SummedVertex) (mesh : Faced) (mixed : List Mixed) (rim : List ℕ)
    (near : List NearList) (area : List Cell) : Type 0 where
  pub formed : IsPatchOn area (patch_by vs mesh.tris mixed near)
  pub tris : mesh.tris ≡ (mesh_of (patch_by vs mesh.tris mixed near)).tris
  pub oriented : IsOriented mesh.tris
  pub held : (v : ℕ) → has_name vs v ≡ true → is_corner mesh.tris v ≡ true → is_held mesh v ≡ true
  pub rim_has : (v : ℕ) → among v rim ≡ list_any (λ x. has_corner v x.tri) mixed

-- the same, with the number of the patch's whole triangles
pub record IsCounted (vs : List SummedVertex) (mesh : Faced) (mixed : List Mixed) (rim : List ℕ)
    (near : List NearList) (area : List Cell) (whole : ℕ) : Type 0 where
  pub parts : IsFragment vs mesh mixed rim near area
  pub count : whole ≡ length (patch_by vs mesh.tris mixed near).whole

-- these can be what edits change of a fragment, whose mixed triangles and core stay
abbrev pub ArePartsOf : Fragmented → List SummedVertex → Faced → ℕ → Type 0
ArePartsOf f vs mesh whole =
    (rim : List ℕ) × IsCounted vs mesh f.patch.mixed rim f.patch.near f.area whole
