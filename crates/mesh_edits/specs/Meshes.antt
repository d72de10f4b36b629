-- What an edit on a patch is on the meshes that it stands for.
use Rattle.std.specs.Prelude.{◌≡◌, ℕ, List, length}
use Rattle.oemm_octree.specs.declared.cells.Cell.{Cell}
use Rattle.oemm_octree.specs.Leaves.{AreBelow, AreTiles}
use Rattle.oemm_octree.specs.Octree.{area_of, is_inside}
use Rattle.mesh_data.specs.declared.edits.Edit.{Edit}
use Rattle.mesh_data.specs.declared.edits.Reply.{Reply}
use Rattle.mesh_data.specs.Edits.{after, verdict}
use Rattle.mesh_data.specs.Keeps.{Keeps}
use Rattle.mesh_data.specs.Mesh.{Mesh}
use Rattle.work_topology.specs.Ordered.{IsOrderedManifold}
use Rattle.sheet_data.specs.declared.patches.Patch.{Patch}
use Rattle.mesh_sheets.specs.Clean.{IsClean}
use Rattle.mesh_sheets.specs.Sheets.{patch}

-- the first patch is that of the mesh for a core with these cells
pub record IsPatchIn (cells : List Cell) (core : List ℕ) (area : List Cell) (p : Patch) (m : Mesh) : Type 0 where
  pub tiles : AreTiles cells
  pub below : AreBelow (length cells) core
  pub is_area : area ≡ area_of cells core
  pub is_patch : p ≡ patch cells m core

-- On each clean mesh of which the first is a core's patch the edit answers the same, and leaves the mesh of which the
-- second is the core's patch.
abbrev pub EditsMeshes : List Cell → Patch → Edit → Reply → Patch → Type 0
EditsMeshes area p e reply q = (cells : List Cell) (core : List ℕ) (m : Mesh) → IsPatchIn cells core area p m → IsClean m
    → (reply ≡ verdict (is_inside area) m e) × (q ≡ patch cells (after m e reply) core)

-- Each oriented manifold of which this is a core's patch stays one, with its Euler characteristic and its border.
abbrev pub KeepsMeshes : List Cell → Patch → Edit → Reply → Type 0
KeepsMeshes area p e reply = (cells : List Cell) (core : List ℕ) (m : Mesh) → IsPatchIn cells core area p m
    → IsOrderedManifold m → Keeps m (after m e reply)
