-- A mesh enters the replies of work on a core, and the patch that the work leaves, only through the core's patch: both
-- are those of the same edits on the patch.
use Rattle.std.proofs.Common.{◌≡◌, ℕ, List, length, sym, ap, ◌∙◌}
use Rattle.oemm_octree.specs.declared.cells.Cell.{Cell}
use Rattle.oemm_octree.specs.Leaves.{AreBelow, AreTiles}
use Rattle.oemm_octree.specs.Octree.{area_of, is_inside}
use Rattle.mesh_data.specs.declared.edits.Edit.{Edit}
use Rattle.mesh_data.specs.Mesh.{Mesh}
use Rattle.mesh_data.specs.Work.{work}
use Rattle.sheet_data.specs.declared.patches.Patch.{Patch}
use Rattle.mesh_sheets.specs.Clean.{IsClean}
use Rattle.mesh_sheets.specs.Sheets.{patch}
use Rattle.patch_edits.specs.Work.{work_on}
use Rattle.patch_edits.proofs.Afters.{patch_on_core, replies_on_core}

pub same_replies : (cells : List Cell) (core : List ℕ) (m n : Mesh) (es : List Edit) → AreTiles cells → AreBelow (length cells) core → IsClean m → IsClean n → patch cells m core ≡ patch cells n core
    → (work (is_inside (area_of cells core)) m es).replies ≡ (work (is_inside (area_of cells core)) n es).replies
same_replies cells core m n es tiles below one other same =
    sym (replies_on_core cells core m es tiles below one)
    ∙ ap (λ (p : Patch). (work_on (is_inside (area_of cells core)) p es).replies) same
    ∙ replies_on_core cells core n es tiles below other

pub same_patch : (cells : List Cell) (core : List ℕ) (m n : Mesh) (es : List Edit) → AreTiles cells → AreBelow (length cells) core → IsClean m → IsClean n → patch cells m core ≡ patch cells n core
    → patch cells (work (is_inside (area_of cells core)) m es).mesh core ≡ patch cells (work (is_inside (area_of cells core)) n es).mesh core
same_patch cells core m n es tiles below one other same =
    sym (patch_on_core cells core m es tiles below one)
    ∙ ap (λ (p : Patch). (work_on (is_inside (area_of cells core)) p es).patch) same
    ∙ patch_on_core cells core n es tiles below other
