-- What an edit on a patch is on the meshes that it stands for.
use Rattle.std.proofs.Common.{◌≡◌, ℕ, List, Result, Ok, Err, IfOk, sym, ◌∙◌, subst}
use Rattle.oemm_octree.specs.declared.cells.Cell.{Cell}
use Rattle.oemm_octree.specs.Octree.{area_of, is_inside}
use Rattle.mesh_data.specs.declared.edits.Edit.{Edit}
use Rattle.mesh_data.specs.declared.edits.Reply.{Reply}
use Rattle.mesh_data.specs.Edits.{after, verdict}
use Rattle.mesh_data.specs.Keeps.{Keeps}
use Rattle.mesh_data.specs.Mesh.{Mesh}
use Rattle.sheet_data.specs.declared.patches.Patch.{Patch}
use Rattle.mesh_sheets.specs.Clean.{IsClean}
use Rattle.mesh_sheets.specs.Sheets.{patch}
use Rattle.patch_edits.specs.Edits.{after_on, verdict_on}
use Rattle.patch_edits.proofs.Afters.{after_on_core, verdict_on_core}
use Rattle.patch_edits.proofs.Rows.{keeps_on_core}
use Rattle.mesh_edits.specs.Meshes.{EditsMeshes, IsPatchIn, KeepsMeshes}

-- what is so of the patch of the mesh for the core is so of a patch that is this one
carried : (P : List Cell → Patch → Type 0) (cells : List Cell) (core : List ℕ) (area : List Cell) (p : Patch) (m : Mesh) → IsPatchIn cells core area p m
    → P (area_of cells core) (patch cells m core) → P area p
carried P cells core area p m is h = subst (λ (q : Patch). P area q) (sym is.is_patch) (subst (λ (a : List Cell). P a (patch cells m core)) (sym is.is_area) h)

reply_told : (cells : List Cell) (core : List ℕ) (area : List Cell) (p : Patch) (m : Mesh) (e : Edit) → IsPatchIn cells core area p m → IsClean m
    → verdict_on (is_inside area) p e ≡ verdict (is_inside area) m e
reply_told cells core area p m e is clean =
    carried (λ a q. verdict_on (is_inside a) q e ≡ verdict (is_inside a) m e) cells core area p m is (verdict_on_core cells core m e is.tiles is.below clean)

pub edits_meshes : (area : List Cell) (p : Patch) (e : Edit) (reply : Reply) (q : Patch) → reply ≡ verdict_on (is_inside area) p e → q ≡ after_on p e reply → EditsMeshes area p e reply q
edits_meshes area p e reply q says left cells core m is clean =
    let told : reply ≡ verdict (is_inside area) m e = says ∙ reply_told cells core area p m e is clean in
    let made = carried (λ a r. after_on r e (verdict (is_inside a) m e) ≡ patch cells (after m e (verdict (is_inside a) m e)) core) cells core area p m is (after_on_core cells core m e is.tiles is.below clean) in (
      told,
      left ∙ subst (λ (r : Reply). after_on p e r ≡ patch cells (after m e r) core) (sym told) made,
    )

pub keeps_meshes : (area : List Cell) (p : Patch) (e : Edit) (reply : Reply) → reply ≡ verdict_on (is_inside area) p e → KeepsMeshes area p e reply
keeps_meshes area p e reply says cells core m is good =
    subst (λ (r : Reply). Keeps m (after m e r)) (sym says)
    (carried (λ a q. Keeps m (after m e (verdict_on (is_inside a) q e))) cells core area p m is (keeps_on_core cells core m e is.tiles is.below good))

-- for a call that may have wanted memory
pub edited : {E : Type 0} (o : Result Reply E) (area : List Cell) (p : Patch) (e : Edit) (q : Patch) → IfOk o (λ r. r ≡ verdict_on (is_inside area) p e) → IfOk o (λ r. q ≡ after_on p e r)
    → IfOk o (λ r. EditsMeshes area p e r q)
edited (Ok r) area p e q says left = edits_meshes area p e r q says left
edited (Err refused) area p e q says left = tt

pub kept : {E : Type 0} (o : Result Reply E) (area : List Cell) (p : Patch) (e : Edit) → IfOk o (λ r. r ≡ verdict_on (is_inside area) p e) → IfOk o (λ r. KeepsMeshes area p e r)
kept (Ok r) area p e says = keeps_meshes area p e r says
kept (Err refused) area p e says = tt
