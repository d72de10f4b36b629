-- Edits in a row in two parts, and what edits on a patch keep of each mesh that it stands for.
use Rattle.std.proofs.Common.{◌≡◌, ℕ, Bool, List, [], ◌∷◌, ◌++◌, length, sym, ap, refl, subst}
use Rattle.oemm_octree.specs.declared.cells.Cell.{Cell}
use Rattle.oemm_octree.specs.declared.points.Point.{Point}
use Rattle.oemm_octree.specs.Leaves.{AreBelow, AreTiles}
use Rattle.oemm_octree.specs.Octree.{area_of, is_inside}
use Rattle.mesh_data.specs.declared.edits.Edit.{Edit}
use Rattle.mesh_data.specs.declared.edits.Reply.{Reply}
use Rattle.mesh_data.specs.Edits.{after}
use Rattle.mesh_data.specs.Keeps.{Keeps}
use Rattle.mesh_data.specs.Mesh.{Mesh}
use Rattle.work_topology.specs.Ordered.{IsOrderedManifold}
use Rattle.work_topology.proofs.WorkKeeps.{edit_keeps}
use Rattle.sheet_data.specs.declared.patches.Patch.{Patch}
use Rattle.mesh_sheets.specs.Sheets.{patch}
use Rattle.sheet_frame.proofs.Plays.{ordered_clean}
use Rattle.patch_edits.specs.Edits.{after_on, verdict_on}
use Rattle.patch_edits.specs.Work.{work_on}
use Rattle.patch_edits.proofs.Afters.{verdict_on_core}

pub replies_in_parts : (inside : Point → Bool) (es fs : List Edit) (p : Patch)
    → (work_on inside p (es ++ fs)).replies ≡ (work_on inside p es).replies ++ (work_on inside (work_on inside p es).patch fs).replies
replies_in_parts inside [] fs p = refl
replies_in_parts inside (e ∷ es) fs p =
    let reply = verdict_on inside p e in ap (λ (rs : List Reply). reply ∷ rs) (replies_in_parts inside es fs (after_on p e reply))

pub patch_in_parts : (inside : Point → Bool) (es fs : List Edit) (p : Patch)
    → (work_on inside p (es ++ fs)).patch ≡ (work_on inside (work_on inside p es).patch fs).patch
patch_in_parts inside [] fs p = refl
patch_in_parts inside (e ∷ es) fs p = patch_in_parts inside es fs (after_on p e (verdict_on inside p e))

pub keeps_on_core : (cells : List Cell) (core : List ℕ) (m : Mesh) (e : Edit) → AreTiles cells → AreBelow (length cells) core → IsOrderedManifold m
    → Keeps m (after m e (verdict_on (is_inside (area_of cells core)) (patch cells m core) e))
keeps_on_core cells core m e tiles below good =
    let area = is_inside (area_of cells core) in
    subst (λ (r : Reply). Keeps m (after m e r)) (sym (verdict_on_core cells core m e tiles below (ordered_clean m good))) (edit_keeps area m e good.manifold)
