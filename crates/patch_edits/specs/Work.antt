-- Edits in a row on a patch.
use Rattle.std.specs.Prelude.{Bool, List, [], ◌∷◌}
use Rattle.oemm_octree.specs.declared.points.Point.{Point}
use Rattle.mesh_data.specs.declared.edits.Edit.{Edit}
use Rattle.mesh_data.specs.declared.edits.Reply.{Reply}
use Rattle.sheet_data.specs.declared.patches.Patch.{Patch}
use Rattle.patch_edits.specs.Edits.{after_on, verdict_on}

-- a patch, and the replies of the edits that led to it
pub record WorkedPatch : Type 0 where
  pub patch : Patch
  pub replies : List Reply

-- the edits in order, each on what the one before left
abbrev pub work_on : (Point → Bool) → Patch → List Edit → WorkedPatch
work_on inside p [] = record { patch = p; replies = [] }
work_on inside p (e ∷ es) =
    let reply = verdict_on inside p e in
    let rest = work_on inside (after_on p e reply) es in
    record { patch = rest.patch; replies = reply ∷ rest.replies }
