-- Which edits can want memory.
use Rattle.std.specs.Prelude.{◌≡◌, ⊤, Bool, None}
use Rattle.oemm_octree.specs.declared.points.Point.{Point}
use Rattle.mesh_data.specs.declared.edits.Edit.{Edit}
use Rattle.mesh_data.specs.declared.edits.Edit.TheVariants.{Move, Collapse, Flip, Simplify}
use Rattle.mesh_data.specs.Edits.{pair_lines}
use Rattle.edit_steps.specs.Lines.{refusal}
use Rattle.sheet_data.specs.declared.patches.Patch.{Patch}
use Rattle.patch_edits.specs.PatchMesh.{mesh_of}

-- never a move or a flip, and a collapse only where its two names are free and neighbours
abbrev pub CanWantMemory : (Point → Bool) → Patch → Edit → Type 0
CanWantMemory inside p (Move v to) = ⊥
CanWantMemory inside p (Collapse u v most) = refusal (pair_lines inside (mesh_of p) u v) ≡ None
CanWantMemory inside p (Flip a b) = ⊥
CanWantMemory inside p (Simplify most target) = ⊤
