-- Which edits can want memory.
use Rattle.std.specs.Prelude.{◌≡◌, ⊤, Bool, None}
use Rattle.oemm_octree.specs.declared.points.Point.{Point}
use Rattle.mesh_data.specs.declared.edits.Edit.{Edit}
use Rattle.mesh_data.specs.declared.edits.Edit.TheVariants.{Move, Collapse, Flip, Simplify}
use Rattle.mesh_data.specs.declared.edits.Reply.TheVariants.{Done}
use Rattle.mesh_data.specs.Edits.{pair_lines, flip_verdict}
use Rattle.mesh_data.specs.Mesh.{Mesh}
use Rattle.edit_steps.specs.Lines.{refusal}

-- never a move, a collapse only where its two names are free and neighbours, and a flip only where it is made
abbrev pub CanWantMemory : (Point → Bool) → Mesh → Edit → Type 0
CanWantMemory inside m (Move v to) = ⊥
CanWantMemory inside m (Collapse u v most) = refusal (pair_lines inside m u v) ≡ None
CanWantMemory inside m (Flip a b) = flip_verdict inside m a b ≡ Done
CanWantMemory inside m (Simplify most target) = ⊤
