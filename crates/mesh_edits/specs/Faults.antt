-- Why there is no fragment of a patch.
use Rattle.std.specs.Prelude.{ℕ, List, map, Some}
use Rattle.triangle_lists.specs.HeldAudit.{FindsHeldShape}
use Rattle.half_edge.specs.declared.fault.HalfFault.{HalfFault}
use Rattle.half_edge.specs.declared.fault.HalfFault.TheVariants as half
use Rattle.sheet_data.specs.declared.patches.Patch.{Patch}
use Rattle.sheet_data.specs.Summed.{SummedVertex}
use Rattle.mesh_sheets.specs.Written.{patch_tris}
use Rattle.mesh_edits.specs.declared.fault.FragmentFault.{FragmentFault}
use Rattle.mesh_edits.specs.declared.fault.FragmentFault.TheVariants.{Clash, Memory}

-- the names of vertices
abbrev pub names : List SummedVertex → List ℕ
names vs = map (λ x. x.name) vs

-- the fault of half-edges as one of a fragment
abbrev pub of_half : HalfFault → FragmentFault
of_half (half.Bad shape) = Clash shape
of_half half.Memory = Memory

-- the shape that is told is the first fault of the patch's triangles at its vertices
abbrev pub TellsClash : Patch → FragmentFault → Type 0
TellsClash p (Clash shape) = FindsHeldShape (patch_tris p) (names p.vertices) (Some shape)
TellsClash p Memory = Unit {0}
