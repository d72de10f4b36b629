-- Why half-edges can't be made of triangles.
use Rattle.std.specs.Prelude.{ℕ, List, Some}
use Rattle.mesh_data.specs.declared.geometry.Tri.{Tri}
use Rattle.triangle_lists.specs.HeldAudit.{FindsHeldShape}
use Rattle.half_edge.specs.declared.fault.HalfFault.{HalfFault}
use Rattle.half_edge.specs.declared.fault.HalfFault.TheVariants.{Bad, Memory}

-- the shape that is told is the first fault of the triangles at the held names
abbrev pub TellsFault : List Tri → List ℕ → HalfFault → Type 0
TellsFault ts held (Bad shape) = FindsHeldShape ts held (Some shape)
TellsFault ts held Memory = Unit {0}
