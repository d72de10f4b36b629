-- The faults of a mesh that its lines and its limits of bytes make.
use Rattle.std.specs.Prelude.{ℕ, ◌+◌, Option, Some, None}
use Rattle.oemm_limits.specs.declared.TheConstants.{MOST_LINE_BYTES}
use Rattle.oemm_limits.specs.declared.what.What.TheVariants.{MeshBytes, LineBytes}
use Rattle.mesh_items.specs.declared.items.MeshWhy.TheVariants.{Cut}
use Rattle.mesh_items.specs.declared.items.MeshFault.{MeshFault}
use Rattle.mesh_items.specs.declared.items.MeshFault.TheVariants.{Read, Text, TooMany, Memory}
use Rattle.oemm_lines.specs.declared.parts.LineFault.{LineFault}
use Rattle.oemm_lines.specs.declared.parts.LineFault.TheVariants as line

-- the fault of a mesh in which a fault of its lines stands
abbrev pub fault_of : LineFault → MeshFault
fault_of line.Read = Read
fault_of (line.TooLong at) = TooMany LineBytes (MOST_LINE_BYTES + 1)
fault_of (line.Bytes taken) = TooMany MeshBytes taken
fault_of line.Memory = Memory

-- the fault that stands behind the lines of a source of so many bytes, where more of them are wanted
abbrev pub end_fault : ℕ → Option LineFault → MeshFault
end_fault size None = Text size Cut
end_fault size (Some fault) = fault_of fault
