-- The faults of half-edges, as those of a fragment.
use Rattle.half_edge.specs.Faults.{TellsFault}
use Rattle.half_edge.specs.declared.fault.HalfFault.{HalfFault}
use Rattle.half_edge.specs.declared.fault.HalfFault.TheVariants.{Bad, Memory}
use Rattle.sheet_data.specs.declared.patches.Patch.{Patch}
use Rattle.mesh_sheets.specs.Written.{patch_tris}
use Rattle.mesh_edits.specs.Faults.{TellsClash, names, of_half}

pub clash_told : (p : Patch) (bad : HalfFault) → TellsFault (patch_tris p) (names p.vertices) bad → TellsClash p (of_half bad)
clash_told p (Bad shape) told = told
clash_told p Memory told = tt
