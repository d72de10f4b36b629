use Rattle.std.proofs.Common.{◌≡◌, map, take}
use Rattle.mesh_sheets.specs.Sheets.{sheet}
use Rattle.mesh_cutting.specs.Cuts.{mesh_in}
use Rattle.write_back.proofs.tests.sheets_at.Given as goal

abbrev pub invariant-loop-leaf : goal.invariant-loop-leaf
invariant-loop-leaf l = l.sheets ≡ map (sheet l.cut.cells (mesh_in l.cut)) (take l.leaf-index l.leaves)
