use Rattle.std.proofs.Common.{◌≡◌, map, take}
use Rattle.mesh_sheets.specs.Written.{written}
use Rattle.write_back.proofs.writing.sheets_of.Given as goal

abbrev pub invariant-loop-list : goal.invariant-loop-list
invariant-loop-list l = l.sheets.items ≡ map (written l.cells l.patch) (take l.list-index l.patch.near)
