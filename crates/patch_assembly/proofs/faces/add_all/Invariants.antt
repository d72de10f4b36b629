use Rattle.std.proofs.Common.{◌≡◌, ◌++◌, take}
use Rattle.std.specs.List.{flat_map}
use Rattle.mesh_sheets.specs.Assembled.{faces_of}
use Rattle.patch_assembly.proofs.faces.add_all.Given as goal

abbrev pub invariant-loop-sheet : goal.invariant-loop-sheet
invariant-loop-sheet l = l.out.items ≡ l.initial.out.items ++ flat_map faces_of (take l.sheet-index l.sheets)
