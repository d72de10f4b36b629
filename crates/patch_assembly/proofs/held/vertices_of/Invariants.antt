use Rattle.std.proofs.Common.{◌≡◌, take}
use Rattle.std.specs.List.{flat_map}
use Rattle.patch_assembly.proofs.held.vertices_of.Given as goal

abbrev pub invariant-loop-sheet : goal.invariant-loop-sheet
invariant-loop-sheet l = l.vertices.items ≡ flat_map (λ s. s.vertices) (take l.sheet-index l.sheets)
