use Rattle.std.proofs.Common.{◌≡◌, map, take}
use Rattle.patch_assembly.proofs.Sorted.{near_list}
use Rattle.patch_assembly.proofs.near.near_lists.Given as goal

abbrev pub invariant-loop-sheet : goal.invariant-loop-sheet
invariant-loop-sheet l = l.lists ≡ map (near_list l.core) (take l.sheet-index l.inner)
