use Rattle.std.proofs.Common.{◌≡◌, ◌++◌, map, take}
use Rattle.patch_assembly.proofs.Sorted.{kept_by}
use Rattle.patch_assembly.proofs.faces.add_faces.Given as goal

abbrev pub invariant-loop-tri : goal.invariant-loop-tri
invariant-loop-tri l = l.out.items ≡ l.initial.out.items ++ map (kept_by l.leaf) (take l.tri-index l.tri-items)
