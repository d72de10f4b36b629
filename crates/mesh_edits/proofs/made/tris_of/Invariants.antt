use Rattle.std.proofs.Common.{◌≡◌, ◌++◌, map, take}
use Rattle.sheet_data.specs.declared.patches.Mixed.{Mixed}
use Rattle.mesh_edits.proofs.made.tris_of.Given as goal

abbrev pub invariant-loop-x : goal.invariant-loop-x
invariant-loop-x l = l.tris.items ≡ l.patch.whole ++ map (λ (x : Mixed). x.tri) (take l.x-index l.x-items)
