use Rattle.std.proofs.Common.{◌≡◌, ◌++◌, map, take}
use Rattle.write_back.proofs.groups.all_tris.Given as goal

abbrev pub invariant-loop-x : goal.invariant-loop-x
invariant-loop-x l = l.tris.items ≡ l.patch.whole ++ map (λ x. x.tri) (take l.x-index l.patch.mixed)
