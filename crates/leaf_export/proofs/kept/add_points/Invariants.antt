use Rattle.std.proofs.Common.{◌≡◌, ◌++◌, map, take}
use Rattle.leaf_export.proofs.kept.add_points.Given as goal

abbrev pub invariant-loop-x : goal.invariant-loop-x
invariant-loop-x l = l.out.items ≡ l.initial.out.items ++ map (λ x. x.point) (take l.x-index l.vertices)
