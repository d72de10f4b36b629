use Rattle.std.proofs.Common.{◌≡◌, ◌<◌, ◌++◌, drop}
use Rattle.std.specs.List.{All}
use Rattle.oemm_octree.specs.Octree.{core_of, cell_meets, leaves_from}
use Rattle.oemm_octree.proofs.areas.core_leaves.Given as goal

abbrev pub invariant-loop-leaf : goal.invariant-loop-leaf
invariant-loop-leaf l = record {
  told : l.core ++ leaves_from l.leaf (cell_meets l.low l.high) (drop l.leaf l.cells) ≡ core_of l.cells l.low l.high;
  below : All (λ leaf. leaf < l.leaf) l.core;
}
