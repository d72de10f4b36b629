use Rattle.std.proofs.Common.{◌≡◌, ◌-◌, drop}
use Rattle.oemm_octree.specs.Leaves.{octants}
use Rattle.oemm_octree.specs.Walks.{walk, walk_each}
use Rattle.oemm_octree.proofs.tiling.+walk.Given as goal

abbrev pub decreases-walk : goal.decreases-walk
decreases-walk l = l.more

abbrev pub invariant-loop-number : goal.invariant-loop-number
invariant-loop-number l = walk_each (walk (l.more - 1))
    (drop l.number (octants l.c)) l.left ≡ walk_each (walk (l.more - 1)) (octants l.c) l.cells
