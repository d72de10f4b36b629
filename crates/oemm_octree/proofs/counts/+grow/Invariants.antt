use Rattle.std.proofs.Common.{◌≡◌, ◌-◌, ◌≤◌, List, ◌++◌, length, take, flat_map, count_by}
use Rattle.oemm_octree.specs.declared.points.Point.{Point}
use Rattle.oemm_octree.specs.Octree.{cell_holds}
use Rattle.oemm_limits.specs.declared.TheConstants.{MOST_ITEMS}
use Rattle.oemm_octree.specs.Counters.{AreCounters}
use Rattle.oemm_octree.specs.Leaves.{octants, cells_by, is_crowded}
use Rattle.oemm_octree.proofs.Weights.{weight}
use Rattle.oemm_octree.proofs.counts.+grow.Given as goal

abbrev pub decreases-grow : goal.decreases-grow
decreases-grow l = l.more

abbrev pub invariant-loop-i : goal.invariant-loop-i
invariant-loop-i l = (points : List Point) → length points ≤ MOST_ITEMS → AreCounters l.counters points
    → (l.total ≡ weight (λ o. count_by (cell_holds o) points) (take l.i (octants l.c)))
    × (l.cells.items ≡ l.initial.cells.items ++ flat_map (cells_by (is_crowded points l.cap) (l.more - 1))
    (take l.i (octants l.c)))
