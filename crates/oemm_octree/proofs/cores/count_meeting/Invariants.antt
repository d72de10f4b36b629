use Rattle.std.proofs.Common.{◌≡◌, ◌≤◌, ◌+◌, drop, length}
use Rattle.oemm_octree.specs.Octree.{core_of, cell_meets, leaves_from}
use Rattle.oemm_octree.proofs.cores.count_meeting.Given as goal

abbrev pub invariant-loop-cell : goal.invariant-loop-cell
invariant-loop-cell l = record {
  told : l.count + length (leaves_from l.cell-index (cell_meets l.low l.high) (drop l.cell-index l.cell-items))
      ≡ length (core_of l.cells l.low l.high);
  few : l.count ≤ l.cell-index;
}
