use Rattle.std.proofs.Common.{◌≤◌}
use Rattle.mesh_cutting.proofs.tests.octree.Given as goal

abbrev pub invariant-loop-p : goal.invariant-loop-p
invariant-loop-p l = l.counts.added ≤ l.p-index
