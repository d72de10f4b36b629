use Rattle.std.proofs.Common.{◌≡◌, length}
use Rattle.oemm_octree.specs.Octree.{AreCells}
use Rattle.mesh_model.proofs.tests.octree.Given as goal

abbrev pub invariant-loop-x : goal.invariant-loop-x
invariant-loop-x l = AreCells l.cells.items × (length l.cells.items ≡ l.x-index)
