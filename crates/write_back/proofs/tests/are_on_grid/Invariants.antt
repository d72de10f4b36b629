use Rattle.std.specs.List.{AllWithin}
use Rattle.oemm_octree.specs.Octree.{IsOnGrid}
use Rattle.write_back.proofs.tests.are_on_grid.Given as goal

abbrev pub invariant-loop-p : goal.invariant-loop-p
invariant-loop-p l = AllWithin IsOnGrid l.points 0 l.p-index
