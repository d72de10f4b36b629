use Rattle.std.proofs.Common.{sym, ap}
use Rattle.oemm_octree.specs.Morton.{morton, rank}
use Rattle.oemm_octree.proofs.counts.Counts.leaves.Goals as goal

pub grow-requires-clause-number : goal.grow-requires-clause-number
unfolding morton
grow-requires-clause-number c = sym (ap rank c.root.ensures)
