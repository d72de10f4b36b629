use Rattle.std.proofs.Common.{take}
use Rattle.oemm_octree.specs.Counters.{IsTallyOf}
use Rattle.oemm_build.proofs.planning.leaves_over.Given as goal

abbrev pub invariant-loop-p : goal.invariant-loop-p
invariant-loop-p l = IsTallyOf l.counts (take l.p-index l.points)
