use Rattle.oemm_lists.specs.Ascending.{IsAboveLast}
use Rattle.half_edge.proofs.tests.all_but.Given as goal

abbrev pub invariant-loop-v : goal.invariant-loop-v
invariant-loop-v l = IsAboveLast l.v l.held
