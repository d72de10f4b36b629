use Rattle.oemm_lists.specs.Ascending.{IsAboveLast}
use Rattle.neighbour_index.proofs.tests.multiples.Given as goal

abbrev pub invariant-loop-leaf : goal.invariant-loop-leaf
invariant-loop-leaf l = IsAboveLast l.leaf l.set
