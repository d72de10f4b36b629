use Rattle.oemm_lists.specs.Ascending.{IsAboveLast}
use Rattle.collapse_queue.proofs.tests.first_names.Given as goal

abbrev pub invariant-loop-v : goal.invariant-loop-v
invariant-loop-v l = IsAboveLast l.v l.names
