use Rattle.std.proofs.Common.{◌≡◌, ◌++◌, take}
use Rattle.queued_simplify.specs.Turns.{chosen}
use Rattle.queued_simplify.proofs.around.push_chosen.Given as goal

abbrev pub invariant-loop-name : goal.invariant-loop-name
invariant-loop-name l = l.names.items ≡ l.fn.names.items ++ chosen l.all l.refused (take l.name-index l.near)
