use Rattle.std.proofs.Common.{◌≡◌, ◌++◌, take}
use Rattle.oemm_shelf.proofs.Several.{outside}
use Rattle.oemm_shelf.proofs.cores.add_outside.Given as goal

abbrev pub invariant-loop-leaf : goal.invariant-loop-leaf
invariant-loop-leaf l = l.out.items ≡ l.initial.out.items ++ outside l.core (take l.leaf-index l.near)
