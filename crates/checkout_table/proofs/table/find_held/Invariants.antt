use Rattle.std.proofs.Common.{take}
use Rattle.checkout_table.specs.Holders.{AreFree}
use Rattle.checkout_table.proofs.table.find_held.Given as goal

abbrev pub invariant-loop-leaf : goal.invariant-loop-leaf
invariant-loop-leaf l = AreFree l.holders (take l.leaf-index l.core)
