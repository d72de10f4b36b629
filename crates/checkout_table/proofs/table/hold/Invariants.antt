use Rattle.std.proofs.Common.{take}
use Rattle.checkout_table.specs.Holders.{HoldersSet}
use Rattle.checkout_table.proofs.table.hold.Given as goal

abbrev pub invariant-loop-leaf : goal.invariant-loop-leaf
invariant-loop-leaf l = HoldersSet l.lane (take l.leaf-index l.core) l.initial.holders l.holders
