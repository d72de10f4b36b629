use Rattle.std.proofs.Common.{◌<◌, ◌≢◌, ℕ, Some}
use Rattle.checkout_table.specs.Holders.{holder}
use Rattle.oemm_desk.proofs.desk.Desk.holds.Given as goal

abbrev pub invariant-loop-leaf : goal.invariant-loop-leaf
invariant-loop-leaf g l = record { before : (k : ℕ) → k < l.leaf → holder l.initial.self.holders k ≢ Some l.lane }
