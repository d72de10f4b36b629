use Rattle.std.proofs.Common.{take}
use Rattle.oemm_shelf.specs.Shown.{CountLanes}
use Rattle.oemm_desk.proofs.counting.count_lanes.Given as goal

abbrev pub invariant-loop-entry : goal.invariant-loop-entry
invariant-loop-entry l = record { counted : CountLanes l.lanes.items (take l.entry-index l.entries) }
