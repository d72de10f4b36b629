use Rattle.std.proofs.Common.{take}
use Rattle.triangle_edits.specs.Links.{is_shared}
use Rattle.link_test.specs.Links.{IsLeastPassing}
use Rattle.link_test.proofs.neighbours.link_violation.Given as goal

abbrev pub invariant-loop-w : goal.invariant-loop-w
invariant-loop-w l = IsLeastPassing (is_shared l.others l.one l.other) (take l.w-index l.names) l.least
