use Rattle.std.proofs.Common.{◌-◌, ◌≤◌}
use Rattle.face_audit.proofs.Steps.{IsFoundBelow}
use Rattle.face_audit.proofs.parts.find_in_parts.Given as goal

abbrev pub invariant-loop-low : goal.invariant-loop-low
invariant-loop-low l = record { found : IsFoundBelow l.low l.tris l.known l.border; within : l.low ≤ l.names }

abbrev pub decreases-loop-low : goal.decreases-loop-low
decreases-loop-low l = l.names - l.low
