use Rattle.triangle_lists.proofs.HeldRingless.{Ringed}
use Rattle.triangle_lists.proofs.held_audit.least_held_ringless.Given as goal

abbrev pub invariant-loop-v : goal.invariant-loop-v
invariant-loop-v l = Ringed l.tris l.v-items l.v-index
