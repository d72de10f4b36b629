use Rattle.std.proofs.Common.{ℕ, length}
use Rattle.queued_simplify.specs.Turns.{IsFit, IsReady}
use Rattle.queued_simplify.proofs.steps.next_step.Given as goal

abbrev pub invariant-loop-item : goal.invariant-loop-item
invariant-loop-item g l =
    let inside = g.M.Simplifiable.inside l.mesh in
    let w = g.M.Simplifiable.seen l.mesh in
    record {
      ready : IsReady inside l.max w l.queue l.refused;
      fit : (s : ℕ) → IsFit inside w.mesh s l.fn.queue → IsFit inside w.mesh s l.queue;
    }

abbrev pub decreases-loop-item : goal.decreases-loop-item
decreases-loop-item g l = length l.queue.items
