use Rattle.half_edge.specs.Halves.{IsSound}
use Rattle.half_edge.proofs.Walks.{WalksBack}
use Rattle.half_edge.proofs.rounds.first_round.Given as goal

abbrev pub invariant-loop-i : goal.invariant-loop-i
invariant-loop-i l = (sound : IsSound l.fn.halves.slots) × WalksBack l.fn.halves.slots l.fn.v sound l.home l.k l._i
    l._i-end
