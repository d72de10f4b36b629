use Rattle.half_edge.proofs.Seeks.{Seeks}
use Rattle.half_edge.proofs.edges.seek_edge.Given as goal

abbrev pub invariant-loop-i : goal.invariant-loop-i
invariant-loop-i l = Seeks l.halves.slots l.u l.v l.home l.key l._i l._i-end
