use Rattle.std.proofs.Common.{◌≡◌, ◌≤◌, ◌+◌, ◌-◌, length}
use Rattle.fault_counts.specs.Told.{TakesSome}
use Rattle.oemm_lines.specs.Lines.{HasNoFeed}
use Rattle.oemm_lines.specs.Stream.{left_with, most_ahead}
use Rattle.oemm_lines.proofs.ends.find_end.Given as goal

abbrev pub invariant-loop-length : goal.invariant-loop-length
invariant-loop-length g l = record {
  in_range : l.seen ≤ length l.ahead;
  short : l.seen ≤ l.limit;
  none : HasNoFeed l.ahead l.seen;
  left : left_with l.initial.ahead (g.S.Source.left l.initial.source) ≡ left_with l.ahead (g.S.Source.left l.source);
  room : length l.ahead ≤ most_ahead;
  source : TakesSome (g.S.Source.left l.initial.source) (g.S.Source.left l.source);
  calm : g.S.Source.faults l.source ≡ g.S.Source.faults l.initial.source;
}

abbrev pub decreases-loop-length : goal.decreases-loop-length
decreases-loop-length g l = l.limit + 1 - length l.ahead
