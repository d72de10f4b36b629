use Rattle.std.proofs.Common.{◌≡◌, ◌≤◌, ◌+◌, ◌-◌, length, take}
use Rattle.fault_counts.specs.Told.{Takes, TakesSome}
use Rattle.oemm_lines.specs.Stream.{left_with, most_ahead}
use Rattle.oemm_lines.proofs.fills.fill_from.Given as goal

abbrev pub invariant-loop-filled : goal.invariant-loop-filled
invariant-loop-filled g l = record {
  in_range : l.filled ≤ length l.buf;
  in_room : l.filled ≤ l.room;
  taken : Takes (left_with l.initial.ahead (g.S.Source.left l.initial.source)) (left_with l.ahead (g.S.Source.left l.source)) (take l.filled l.buf);
  given : length l.initial.ahead ≤ l.filled + length l.ahead;
  room : length l.ahead ≤ most_ahead;
  source : TakesSome (g.S.Source.left l.initial.source) (g.S.Source.left l.source);
  calm : g.S.Source.faults l.source ≡ g.S.Source.faults l.initial.source;
}

abbrev pub decreases-loop-filled : goal.decreases-loop-filled
decreases-loop-filled g l = length l.buf - l.filled
