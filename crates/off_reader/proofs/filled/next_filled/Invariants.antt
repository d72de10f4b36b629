-- The lines without words that were taken are none of those with words.
use Rattle.std.proofs.Common.{◌≡◌, ◌-◌, None}
use Rattle.fault_counts.specs.Told.{TakesSome}
use Rattle.off_reader.specs.Reader.{filled_left}
use Rattle.off_reader.proofs.filled.next_filled.Given as goal

abbrev pub invariant-loop-line : goal.invariant-loop-line
invariant-loop-line g l = record {
  calm : l.lines.fault ≡ None;
  same : filled_left g.S.Source.left l.fn.lines ≡ filled_left g.S.Source.left l.lines;
  source : TakesSome (g.S.Source.left l.fn.lines.source) (g.S.Source.left l.lines.source);
  none_failed : g.S.Source.faults l.lines.source ≡ g.S.Source.faults l.fn.lines.source;
}

abbrev pub decreases-loop-line : goal.decreases-loop-line
decreases-loop-line g l = l.lines.budget - l.lines.at
