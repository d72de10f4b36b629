use Rattle.std.proofs.Common.{◌≡◌, length, ◌-◌, ◌≤◌, take}
use Rattle.fault_counts.specs.Told.{Puts}
use Rattle.oemm_io.specs.Whole.{StaysOpen}
use Rattle.oemm_io.proofs.whole.put_pieces.Given as goal

abbrev pub invariant-loop-at : goal.invariant-loop-at
invariant-loop-at g l = record {
  in_range : l.at ≤ length l.bytes;
  written : Puts (g.O.Sink.written l.initial.sink) (g.O.Sink.written l.sink) (take l.at l.bytes);
  open_still : StaysOpen (g.O.Sink.finished l.initial.sink) (g.O.Sink.finished l.sink);
  calm : g.O.Sink.faults l.sink ≡ g.O.Sink.faults l.initial.sink;
}

abbrev pub decreases-loop-at : goal.decreases-loop-at
decreases-loop-at g l = length l.bytes - l.at
