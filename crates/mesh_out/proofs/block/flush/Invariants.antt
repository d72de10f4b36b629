use Rattle.std.proofs.Common.{◌≡◌, length}
use Rattle.oemm_io.specs.Whole.{StaysOpen}
use Rattle.mesh_out.specs.Stream.{PutsBefore}
use Rattle.mesh_out.proofs.block.flush.Given as goal

abbrev pub invariant-loop-sink : goal.invariant-loop-sink
invariant-loop-sink g l = record {
  puts : PutsBefore (g.O.Sink.written l.initial.sink) (g.O.Sink.written l.sink) l.initial.block.left l.block.left;
  open_still : StaysOpen (g.O.Sink.finished l.initial.sink) (g.O.Sink.finished l.sink);
  calm : g.O.Sink.faults l.sink ≡ g.O.Sink.faults l.initial.sink;
}

abbrev pub decreases-loop-sink : goal.decreases-loop-sink
decreases-loop-sink g l = length l.block.left
