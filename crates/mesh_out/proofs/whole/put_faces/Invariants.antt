use Rattle.std.proofs.Common.{◌≡◌, ◌-◌, ◌++◌, take}
use Rattle.std.specs.List.{flat_map}
use Rattle.oemm_io.specs.Whole.{StaysOpen}
use Rattle.mesh_out.specs.Form.{form_face}
use Rattle.mesh_out.specs.Stream.{PutsBefore}
use Rattle.mesh_out.proofs.whole.put_faces.Given as goal

abbrev pub invariant-loop-t : goal.invariant-loop-t
invariant-loop-t g l = record {
  plan : l.out.plan ≡ record l.initial.out.plan { faces = l.initial.out.plan.faces - l.t-index };
  puts : PutsBefore (g.O.Sink.written l.initial.out.sink) (g.O.Sink.written l.out.sink) (l.initial.out.buffered ++ flat_map (form_face l.initial.out.plan.form) (take l.t-index l.faces)) l.out.buffered;
  open_still : StaysOpen (g.O.Sink.finished l.initial.out.sink) (g.O.Sink.finished l.out.sink);
  calm : g.O.Sink.faults l.out.sink ≡ g.O.Sink.faults l.initial.out.sink;
}
