use Rattle.std.proofs.Common.{◌≡◌, drop, IfSome}
use Rattle.std.specs.Option.{option_map}
use Rattle.fault_counts.specs.Told.{TakesSome}
use Rattle.ply_reader.specs.Body.{properties_in, no_values}
use Rattle.ply_reader.specs.Feed.{rest_left, IsFaceBelow, IsOpen}
use Rattle.ply_reader.proofs.record.properties_in.Given as goal

abbrev pub invariant-loop-property : goal.invariant-loop-property
invariant-loop-property g l = record {
  same : option_map (properties_in l.here (drop l.property-index l.properties) l.values) (rest_left g.S.Source.left l.feed) ≡ option_map (properties_in l.here l.properties no_values) (rest_left g.S.Source.left l.initial.feed);
  face : IfSome l.values.face (IsFaceBelow l.here.vertices);
  open_still : IsOpen l.feed;
  source : TakesSome (g.S.Source.left l.initial.feed.stream.source) (g.S.Source.left l.feed.stream.source);
  calm : g.S.Source.faults l.feed.stream.source ≡ g.S.Source.faults l.initial.feed.stream.source;
}
