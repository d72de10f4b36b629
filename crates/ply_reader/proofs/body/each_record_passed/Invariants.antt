use Rattle.std.proofs.Common.{◌≡◌, ◌-◌}
use Rattle.std.specs.Option.{option_map}
use Rattle.fault_counts.specs.Told.{TakesSome}
use Rattle.ply_reader.specs.Body.{records_passed}
use Rattle.ply_reader.specs.Feed.{rest_left, IsOpen}
use Rattle.ply_reader.proofs.body.each_record_passed.Given as goal

abbrev pub invariant-loop : goal.invariant-loop
invariant-loop g l = record {
  same : option_map (records_passed l.order l.properties (l.count - l.counter)) (rest_left g.S.Source.left l.feed) ≡ option_map (records_passed l.order l.properties l.count) (rest_left g.S.Source.left l.initial.feed);
  open_still : IsOpen l.feed;
  source : TakesSome (g.S.Source.left l.initial.feed.stream.source) (g.S.Source.left l.feed.stream.source);
  calm : g.S.Source.faults l.feed.stream.source ≡ g.S.Source.faults l.initial.feed.stream.source;
}
