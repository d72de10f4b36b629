use Rattle.std.proofs.Common.{◌≡◌, drop}
use Rattle.std.specs.Option.{option_map}
use Rattle.fault_counts.specs.Told.{TakesSome}
use Rattle.ply_reader.specs.Body.{elements_passed}
use Rattle.ply_reader.specs.Feed.{rest_left, IsOpen}
use Rattle.ply_reader.proofs.body.elements_passed.Given as goal

abbrev pub invariant-loop-element : goal.invariant-loop-element
invariant-loop-element g l = record {
  same : option_map (elements_passed l.order (drop l.element-index l.elements)) (rest_left g.S.Source.left l.feed) ≡ option_map (elements_passed l.order l.elements) (rest_left g.S.Source.left l.initial.feed);
  open_still : IsOpen l.feed;
  source : TakesSome (g.S.Source.left l.initial.feed.stream.source) (g.S.Source.left l.feed.stream.source);
  calm : g.S.Source.faults l.feed.stream.source ≡ g.S.Source.faults l.initial.feed.stream.source;
}
