use Rattle.std.proofs.Common.{◌≡◌}
use Rattle.std.specs.Option.{option_map}
use Rattle.fault_counts.specs.Told.{TakesSome}
use Rattle.ply_reader.specs.Body.{passed}
use Rattle.ply_reader.specs.Feed.{rest_left, IsOpen}
use Rattle.ply_reader.proofs.feed.Feed.pass.Given as goal

abbrev pub invariant-loop-left : goal.invariant-loop-left
invariant-loop-left g l = record {
  same : option_map (passed l.left) (rest_left g.S.Source.left l.self) ≡ option_map (passed l.count) (rest_left g.S.Source.left l.initial.self);
  open_still : IsOpen l.self;
  source : TakesSome (g.S.Source.left l.initial.self.stream.source) (g.S.Source.left l.self.stream.source);
  calm : g.S.Source.faults l.self.stream.source ≡ g.S.Source.faults l.initial.self.stream.source;
}

abbrev pub decreases-loop-left : goal.decreases-loop-left
decreases-loop-left g l = l.left
