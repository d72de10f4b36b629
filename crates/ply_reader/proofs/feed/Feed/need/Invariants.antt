use Rattle.std.proofs.Common.{◌≡◌, ◌-◌, length}
use Rattle.fault_counts.specs.Told.{TakesSome}
use Rattle.ply_reader.specs.Feed.{rest_left, IsOpen}
use Rattle.ply_reader.proofs.feed.Feed.need.Given as goal

abbrev pub invariant-loop-self : goal.invariant-loop-self
invariant-loop-self g l = record {
  same : rest_left g.S.Source.left l.self ≡ rest_left g.S.Source.left l.initial.self;
  open_still : IsOpen l.self;
  source : TakesSome (g.S.Source.left l.initial.self.stream.source) (g.S.Source.left l.self.stream.source);
  calm : g.S.Source.faults l.self.stream.source ≡ g.S.Source.faults l.initial.self.stream.source;
}

abbrev pub decreases-loop-self : goal.decreases-loop-self
decreases-loop-self g l = l.count - length l.self.ahead
