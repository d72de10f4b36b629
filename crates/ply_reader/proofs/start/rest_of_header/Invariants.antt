use Rattle.std.proofs.Common.{◌≡◌, ◌-◌}
use Rattle.std.specs.Option.{option_map}
use Rattle.oemm_limits.specs.declared.TheConstants.{MOST_MESH_BYTES}
use Rattle.fault_counts.specs.Told.{TakesSome}
use Rattle.oemm_lines.specs.Stream.{left_of}
use Rattle.ply_header.specs.Limits.{IsLimited}
use Rattle.ply_reader.specs.Reader.{header_of, HasLines}
use Rattle.ply_reader.proofs.start.rest_of_header.Given as goal

abbrev pub invariant-loop-header : goal.invariant-loop-header
invariant-loop-header g l = record {
  same : option_map (header_of l.header l.feed.stream) (left_of g.S.Source.left l.feed.stream) ≡ option_map (header_of l.initial.header l.initial.feed.stream) (left_of g.S.Source.left l.initial.feed.stream);
  lines : HasLines l.feed;
  few : IsLimited l.header;
  source : TakesSome (g.S.Source.left l.initial.feed.stream.source) (g.S.Source.left l.feed.stream.source);
  calm : g.S.Source.faults l.feed.stream.source ≡ g.S.Source.faults l.initial.feed.stream.source;
}

abbrev pub decreases-loop-header : goal.decreases-loop-header
decreases-loop-header g l = MOST_MESH_BYTES - l.feed.stream.at
