use Rattle.std.proofs.Common.{◌≡◌, ◌≤◌, ◌*◌, drop}
use Rattle.ply_reader.specs.Feed.{fixed_from}
use Rattle.ply_reader.proofs.body.fixed_size.Given as goal

abbrev pub invariant-loop-property : goal.invariant-loop-property
invariant-loop-property l = record {
  same : fixed_from l.size (drop l.property-index l.properties) ≡ fixed_from 0 l.properties;
  few : l.size ≤ 8 * l.property-index;
}
