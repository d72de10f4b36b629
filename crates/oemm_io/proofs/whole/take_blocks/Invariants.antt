use Rattle.std.proofs.Common.{◌≡◌, ◌≤◌, ◌-◌, ◌<◌, vec_len}
use Rattle.fault_counts.specs.Told.{Takes}
use Rattle.oemm_io.proofs.whole.take_blocks.Given as goal

abbrev pub invariant-loop-block : goal.invariant-loop-block
invariant-loop-block g l = record {
  in_range : vec_len l.bytes ≤ l.limit;
  block : 0 < vec_len l.block;
  left : Takes (g.S.Source.left l.initial.source) (g.S.Source.left l.source) l.bytes.items;
  calm : g.S.Source.faults l.source ≡ g.S.Source.faults l.initial.source;
}

abbrev pub decreases-loop-block : goal.decreases-loop-block
decreases-loop-block g l = l.limit - vec_len l.bytes
