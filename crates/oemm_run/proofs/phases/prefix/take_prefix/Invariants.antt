use Rattle.std.proofs.Common.{◌≡◌, ◌≤◌, ◌-◌, take}
use Rattle.fault_counts.specs.Told.{Takes}
use Rattle.oemm_run.proofs.phases.prefix.take_prefix.Given as goal

abbrev pub invariant-loop-count : goal.invariant-loop-count
invariant-loop-count g l = record {
  in_range : l.count ≤ 3;
  taken : Takes (g.S.Source.left l.initial.source) (g.S.Source.left l.source) (take l.count l.front);
  calm : g.S.Source.faults l.source ≡ g.S.Source.faults l.initial.source;
}

abbrev pub decreases-loop-count : goal.decreases-loop-count
decreases-loop-count g l = 3 - l.count
