use Rattle.std.proofs.Common.{ap, ◌∙◌, length, length-drop, arith}
use Rattle.fault_counts.proofs.InRow.{takes_some_more}
use Rattle.oemm_lines.proofs.StreamLaws.{filled_more, lost_more}
use Rattle.oemm_lines.proofs.fills.fill_from.Goals as goal

pub loop-filled-preserved : goal.loop-filled-preserved
loop-filled-preserved g c = record {
  in_range = omega arith;
  in_room = omega arith;
  taken = filled_more _ _ _ _ _ _ _ _ _ c.loop-filled.invariant.taken c.in_ok-some_ahead.ensures.left c.copy_behind-count.ensures.bytes c.bytes.ensures c.skip.ensures;
  given = omega (arith, ap length c.skip.ensures, length-drop c.copy_behind-count.result c.some_ahead.new.ahead);
  room = omega (arith, ap length c.skip.ensures, length-drop c.copy_behind-count.result c.some_ahead.new.ahead);
  source = takes_some_more _ _ _ c.loop-filled.invariant.source c.in_ok-some_ahead.ensures.source;
  calm = c.in_ok-some_ahead.ensures.cause.calm ∙ c.loop-filled.invariant.calm;
}

pub returns-in_err-some_ahead-clause-lost : goal.returns-in_err-some_ahead-clause-lost
returns-in_err-some_ahead-clause-lost g c = lost_more _ _ _ _ _ c.loop-filled.invariant.taken c.in_err-some_ahead.ensures.left

pub returns-in_err-some_ahead-clause-source : goal.returns-in_err-some_ahead-clause-source
returns-in_err-some_ahead-clause-source g c = takes_some_more _ _ _ c.loop-filled.invariant.source c.in_err-some_ahead.ensures.source

pub returns-then-count-room-clause-source : goal.returns-then-count-room-clause-source
returns-then-count-room-clause-source g c = takes_some_more _ _ _ c.loop-filled.invariant.source c.in_ok-some_ahead.ensures.source
