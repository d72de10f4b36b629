use Rattle.std.proofs.Common.{rules, arith, ◌∙◌}
use Rattle.std.proofs.lemmas.Grind.{common_steps}
use Rattle.fault_counts.proofs.InRow.{takes_some_more}
use Rattle.oemm_lines.proofs.ends.find_end.Goals as goal

pub returns-in_err-fill-clause-source : goal.returns-in_err-fill-clause-source
returns-in_err-fill-clause-source g c = takes_some_more _ _ _ c.loop-length.invariant.source c.in_err-fill.ensures.source

pub loop-length-preserved : goal.loop-length-preserved
loop-length-preserved g c = record {
  in_range = search rules;
  short = search rules;
  none = grind (arith, common_steps);
  left = search rules;
  room = search rules;
  source = takes_some_more _ _ _ c.loop-length.invariant.source c.in_ok-fill.ensures.source;
  calm = c.in_ok-fill.ensures.cause.calm ∙ c.loop-length.invariant.calm;
}
