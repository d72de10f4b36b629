use Rattle.std.proofs.Common.{rules, arith, ◌∙◌}
use Rattle.fault_counts.proofs.InRow.{takes_some_more}
use Rattle.mesh_items.specs.declared.items.MeshFault.TheVariants.{Read}
use Rattle.oemm_lines.specs.Stream.{UsesSource}
use Rattle.mesh_items.proofs.Failures.{none_failed, uses_behind}
use Rattle.off_reader.proofs.LineSteps.{skipped}
use Rattle.off_reader.proofs.filled.next_filled.Goals as goal

pub returns-in_err-line-clause-uses : goal.returns-in_err-line-clause-uses
returns-in_err-line-clause-uses g c =
    let uses : UsesSource g.S.Source.left g.S.Source.faults Read c.loop-line.lines c.next_line.new.lines c.from_residual.result =
    search rules in
    uses_behind _ _ _ _ _ _ _ c.loop-line.invariant.source c.loop-line.invariant.none_failed uses

pub returns-then-has_words-clause-uses : goal.returns-then-has_words-clause-uses
returns-then-has_words-clause-uses g c =
    uses_behind _ _ _ _ _ _ _ c.loop-line.invariant.source c.loop-line.invariant.none_failed c.in_ok-line.ensures.uses

pub loop-line-preserved : goal.loop-line-preserved
loop-line-preserved g c = record {
  calm = search rules;
  same = grind (arith, skipped);
  source = takes_some_more _ _ _ c.loop-line.invariant.source c.in_ok-line.ensures.uses.source;
  none_failed = none_failed _ _ _ _ c.in_ok-line.ensures.uses.cause ∙ c.loop-line.invariant.none_failed;
}
