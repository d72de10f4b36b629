use Rattle.std.proofs.Common.{rules, ◌∙◌, sym, arith}
use Rattle.fault_counts.proofs.InRow.{takes_some_more}
use Rattle.mesh_items.proofs.Failures.{none_failed, uses_behind}
use Rattle.ply_reader.proofs.StepLaws.{passes_failed, fails_same}
use Rattle.ply_reader.proofs.BodyLaws.{elements_next, elements_stop, elements_done}
use Rattle.mesh_items.specs.declared.items.MeshFault.TheVariants.{Read}
use Rattle.oemm_lines.specs.Stream.{UsesSource}
use Rattle.ply_reader.proofs.body.elements_passed.Goals as goal

pub returns-in_err-records_passed-clause-passes : goal.returns-in_err-records_passed-clause-passes
returns-in_err-records_passed-clause-passes g c =
    passes_failed _ _ _ _ _ c.from_residual.ensures.1
    (fails_same _ _ _ _ _ c.in_err-records_passed.field-0.0 c.loop-element.invariant.same
    (elements_stop c.args.order c.args.elements.now c.loop-element.element-index _ _ _ _ c.loop-element-test.true (rw c.element-item.is at c.in_err-records_passed.ensures.passes)))

pub loop-element-preserved : goal.loop-element-preserved
loop-element-preserved g c = record {
  same = elements_next c.args.order c.args.elements.now c.loop-element.element-index _ _ _ c.loop-element-test.true (rw c.element-item.is at c.in_ok-records_passed.ensures.passes) ∙ c.loop-element.invariant.same;
  open_still = c.in_ok-records_passed.ensures.open;
  source = takes_some_more _ _ _ c.loop-element.invariant.source c.in_ok-records_passed.ensures.uses.source;
  calm = none_failed _ _ _ _ c.in_ok-records_passed.ensures.uses.cause ∙ c.loop-element.invariant.calm;
}

pub returns-clause-passes : goal.returns-clause-passes
returns-clause-passes g c = sym c.loop-element.invariant.same ∙ elements_done c.args.order c.args.elements.now c.loop-element.element-index _ (omega arith)

pub returns-in_err-records_passed-clause-uses : goal.returns-in_err-records_passed-clause-uses
returns-in_err-records_passed-clause-uses g c =
    let uses : UsesSource g.S.Source.left g.S.Source.faults Read c.loop-element.feed.stream c.records_passed.new.feed.stream c.from_residual.result = search rules in
    uses_behind _ _ _ _ _ _ _ c.loop-element.invariant.source c.loop-element.invariant.calm uses
