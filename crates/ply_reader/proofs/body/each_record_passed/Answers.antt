use Rattle.std.proofs.Common.{rules, ◌∙◌, sym, arith, ◌-◌, ◌+◌}
use Rattle.fault_counts.proofs.InRow.{takes_some_more}
use Rattle.mesh_items.proofs.Failures.{none_failed, uses_behind}
use Rattle.ply_reader.proofs.StepLaws.{passes_failed, fails_same}
use Rattle.ply_reader.proofs.BodyLaws.{records_next, records_stop, records_done}
use Rattle.mesh_items.specs.declared.items.MeshFault.TheVariants.{Read}
use Rattle.oemm_lines.specs.Stream.{UsesSource}
use Rattle.ply_reader.proofs.body.each_record_passed.Goals as goal

pub returns-in_err-record_passed-clause-passes : goal.returns-in_err-record_passed-clause-passes
returns-in_err-record_passed-clause-passes g c =
    passes_failed _ _ _ _ _ c.from_residual.ensures.1
    (fails_same _ _ _ _ _ c.in_err-record_passed.field-0.0 c.loop.invariant.same
    (records_stop c.args.order c.args.properties.now (c.args.count - c.loop.counter) (c.args.count - (c.loop.counter + 1)) _ _ _ (omega arith) c.in_err-record_passed.ensures.passes))

pub loop-preserved : goal.loop-preserved
loop-preserved g c = record {
  same = records_next c.args.order c.args.properties.now (c.args.count - c.loop.counter) (c.args.count - (c.loop.counter + 1)) _ _ (omega arith) c.in_ok-record_passed.ensures.passes ∙ c.loop.invariant.same;
  open_still = c.in_ok-record_passed.ensures.open;
  source = takes_some_more _ _ _ c.loop.invariant.source c.in_ok-record_passed.ensures.uses.source;
  calm = none_failed _ _ _ _ c.in_ok-record_passed.ensures.uses.cause ∙ c.loop.invariant.calm;
}

pub returns-clause-passes : goal.returns-clause-passes
returns-clause-passes g c = sym c.loop.invariant.same ∙ records_done c.args.order c.args.properties.now (c.args.count - c.loop.counter) _ (omega arith)

pub returns-in_err-record_passed-clause-uses : goal.returns-in_err-record_passed-clause-uses
returns-in_err-record_passed-clause-uses g c =
    let uses : UsesSource g.S.Source.left g.S.Source.faults Read c.loop.feed.stream c.record_passed.new.feed.stream c.from_residual.result = search rules in
    uses_behind _ _ _ _ _ _ _ c.loop.invariant.source c.loop.invariant.calm uses
