use Rattle.std.proofs.Common.{rules, ◌∙◌, sym, arith}
use Rattle.fault_counts.proofs.InRow.{takes_some_more}
use Rattle.mesh_items.proofs.Failures.{none_failed, uses_behind}
use Rattle.ply_reader.proofs.StepLaws.{finds_failed, fails_same}
use Rattle.ply_reader.proofs.RecordLaws.{property_next, property_stops, properties_done}
use Rattle.mesh_items.specs.declared.items.MeshFault.TheVariants.{Read}
use Rattle.oemm_lines.specs.Stream.{UsesSource}
use Rattle.ply_reader.proofs.record.properties_in.Goals as goal

pub returns-in_err-values-clause-finds : goal.returns-in_err-values-clause-finds
returns-in_err-values-clause-finds g c =
    finds_failed _ _ _ _ _ c.from_residual.ensures.1
    (fails_same _ _ _ _ _ c.in_err-values.field-0.0 c.loop-property.invariant.same
    (property_stops c.args.here.now c.args.properties.now c.loop-property.property-index _ c.loop-property.values _ _ _ c.loop-property-test.true c.in_err-values.ensures.finds))

pub loop-property-preserved : goal.loop-property-preserved
loop-property-preserved g c = record {
  same = property_next c.args.here.now c.args.properties.now c.loop-property.property-index _ c.loop-property.values c.in_ok-values.values _ _ c.loop-property-test.true c.in_ok-values.ensures.finds ∙ c.loop-property.invariant.same;
  face = c.in_ok-values.ensures.face;
  open_still = c.in_ok-values.ensures.open;
  source = takes_some_more _ _ _ c.loop-property.invariant.source c.in_ok-values.ensures.uses.source;
  calm = none_failed _ _ _ _ c.in_ok-values.ensures.uses.cause ∙ c.loop-property.invariant.calm;
}

pub returns-clause-finds : goal.returns-clause-finds
returns-clause-finds g c = sym c.loop-property.invariant.same ∙ properties_done c.args.here.now c.args.properties.now c.loop-property.property-index c.loop-property.values _ (omega arith)

pub returns-in_err-values-clause-uses : goal.returns-in_err-values-clause-uses
returns-in_err-values-clause-uses g c =
    let uses : UsesSource g.S.Source.left g.S.Source.faults Read c.loop-property.feed.stream c.property_in.new.feed.stream c.from_residual.result = search rules in
    uses_behind _ _ _ _ _ _ _ c.loop-property.invariant.source c.loop-property.invariant.calm uses
