use Rattle.std.proofs.Common.{rules, arith, ◌∙◌, sym}
use Rattle.fault_counts.proofs.InRow.{takes_some_more}
use Rattle.mesh_items.proofs.Failures.{none_failed, uses_behind}
use Rattle.ply_reader.proofs.FeedLaws.{pass_step, pass_done}
use Rattle.ply_reader.proofs.StepLaws.{fails_more, fails_same, passes_failed}
use Rattle.mesh_items.specs.declared.items.MeshFault.TheVariants.{Read}
use Rattle.oemm_lines.specs.Stream.{UsesSource}
use Rattle.ply_reader.proofs.feed.Feed.pass.Goals as goal

pub returns-in_err-need-clause-passes : goal.returns-in_err-need-clause-passes
returns-in_err-need-clause-passes g c =
    passes_failed _ _ _ _ _ c.from_residual.ensures.1
    (fails_same _ _ _ _ _ c.in_err-need.field-0.0 c.loop-left.invariant.same
    (fails_more 1 _ _ _ _ (omega arith) c.in_err-need.ensures.rest))

pub loop-left-preserved : goal.loop-left-preserved
loop-left-preserved g c =
    let limit = rw c.in_ok-need.ensures.rest at c.skip.ensures.limit c.in_ok-need.ensures.open in
    let rest = rw c.in_ok-need.ensures.rest at c.skip.ensures.rest in
    record {
      same = pass_step _ c.min-step.result _ _ (omega arith) rest limit ∙ c.loop-left.invariant.same;
      open_still = rw c.skip.ensures.ahead c.in_ok-need.ensures.open;
      source = rw c.skip.ensures.ahead (takes_some_more _ _ _ c.loop-left.invariant.source c.in_ok-need.ensures.uses.source);
      calm = rw c.skip.ensures.ahead (none_failed _ _ _ _ c.in_ok-need.ensures.uses.cause ∙ c.loop-left.invariant.calm);
    }

pub returns-clause-passes : goal.returns-clause-passes
returns-clause-passes g c = sym c.loop-left.invariant.same ∙ pass_done g.S.Source.left c.loop-left.self _ c.loop-left.invariant.open_still (omega arith)

pub returns-in_err-need-clause-uses : goal.returns-in_err-need-clause-uses
returns-in_err-need-clause-uses g c =
    let uses : UsesSource g.S.Source.left g.S.Source.faults Read c.loop-left.self.stream c.need.new.self.stream c.from_residual.result = search rules in
    uses_behind _ _ _ _ _ _ _ c.loop-left.invariant.source c.loop-left.invariant.calm uses
