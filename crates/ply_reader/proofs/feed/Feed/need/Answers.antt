use Rattle.std.proofs.Common.{rules, arith, Err, ◌≡◌, ◌∙◌, ap, length, List, ℕ}
use Rattle.ply_reader.proofs.FeedLaws.{cut_short}
use Rattle.ply_reader.specs.Feed.{rest_left}
use Rattle.mesh_items.specs.declared.items.MeshFault.TheVariants.{Read}
use Rattle.oemm_lines.specs.Stream.{UsesSource}
use Rattle.fault_counts.proofs.InRow.{takes_some_more}
use Rattle.mesh_items.proofs.Failures.{none_failed, uses_behind}
use Rattle.ply_reader.proofs.feed.Feed.need.Goals as goal

pub returns-then-more-eq0-clause-rest : goal.returns-then-more-eq0-clause-rest
returns-then-more-eq0-clause-rest g c =
    rw c.cut.ensures.fault
    (cut_short g.S.Source.left c.refill.new.self (rest_left g.S.Source.left c.args.self.now) c.args.count c.cut.ensures.within
    c.in_ok-more.ensures.open.1 (let h : length c.bytes.result.now ≡ length c.loop-self.self.ahead = ap (λ (t : List ℕ). length t) c.bytes.ensures in omega (arith, h, c.in_ok-more.ensures.count)) (c.in_ok-more.ensures.end c.if-more-eq0.true) (c.in_ok-more.ensures.same ∙ c.loop-self.invariant.same))

pub returns-in_err-more-clause-uses : goal.returns-in_err-more-clause-uses
returns-in_err-more-clause-uses g c =
    let uses : UsesSource g.S.Source.left g.S.Source.faults Read c.loop-self.self.stream c.refill.new.self.stream c.from_residual.result = search rules in
    uses_behind _ _ _ _ _ _ _ c.loop-self.invariant.source c.loop-self.invariant.calm uses

pub returns-then-more-eq0-clause-uses : goal.returns-then-more-eq0-clause-uses
returns-then-more-eq0-clause-uses g c =
    let uses : UsesSource g.S.Source.left g.S.Source.faults Read c.loop-self.self.stream c.refill.new.self.stream (Err c.cut.result) = search rules in
    uses_behind _ _ _ _ _ _ _ c.loop-self.invariant.source c.loop-self.invariant.calm uses

pub loop-self-preserved : goal.loop-self-preserved
loop-self-preserved g c = record {
  same = c.in_ok-more.ensures.same ∙ c.loop-self.invariant.same;
  open_still = c.in_ok-more.ensures.open;
  source = takes_some_more _ _ _ c.loop-self.invariant.source c.in_ok-more.ensures.uses.source;
  calm = none_failed _ _ _ _ c.in_ok-more.ensures.uses.cause ∙ c.loop-self.invariant.calm;
}
