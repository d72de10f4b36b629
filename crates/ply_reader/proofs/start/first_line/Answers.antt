use Rattle.std.proofs.Common.{◌∙◌, sym}
use Rattle.ply_reader.proofs.LineSteps.{first_next, first_fails, first_cut, ends_failed}
use Rattle.ply_reader.proofs.start.first_line.Goals as goal

pub returns-in_err-line-clause-fault : goal.returns-in_err-line-clause-fault
returns-in_err-line-clause-fault g c =
    ends_failed _ _ _ _ c.from_residual.ensures.1 (first_cut g.S.Source.left c.args.feed.now.stream c.line.new.self.stream c.in_err-line.field-0.0 c.in_err-line.ensures.stops)

pub returns-then-not-is_first-clause-fault : goal.returns-then-not-is_first-clause-fault
returns-then-not-is_first-clause-fault g c =
    let is = sym c.is_first.ensures ∙ c.if-not-is_first.true in
    rw c.fault_at.ensures
    (first_fails g.S.Source.left c.args.feed.now.stream c.in_ok-line.line c.line.new.self.stream c.in_ok-line.ensures.gives (rw c.words_left.ensures at is))

pub returns-clause-told : goal.returns-clause-told
returns-clause-told g c =
    let is = sym c.is_first.ensures ∙ c.if-not-is_first.false in
    first_next g.S.Source.left c.args.feed.now.stream c.in_ok-line.line c.line.new.self.stream c.in_ok-line.ensures.gives (rw c.words_left.ensures at is)
