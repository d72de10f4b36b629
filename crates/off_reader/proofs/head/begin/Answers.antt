use Rattle.std.proofs.Common.{rules, ◌≡◌, ◌<◌, true, false, length, sym, ◌∙◌}
use Rattle.off_reader.specs.Grammar.{mesh_reading}
use Rattle.off_reader.specs.Reader.{counts_before}
use Rattle.mesh_items.proofs.Failures.{uses_more}
use Rattle.off_reader.proofs.ItemSteps.{mesh_ended, head_refused, head_pops, ended_pops}
use Rattle.off_reader.proofs.head.begin.Goals as goal

pub returns-in_err-line-clause-told : goal.returns-in_err-line-clause-told
returns-in_err-line-clause-told g c =
    ended_pops counts_before mesh_reading c.in_err-line.field-0.0 c.from_residual.result _ _ c.from_residual.ensures.1
    (λ text. mesh_ended c.in_err-line.field-0.0 _ _ (c.in_err-line.ensures.told text))

pub returns-then-not-is_head-clause-told : goal.returns-then-not-is_head-clause-told
returns-then-not-is_head-clause-told g c =
    let other : c.is_head.result ≡ false = search rules in
    λ text. rw c.fault_at.ensures (head_refused c.in_ok-line.line _ _ (sym c.is_head.ensures ∙ other) c.in_ok-line.ensures.told)

pub returns-then-len-gt1-clause-told : goal.returns-then-len-gt1-clause-told
returns-then-len-gt1-clause-told g c =
    let head : c.is_head.result ≡ true = search rules in
    let more : 1 < length c.in_ok-line.line.words = search rules in
    head_pops c.in_ok-line.line c.counts_of.result _ _ (sym c.is_head.ensures ∙ head) more c.counts_of.ensures.exact c.in_ok-line.ensures.told

pub returns-clause-uses : goal.returns-clause-uses
returns-clause-uses g c =
    uses_more g.S.Source.left g.S.Source.faults _ c.args.lines.now c.next_filled.new.lines _ _ _ c.in_ok-line.ensures.uses c.next_counts.ensures.uses
