use Rattle.off_reader.specs.Reader.{counts_at, counts_before}
use Rattle.off_reader.proofs.ItemSteps.{counts_ended, counts_pops, ended_pops}
use Rattle.off_reader.proofs.head.next_counts.Goals as goal

pub returns-in_err-line-clause-told : goal.returns-in_err-line-clause-told
returns-in_err-line-clause-told g c =
    ended_pops counts_before counts_at c.in_err-line.field-0.0 c.from_residual.result _ _ c.from_residual.ensures.1
    (λ text. counts_ended c.in_err-line.field-0.0 _ _ (c.in_err-line.ensures.told text))

pub returns-clause-told : goal.returns-clause-told
returns-clause-told g c = counts_pops c.in_ok-line.line c.counts_of.result _ _ c.counts_of.ensures.exact c.in_ok-line.ensures.told
