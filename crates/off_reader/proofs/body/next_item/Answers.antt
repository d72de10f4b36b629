use Rattle.off_reader.specs.Reader.{body_at, item_before}
use Rattle.off_reader.proofs.ItemSteps.{body_ended, ended_pops, item_pops}
use Rattle.off_reader.proofs.body.next_item.Goals as goal

pub returns-in_err-line-clause-told : goal.returns-in_err-line-clause-told
returns-in_err-line-clause-told g c =
    ended_pops (item_before c.args.vertices c.args.faces c.args.done) (body_at c.args.vertices c.args.faces c.args.done)
    c.in_err-line.field-0.0 c.from_residual.result _ _ c.from_residual.ensures.1
    (λ text. body_ended c.args.vertices c.args.faces c.args.done c.in_err-line.field-0.0 _ _ c.requires.more (c.in_err-line.ensures.told text))

pub returns-clause-told : goal.returns-clause-told
returns-clause-told g c =
    item_pops c.args.vertices c.args.faces c.args.done c.in_ok-line.line c.item_of.result _ _ c.requires.more c.item_of.ensures.exact c.in_ok-line.ensures.told
