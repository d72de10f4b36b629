use Rattle.std.proofs.Common.{arith, refl}
use Rattle.ply_reader.specs.Feed.{rest_left}
use Rattle.ply_reader.proofs.LineSteps.{ends_failed}
use Rattle.ply_reader.proofs.ItemLaws.{items_done, items_next, items_fail}
use Rattle.ply_reader.proofs.items.item_after.Goals as goal

pub returns-then-done-layout-clause-next : goal.returns-then-done-layout-clause-next
returns-then-done-layout-clause-next g c =
    let all = c.if-done-layout.true in (all, refl, items_done c.args.layout.now c.args.done _ all)

pub returns-in_err-item-clause-fault : goal.returns-in_err-item-clause-fault
returns-in_err-item-clause-fault g c =
    ends_failed _ _ _ _ c.from_residual.ensures.1
    (items_fail g.S.Source.left c.item_in.new.feed c.args.layout.now c.args.done c.in_err-item.field-0.0 (rest_left g.S.Source.left c.args.feed.now) (omega arith) c.in_err-item.ensures.finds)

pub returns-clause-next : goal.returns-clause-next
returns-clause-next g c = (
  omega arith,
  c.in_ok-item.ensures.may,
  items_next c.args.layout.now c.args.done c.in_ok-item.item (rest_left g.S.Source.left c.args.feed.now) (rest_left g.S.Source.left c.item_in.new.feed) (omega arith) c.in_ok-item.ensures.finds,
)
