use Rattle.std.proofs.Common.{arith, OnErr, Ok, Err, Result}
use Rattle.std.proofs.lemmas.List.{with_items_is}
use Rattle.oemm_lines.proofs.AheadLaws.{part_is, grown_part, unmoved_front, grown_front, unmoved_left, grown_left}
use Rattle.oemm_lines.proofs.ahead.Ahead.fill.Goals as goal

on_err : {T E : Type 0} (P : Type 0) (r : Result T E) → P → OnErr r P
on_err P (Ok x) h = tt
on_err P (Err e) h = h

pub returns-in_err-count-clause-left : goal.returns-in_err-count-clause-left
returns-in_err-count-clause-left g c =
    let same = part_is c.args.self.now c.self.inside.buffer.items c.moved_to_front-from.new.buffer c.take_block-taken.new.buffer c.self.inside.from c.self.inside.to _ _ c.self.view_is (rw c.as_mut_slice-buffer.ensures.value at c.moved_to_front-from.ensures.kept) c.moved_to_front-from.ensures.order c.take_block-taken.ensures.front in
    rw (with_items_is c.self.inside.buffer c.take_block-taken.new.buffer (omega arith))
    (unmoved_left _ _ _ _ same c.in_err-count.ensures.err)

pub returns-in_err-count-clause-front : goal.returns-in_err-count-clause-front
returns-in_err-count-clause-front g c =
    let same = part_is c.args.self.now c.self.inside.buffer.items c.moved_to_front-from.new.buffer c.take_block-taken.new.buffer c.self.inside.from c.self.inside.to _ _ c.self.view_is (rw c.as_mut_slice-buffer.ensures.value at c.moved_to_front-from.ensures.kept) c.moved_to_front-from.ensures.order c.take_block-taken.ensures.front in
    rw (with_items_is c.self.inside.buffer c.take_block-taken.new.buffer (omega arith))
    (unmoved_front _ _ same)

pub returns-in_err-count-clause-err : goal.returns-in_err-count-clause-err
returns-in_err-count-clause-err g c =
    let same = part_is c.args.self.now c.self.inside.buffer.items c.moved_to_front-from.new.buffer c.take_block-taken.new.buffer c.self.inside.from c.self.inside.to _ _ c.self.view_is (rw c.as_mut_slice-buffer.ensures.value at c.moved_to_front-from.ensures.kept) c.moved_to_front-from.ensures.order c.take_block-taken.ensures.front in
    rw (with_items_is c.self.inside.buffer c.take_block-taken.new.buffer (omega arith))
    (on_err _ c.from_residual.result same)

pub returns-clause-left : goal.returns-clause-left
returns-clause-left g c =
    let same = part_is c.args.self.now c.self.inside.buffer.items c.moved_to_front-from.new.buffer c.take_block-taken.new.buffer c.self.inside.from c.self.inside.to _ _ c.self.view_is (rw c.as_mut_slice-buffer.ensures.value at c.moved_to_front-from.ensures.kept) c.moved_to_front-from.ensures.order c.take_block-taken.ensures.front in
    rw (with_items_is c.self.inside.buffer c.take_block-taken.new.buffer (omega arith))
    (grown_left _ _ _ _ _ (grown_part _ _ _ _ c.in_ok-count.count c.moved_to_front-from.ensures.order same) c.in_ok-count.ensures.taken)

pub returns-clause-front : goal.returns-clause-front
returns-clause-front g c =
    let same = part_is c.args.self.now c.self.inside.buffer.items c.moved_to_front-from.new.buffer c.take_block-taken.new.buffer c.self.inside.from c.self.inside.to _ _ c.self.view_is (rw c.as_mut_slice-buffer.ensures.value at c.moved_to_front-from.ensures.kept) c.moved_to_front-from.ensures.order c.take_block-taken.ensures.front in
    rw (with_items_is c.self.inside.buffer c.take_block-taken.new.buffer (omega arith))
    (grown_front _ _ _ (grown_part _ _ _ _ c.in_ok-count.count c.moved_to_front-from.ensures.order same))
