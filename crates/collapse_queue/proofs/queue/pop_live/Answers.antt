use Rattle.std.proofs.Common.{sym, ◌∙◌}
use Rattle.std.specs.BinaryHeap.{heap_items}
use Rattle.collapse_queue.specs.Candidates.{is_live}
use Rattle.collapse_queue.proofs.Heaps.{held, taken, find_here, behind_here, find_on, behind_on}
use Rattle.collapse_queue.proofs.queue.pop_live.Goals as goal

pub returns-then-is_live-clause-least : goal.returns-then-is_live-clause-least
returns-then-is_live-clause-least c =
    let live = is_live c.args.stamps.now in
    let is = taken (heap_items c.loop-item.heap)
    (heap_items c.pop.new.self) c.in-Some.item c.in-Some.ensures.permutation
    (c.in-Some.ensures.below_top c.loop-item.invariant.ordered) in
    sym (find_here live _ (held (heap_items c.pop.new.self)) c.in-Some.item.0 is (sym c.is_live.ensures
    ∙ c.if-is_live.true)) ∙ c.loop-item.invariant.first

pub returns-then-is_live-clause-items : goal.returns-then-is_live-clause-items
returns-then-is_live-clause-items c =
    let live = is_live c.args.stamps.now in
    let is = taken (heap_items c.loop-item.heap)
    (heap_items c.pop.new.self) c.in-Some.item c.in-Some.ensures.permutation
    (c.in-Some.ensures.below_top c.loop-item.invariant.ordered) in
    sym (behind_here live _ (held (heap_items c.pop.new.self)) c.in-Some.item.0 is (sym c.is_live.ensures
    ∙ c.if-is_live.true)) ∙ c.loop-item.invariant.rest

pub loop-item-preserved : goal.loop-item-preserved
loop-item-preserved c =
    let live = is_live c.args.stamps.now in
    let is = taken (heap_items c.loop-item.heap)
    (heap_items c.pop.new.self) c.in-Some.item c.in-Some.ensures.permutation
    (c.in-Some.ensures.below_top c.loop-item.invariant.ordered) in
    let stale = sym c.is_live.ensures ∙ c.if-is_live.false in
    record {
      ordered = (c.in-Some.ensures.heap_order c.loop-item.invariant.ordered).0;
      capacity = c.in-Some.ensures.capacity ∙ c.loop-item.invariant.capacity;
      first = sym (find_on live _ (held (heap_items c.pop.new.self)) c.in-Some.item.0 is stale)
          ∙ c.loop-item.invariant.first;
      rest = sym (behind_on live _ (held (heap_items c.pop.new.self)) c.in-Some.item.0 is stale)
          ∙ c.loop-item.invariant.rest;
    }
