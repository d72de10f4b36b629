use Rattle.std.proofs.Common.{◌≡◌, ◌≤◌, ◌<◌, length, ap, sym, ◌∙◌, subst, refl, List, arith, IsOk}
use Rattle.std.proofs.lemmas.Bool.{false≢true}
use Rattle.std.proofs.lemmas.List.Sorted.{length_permutation}
use Rattle.std.specs.BinaryHeap.{heap_items, heap_len, heap_capacity}
use Rattle.oemm_lists.specs.Ascending.{inserted}
use Rattle.collapse_queue.specs.declared.candidate.Candidate.{Candidate}
use Rattle.collapse_queue.specs.Candidates.{candidate_cmp}
use Rattle.collapse_queue.specs.Queues.{Queued, HasRoom, pushed, kept, kept_in}
use Rattle.collapse_queue.proofs.Heaps.{held, held-IsPermutation, length-held, kept_of, room_kept}
use Rattle.collapse_queue.proofs.queue.Queue.push.Goals as goal

pub unreachable-requires : goal.unreachable-requires
unreachable-requires c =
    let rs = heap_items c.self.inside.heap in
    let new = heap_items c.make_room.new.heap in
    let cap = heap_capacity c.self.inside.heap in
    let q : Queued = record { room = c.self.inside.room; items = held rs; stamps = c.self.inside.stamps } in
    let most : length q.items ≤ cap =
    omega (arith, length-held rs, c.self.inside.heap.data.ok.0, c.self.inside.heap.data.ok.1) in
    let few : length (kept q) < cap =
    room_kept q cap (subst HasRoom (sym c.self.view_is) c.requires) c.self.invariant.1 most in
    let long : length new ≡ length (kept q) =
    length_permutation _ _ c.make_room.ensures.items ∙ sym (length-held (kept_in q.room q.stamps rs))
    ∙ ap (λ (xs : List Candidate). length xs) (kept_of q rs refl) in
    let room : heap_len c.make_room.new.heap < heap_capacity c.make_room.new.heap =
    omega (arith, long, few, c.make_room.new.heap.data.ok.0, c.make_room.ensures.capacity) in
    absurd (false≢true (subst IsOk c.in-Err.is (c.push.ensures.succeeds room)))

pub returns : goal.returns
returns c =
    let rs = heap_items c.self.inside.heap in
    let q : Queued = record { room = c.self.inside.room; items = held rs; stamps = c.self.inside.stamps } in
    let more : held (heap_items c.push.new.self)
    ≡ inserted candidate_cmp c.args.item (held (heap_items c.make_room.new.heap)) =
    sym (held-IsPermutation _ _ c.in-Ok.ensures.permutation) in
    let before : held (heap_items c.make_room.new.heap) ≡ kept q =
    sym (held-IsPermutation _ _ c.make_room.ensures.items) ∙ kept_of q rs refl in
    ap (λ (xs : List Candidate). let it : Queued =
    record { room = c.self.inside.room; items = xs; stamps = c.self.inside.stamps } in it) (more
    ∙ ap (λ (xs : List Candidate). inserted candidate_cmp c.args.item xs) before)
    ∙ ap (pushed c.args.item) c.self.view_is
