use Rattle.std.proofs.Common.{◌≡◌, ◌↔◌, true, refl, sym, subst, ◌∙◌}
use Rattle.std.specs.BinaryHeap.{heap_items}
use Rattle.collapse_queue.specs.Queues.{Queued, HasRoom}
use Rattle.collapse_queue.proofs.Heaps.{held, room_told}
use Rattle.collapse_queue.proofs.queue.Queue.has_room.Goals as goal

pub returns : goal.returns
returns c =
    let items = heap_items c.self.inside.heap in
    let it : Queued = record { room = c.self.inside.room; items = held items; stamps = c.self.inside.stamps } in
    let told = room_told it items refl in
    subst (λ (q : Queued). (c.has_place.result ≡ true) ↔ HasRoom q) c.self.view_is
    (λ yes. told.0 (sym c.has_place.ensures ∙ yes), λ has. c.has_place.ensures ∙ told.1 has)
