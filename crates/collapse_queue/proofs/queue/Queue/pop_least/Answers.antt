use Rattle.std.proofs.Common.{ap, sym, ◌∙◌}
use Rattle.std.specs.BinaryHeap.{heap_items}
use Rattle.collapse_queue.specs.Queues.{Queued, least_live}
use Rattle.collapse_queue.proofs.Members.{answered}
use Rattle.collapse_queue.proofs.queue.Queue.pop_least.Goals as goal

pub returns-clause-least : goal.returns-clause-least
returns-clause-least c =
    (answered c.args.self.now (heap_items c.self.inside.heap) c.pop_live.result
    (ap (λ (q : Queued). q.items) (sym c.self.view_is)) (c.pop_live.ensures.least ∙ ap least_live c.self.view_is)).0

pub returns-clause-none : goal.returns-clause-none
returns-clause-none c =
    (answered c.args.self.now (heap_items c.self.inside.heap) c.pop_live.result
    (ap (λ (q : Queued). q.items) (sym c.self.view_is)) (c.pop_live.ensures.least ∙ ap least_live c.self.view_is)).1
