use Rattle.std.proofs.Common.{◌≡◌, find}
use Rattle.std.specs.BinaryHeap.{heap_items, heap_len, heap_capacity, IsHeap}
use Rattle.collapse_queue.specs.Candidates.{down_cmp, is_live, behind}
use Rattle.collapse_queue.proofs.Heaps.{held}
use Rattle.collapse_queue.proofs.queue.pop_live.Given as goal

abbrev pub invariant-loop-item : goal.invariant-loop-item
invariant-loop-item l = record {
  ordered : IsHeap down_cmp (heap_items l.heap);
  capacity : heap_capacity l.heap ≡ heap_capacity l.initial.heap;
  first : find (is_live l.stamps) (held (heap_items l.heap))
      ≡ find (is_live l.stamps) (held (heap_items l.initial.heap));
  rest : behind (is_live l.stamps) (held (heap_items l.heap))
      ≡ behind (is_live l.stamps) (held (heap_items l.initial.heap));
}

abbrev pub decreases-loop-item : goal.decreases-loop-item
decreases-loop-item l = heap_len l.heap
