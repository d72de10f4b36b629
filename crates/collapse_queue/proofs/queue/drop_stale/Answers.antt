use Rattle.std.proofs.Common.{rules, subst, List}
use Rattle.std.proofs.lemmas.Fn.{filter_same}
use Rattle.std.specs.BinaryHeap.{heap_items}
use Rattle.std.specs.List.Sorted.{IsPermutation}
use Rattle.std.specs.declared.cmp.Reverse.{Reverse}
use Rattle.collapse_queue.specs.declared.candidate.Candidate.{Candidate}
use Rattle.collapse_queue.specs.Candidates.{is_live}
use Rattle.collapse_queue.proofs.queue.drop_stale.Goals as goal

pub returns-clause-items : goal.returns-clause-items
returns-clause-items c =
    let it = c.retain.ensures.filtered in
    subst (λ (xs : List (Reverse Candidate)). IsPermutation xs (heap_items c.retain.new.self))
    (filter_same _ (λ r. is_live c.args.stamps.now r.0) _ (λ x r f' k. search rules) _ _ it.1) it.2
