use Rattle.std.proofs.Common.{◌≡◌, ℕ, ◌+◌, ◌<◌, List, length, sym, ap, ◌∙◌, subst, arith, Ok, Err}
use Rattle.std.specs.List.{range_with_len}
use Rattle.std.proofs.lemmas.Result.{err_from_is_err_and}
use Rattle.oemm_octree.proofs.Searches.{few_tiles}
use Rattle.oemm_blobs.specs.Store.{IfTold}
use Rattle.oemm_shelf.specs.Readings.{Answers, current_sheet}
use Rattle.oemm_shelf.specs.declared.fault.ShelfFault.TheVariants as fault
use Rattle.oemm_shelf.proofs.Told.{reads_both, same_count}
use Rattle.oemm_make.specs.Held.{held_leaves}
use Rattle.oemm_make.proofs.HeldLeaves.{Splits, above_last, below_more, moved, splits_more, splits_stop}
use Rattle.oemm_make.proofs.store_tiles.held_leaves.Goals as goal

pub overflow_cast-count : goal.overflow_cast-count
overflow_cast-count g c = omega (arith, c.len-count.ensures, few_tiles c.cells.result.now c.cells.ensures.tiles)

pub add_held-requires : goal.add_held-requires
add_held-requires g c = above_last c.loop-leaf.leaf c.loop-leaf.held c.loop-leaf.invariant.below

pub loop-leaf-preserved : goal.loop-leaf-preserved
loop-leaf-preserved g c =
    let inv = c.loop-leaf.invariant in
    let step = c.in_ok-sheet.ensures in
    let s = c.in_ok-sheet.sheet in
    let leaf = c.loop-leaf.leaf in
    let i = c.args.shelf.now.index in
    let versions = c.args.shelf.now.versions in
    let old = g.B.Blobs.store c.args.shelf.now.blobs in
    let now = g.B.Blobs.store c.loop-leaf.shelf.blobs in
    let new = g.B.Blobs.store c.sheet.new.self.blobs in
    let count = c.len-count.result in
    let lt : leaf < count = omega arith in
    let answer : IfTold now.content (λ m. Answers (Ok s) (current_sheet i versions m leaf))
    = moved now.content i c.loop-leaf.shelf.index versions c.loop-leaf.shelf.versions leaf (Ok s) inv.same.index inv.same.versions step.told in
    record {
      told = subst (λ (ls : List ℕ). Splits old.content i versions count ls (leaf + 1)) (sym c.in_ok-add_held.ensures)
          (splits_more old.content i versions count c.loop-leaf.held leaf inv.told lt now.content inv.reads.keeps.content s answer);
      below = below_more leaf c.loop-leaf.held c.add_held.new.held s c.in_ok-add_held.ensures inv.below;
      same = record {
        index = step.same.index ∙ inv.same.index;
        versions = step.same.versions ∙ inv.same.versions;
        capacity = step.same.capacity ∙ inv.same.capacity;
      };
      reads = reads_both leaf 1 old now new inv.reads step.reads;
      faults = same_count fault.Store now.faults new.faults s step.cause ∙ inv.faults;
    }

pub returns-in_err-sheet-clause-told : goal.returns-in_err-sheet-clause-told
returns-in_err-sheet-clause-told g c =
    let p = err_from_is_err_and c.from_residual.result c.from_residual.ensures.1 in
    let inv = c.loop-leaf.invariant in
    let leaf = c.loop-leaf.leaf in
    let i = c.args.shelf.now.index in
    let versions = c.args.shelf.now.versions in
    let old = g.B.Blobs.store c.args.shelf.now.blobs in
    let now = g.B.Blobs.store c.loop-leaf.shelf.blobs in
    let count = c.len-count.result in
    let whole : count ≡ length i.cells = c.len-count.ensures ∙ ap length c.cells.ensures.cells in
    let lt : leaf < count = omega arith in
    let why = c.in_err-sheet.field-0.0 in
    let answer = moved now.content i c.loop-leaf.shelf.index versions c.loop-leaf.shelf.versions leaf (Err why) inv.same.index inv.same.versions c.in_err-sheet.ensures.told in
    rw (p.1, p.2)
    (subst (λ (n : ℕ). IfTold old.content (λ m. Answers (Err why) (held_leaves i versions m (range_with_len 0 n)))) whole
    (splits_stop old.content i versions count c.loop-leaf.held leaf inv.told lt now.content inv.reads.keeps.content why answer))
