use Rattle.std.proofs.Common.{◌≡◌, ◌+◌, ◌<◌, List, length, get_or, refl, sym, ◌∙◌, subst, arith, Ok}
use Rattle.std.specs.Prelude.{slice_index}
use Rattle.std.proofs.lemmas.Result.{err_from_is_err_and}
use Rattle.oemm_blobs.specs.Store.{IfTold}
use Rattle.sheet_data.specs.declared.sheets.LeafSheet.{LeafSheet}
use Rattle.oemm_shelf.specs.Readings.{Answers, current_sheet}
use Rattle.oemm_shelf.specs.declared.fault.ShelfFault.TheVariants as fault
use Rattle.oemm_shelf.proofs.Gathered.{below_at, formed_more, item_is, leaves_more, shows_leaf}
use Rattle.oemm_shelf.proofs.Sequence.{Splits, splits_more}
use Rattle.oemm_shelf.proofs.Told.{reads_both, same_count}
use Rattle.oemm_shelf.proofs.cores.read_sheets.Goals as goal

pub bounds-versions-leaf-inside : goal.bounds-versions-leaf-inside
bounds-versions-leaf-inside g c =
    let lt : c.leaf.inside.0 < length c.args.index.now.cells =
    below_at (length c.args.index.now.cells) c.args.leaves.now c.loop-leaf.leaf-index c.leaf.inside.0 c.requires.below
    c.loop-leaf-test.true
    (item_is c.args.leaves.now c.loop-leaf.leaf-index c.leaf-item.result c.leaf.inside.0 c.leaf.view_is c.leaf-item.is) in
    omega (arith, lt, c.requires.shelf.each)

pub read_sheet-requires-clause-leaf : goal.read_sheet-requires-clause-leaf
read_sheet-requires-clause-leaf g c =
    below_at (length c.args.index.now.cells) c.args.leaves.now c.loop-leaf.leaf-index c.leaf.inside.0 c.requires.below
    c.loop-leaf-test.true
    (item_is c.args.leaves.now c.loop-leaf.leaf-index c.leaf-item.result c.leaf.inside.0 c.leaf.view_is c.leaf-item.is)

pub returns-in_err-sheet-clause-shows : goal.returns-in_err-sheet-clause-shows
returns-in_err-sheet-clause-shows g c =
    let p = err_from_is_err_and c.from_residual.result c.from_residual.ensures.1 in
    rw (p.1, p.2)
    (shows_leaf c.args.index.now c.args.versions.now c.leaf.inside.0 (slice_index c.args.versions.now c.leaf.inside.0)
    c.in_err-sheet.field-0.0
    (below_at (length c.args.index.now.cells) c.args.leaves.now c.loop-leaf.leaf-index c.leaf.inside.0 c.requires.below
    c.loop-leaf-test.true
    (item_is c.args.leaves.now c.loop-leaf.leaf-index c.leaf-item.result c.leaf.inside.0 c.leaf.view_is c.leaf-item.is))
    refl c.in_err-sheet.ensures.shows)

pub loop-leaf-preserved : goal.loop-leaf-preserved
loop-leaf-preserved g c =
    let inv = c.loop-leaf.invariant in
    let step = c.in_ok-sheet.ensures in
    let added = c.in_ok-add.ensures.ok in
    let index = c.args.index.now in
    let versions = c.args.versions.now in
    let leaves = c.args.leaves.now in
    let n = c.loop-leaf.leaf-index in
    let leaf = c.leaf.inside.0 in
    let s = c.in_ok-sheet.sheet in
    let now = g.B.Blobs.store c.loop-leaf.blobs in
    let at : get_or leaves n leaf ≡ leaf = item_is leaves n c.leaf-item.result leaf c.leaf.view_is c.leaf-item.is in
    let answer : IfTold now.content (λ m. Answers (Ok s) (current_sheet index versions m leaf)) = step.told in
    record {
      told = subst (λ (ss : List LeafSheet). Splits (g.B.Blobs.store c.args.blobs.now).content index versions leaves ss (n + 1)) (sym added)
          (splits_more (g.B.Blobs.store c.args.blobs.now).content index versions leaves c.loop-leaf.sheets n inv.told leaf
          at c.loop-leaf-test.true now.content inv.reads.keeps.content s answer);
      reads = reads_both n 1 (g.B.Blobs.store c.args.blobs.now) now (g.B.Blobs.store c.read_sheet.new.blobs) inv.reads step.reads;
      of_leaves = leaves_more c.loop-leaf.sheets s c.add.new.self leaves n leaf added inv.of_leaves step.shows.is_leaf
          at c.loop-leaf-test.true;
      formed = formed_more index c.loop-leaf.sheets s c.add.new.self leaf added inv.formed step.shows;
      each = omega (arith, inv.each, step.once);
      faults = same_count fault.Store now.faults (g.B.Blobs.store c.read_sheet.new.blobs).faults s step.cause ∙ inv.faults;
    }
