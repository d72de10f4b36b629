use Rattle.std.proofs.Common.{◌≡◌, ◌+◌, ◌<◌, ◌≤◌, length, ap, ◌∙◌, subst, arith, Ok, Err}
use Rattle.std.proofs.lemmas.Result.{err_from_is_err_and}
use Rattle.sheet_data.specs.declared.index.IndexSheet.{IndexSheet}
use Rattle.sheet_forms.specs.Formed.{IsSheetOf}
use Rattle.sheet_forms.proofs.Counts.{few_vertices}
use Rattle.oemm_shelf.specs.declared.fault.ShelfFault.TheVariants as fault
use Rattle.oemm_shelf.proofs.Told.{reads_both, reads_more, same_count}
use Rattle.leaf_export.proofs.Gathering.{read_all, read_more, read_stops, shown_moved, told_moved}
use Rattle.leaf_export.proofs.reading.read_all.Goals as goal

pub overflow_cast-leaves : goal.overflow_cast-leaves
overflow_cast-leaves g c =
    let same = ap (λ (i : IndexSheet). length i.cells) c.index.ensures.index in
    omega (arith, c.len-leaves.ensures, same, c.index.ensures.shelf.rules.most_cells)

pub returns-in_err-sheet-clause-told : goal.returns-in_err-sheet-clause-told
returns-in_err-sheet-clause-told g c =
    let old = c.args.shelf.now in
    let now = c.loop-leaf.shelf in
    let inv = c.loop-leaf.invariant in
    let n = c.loop-leaf.leaf in
    let same_cells = ap (λ (i : IndexSheet). length i.cells) c.index.ensures.index in
    let lt : n < length old.index.cells = omega (arith, c.loop-leaf-test.true, c.len-leaves.ensures, same_cells) in
    let why = c.in_err-sheet.field-0.0 in
    let p = err_from_is_err_and c.from_residual.result c.from_residual.ensures.1 in
    rw (p.1, p.2)
    (read_stops (g.B.Blobs.store old.blobs).content old.index old.versions n lt c.loop-leaf.kept inv.read
    (g.B.Blobs.store now.blobs).content inv.reads.keeps.content why
    (told_moved (g.B.Blobs.store now.blobs).content (Err why) now.index old.index now.versions old.versions n
    inv.same.index inv.same.versions c.in_err-sheet.ensures.told))

pub returns-in_err-sheet-clause-shows : goal.returns-in_err-sheet-clause-shows
returns-in_err-sheet-clause-shows g c =
    let old = c.args.shelf.now in
    let now = c.loop-leaf.shelf in
    let inv = c.loop-leaf.invariant in
    let n = c.loop-leaf.leaf in
    let same_cells = ap (λ (i : IndexSheet). length i.cells) c.index.ensures.index in
    let lt : n < length old.index.cells = omega (arith, c.loop-leaf-test.true, c.len-leaves.ensures, same_cells) in
    let p = err_from_is_err_and c.from_residual.result c.from_residual.ensures.1 in
    rw (p.1, p.2)
    (shown_moved c.in_err-sheet.field-0.0 now.index old.index now.versions old.versions n inv.same.index inv.same.versions lt
    c.in_err-sheet.ensures.shows)

pub returns-in_err-sheet-clause-reads : goal.returns-in_err-sheet-clause-reads
returns-in_err-sheet-clause-reads g c =
    let old = c.args.shelf.now in
    let now = c.loop-leaf.shelf in
    let new = c.sheet.new.self in
    let n = c.loop-leaf.leaf in
    let same_cells = ap (λ (i : IndexSheet). length i.cells) c.index.ensures.index in
    let le : n + 1 ≤ length old.index.cells = omega (arith, c.loop-leaf-test.true, c.len-leaves.ensures, same_cells) in
    reads_more (n + 1) (length old.index.cells) (g.B.Blobs.store old.blobs) (g.B.Blobs.store new.blobs) le
    (reads_both n 1 (g.B.Blobs.store old.blobs) (g.B.Blobs.store now.blobs) (g.B.Blobs.store new.blobs)
    c.loop-leaf.invariant.reads c.in_err-sheet.ensures.reads)

pub returns-in_err-add-clause-reads : goal.returns-in_err-add-clause-reads
returns-in_err-add-clause-reads g c =
    let old = c.args.shelf.now in
    let now = c.loop-leaf.shelf in
    let new = c.sheet.new.self in
    let n = c.loop-leaf.leaf in
    let same_cells = ap (λ (i : IndexSheet). length i.cells) c.index.ensures.index in
    let le : n + 1 ≤ length old.index.cells = omega (arith, c.loop-leaf-test.true, c.len-leaves.ensures, same_cells) in
    reads_more (n + 1) (length old.index.cells) (g.B.Blobs.store old.blobs) (g.B.Blobs.store new.blobs) le
    (reads_both n 1 (g.B.Blobs.store old.blobs) (g.B.Blobs.store now.blobs) (g.B.Blobs.store new.blobs)
    c.loop-leaf.invariant.reads c.in_ok-sheet.ensures.reads)

pub add-requires : goal.add-requires
add-requires g c =
    let now = c.loop-leaf.shelf in
    let few = few_vertices now.index.cells now.index.vertices c.loop-leaf.leaf c.in_ok-sheet.sheet c.in_ok-sheet.ensures.shows in
    let same = ap (λ (i : IndexSheet). i.vertices) c.loop-leaf.invariant.same.index in
    omega (arith, few, same, c.index.ensures.shelf.rules.vertices)

pub loop-leaf-preserved : goal.loop-leaf-preserved
loop-leaf-preserved g c =
    let old = c.args.shelf.now in
    let now = c.loop-leaf.shelf in
    let new = c.sheet.new.self in
    let inv = c.loop-leaf.invariant in
    let step = c.in_ok-sheet.ensures in
    let s = c.in_ok-sheet.sheet in
    let n = c.loop-leaf.leaf in
    let same_cells = ap (λ (i : IndexSheet). length i.cells) c.index.ensures.index in
    let lt : n < length old.index.cells = omega (arith, c.loop-leaf-test.true, c.len-leaves.ensures, same_cells) in
    record {
      read = read_more (g.B.Blobs.store old.blobs).content old.index old.versions n lt c.loop-leaf.kept inv.read
          (g.B.Blobs.store now.blobs).content inv.reads.keeps.content s c.add.new.self
          (told_moved (g.B.Blobs.store now.blobs).content (Ok s) now.index old.index now.versions old.versions n
          inv.same.index inv.same.versions step.told)
          (subst (λ (i : IndexSheet). IsSheetOf i.cells i.vertices n s) inv.same.index step.shows)
          c.in_ok-add.ensures;
      same = record {
        index = step.same.index ∙ inv.same.index;
        versions = step.same.versions ∙ inv.same.versions;
        capacity = step.same.capacity ∙ inv.same.capacity;
      };
      reads = reads_both n 1 (g.B.Blobs.store old.blobs) (g.B.Blobs.store now.blobs) (g.B.Blobs.store new.blobs) inv.reads step.reads;
      faults = same_count fault.Store (g.B.Blobs.store now.blobs).faults (g.B.Blobs.store new.blobs).faults s step.cause ∙ inv.faults;
    }

pub returns-clause-keeps : goal.returns-clause-keeps
returns-clause-keeps g c =
    let old = c.args.shelf.now in
    let same_cells = ap (λ (i : IndexSheet). length i.cells) c.index.ensures.index in
    let end : c.loop-leaf.leaf ≡ length old.index.cells =
    omega (arith, c.loop-leaf-test.false, c.loop-leaf.auto.leaf-end, c.len-leaves.ensures, same_cells) in
    read_all (g.B.Blobs.store old.blobs).content old.index old.versions c.loop-leaf.leaf c.loop-leaf.kept end
    c.loop-leaf.invariant.read
