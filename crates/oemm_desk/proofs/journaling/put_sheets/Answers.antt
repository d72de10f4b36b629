use Rattle.std.proofs.Common.{◌+◌, take, refl, sym, ◌∙◌, subst, arith, List, Ok}
use Rattle.std.proofs.lemmas.Result.{err_from_is_err_and}
use Rattle.sheet_data.specs.declared.sheets.LeafSheet.{LeafSheet}
use Rattle.oemm_blobs.specs.declared.blobs.StoreFail.TheVariants as store
use Rattle.oemm_shelf.proofs.Told.{same_count}
use Rattle.oemm_desk.specs.Commits.{PutsSheets}
use Rattle.oemm_desk.proofs.Ways.{counts_none, counts_put, none_yet, one_more, one_refused, taken_before, taken_more}
use Rattle.oemm_desk.proofs.journaling.put_sheets.Goals as goal

pub loop-sheet-init : goal.loop-sheet-init
loop-sheet-init g c =
    let old = g.B.Blobs.store c.args.shelf.now.blobs in
    record {
      puts = none_yet c.args.number old;
      same = record { index = refl; versions = refl; capacity = refl };
      counts = counts_none old;
      all = omega arith;
      faults = refl;
    }

pub returns-in_err-put_sheet-clause-refused : goal.returns-in_err-put_sheet-clause-refused
returns-in_err-put_sheet-clause-refused g c =
    let old = g.B.Blobs.store c.args.shelf.now.blobs in
    let mid = g.B.Blobs.store c.loop-sheet.shelf.blobs in
    let new = g.B.Blobs.store c.put_sheet.new.shelf.blobs in
    let p = err_from_is_err_and c.from_residual.result c.from_residual.ensures.1 in
    rw (p.1, p.2)
    (λ e. one_refused c.args.number (take c.loop-sheet.sheet-index c.args.sheets.now) old mid c.loop-sheet.invariant.puts
    c.sheet-item.result new c.in_err-put_sheet.field-0.0 c.args.sheets.now e c.in_err-put_sheet.ensures.puts)

pub loop-sheet-preserved : goal.loop-sheet-preserved
loop-sheet-preserved g c =
    let old = g.B.Blobs.store c.args.shelf.now.blobs in
    let mid = g.B.Blobs.store c.loop-sheet.shelf.blobs in
    let new = g.B.Blobs.store c.put_sheet.new.shelf.blobs in
    let inv = c.loop-sheet.invariant in
    let step = c.in_ok-put_sheet.ensures in
    let i = c.loop-sheet.sheet-index in
    let sheets = c.args.sheets.now in
    let s = c.sheet-item.result in
    let is = sym c.sheet-item.is in
    record {
      puts = subst (λ (done : List LeafSheet). PutsSheets c.args.number done old new)
          (sym (taken_more sheets i s c.loop-sheet-test.true is))
          (one_more c.args.number (take i sheets) old mid inv.puts s new c.in_ok-put_sheet.field-0
          (taken_before sheets i s c.loop-sheet-test.true is c.requires.leaves) step.puts);
      same = record {
        index = step.same.index ∙ inv.same.index;
        versions = step.same.versions ∙ inv.same.versions;
        capacity = step.same.capacity ∙ inv.same.capacity;
      };
      counts = counts_put i old mid new (Ok c.in_ok-put_sheet.field-0) inv.counts step.puts;
      all = omega (arith, inv.all, step.puts.one.next, step.puts.one.kept);
      faults = same_count store.Failed mid.faults new.faults c.in_ok-put_sheet.field-0 step.cause ∙ inv.faults;
    }
