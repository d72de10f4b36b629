use Rattle.std.proofs.Common.{rules, ◌<◌, length, refl, ◌∙◌, arith}
use Rattle.oemm_blobs.specs.declared.blobs.StoreFail.TheVariants as store
use Rattle.mesh_cutting.specs.Cuts.{mesh_in}
use Rattle.oemm_shelf.proofs.Told.{same_count}
use Rattle.oemm_build.proofs.Turns.{lays_more, lays_none, lays_refused, lays_stop, on_err}
use Rattle.oemm_build.proofs.laying.lay_sheets.Goals as goal

pub loop-leaf-init : goal.loop-leaf-init
loop-leaf-init g c =
    let cut = c.args.cut.now in
    record {
      laid = lays_none cut.cells (mesh_in cut) (g.B.Blobs.store c.args.shelf.now.blobs);
      same = record { index = refl; versions = refl; capacity = refl };
      gets = refl;
      faults = refl;
    }

pub returns-in_err-sheet-clause-stops : goal.returns-in_err-sheet-clause-stops
returns-in_err-sheet-clause-stops g c =
    let cut = c.args.cut.now in
    let lt : c.loop-leaf.leaf < length cut.cells = search rules in
    on_err c.from_residual.result
    (lays_stop cut.cells (mesh_in cut) c.loop-leaf.leaf (g.B.Blobs.store c.args.shelf.now.blobs)
    (g.B.Blobs.store c.loop-leaf.shelf.blobs) (omega (arith, lt, c.requires.few)) c.loop-leaf.invariant.laid)

pub returns-in_err-put_sheet-clause-stops : goal.returns-in_err-put_sheet-clause-stops
returns-in_err-put_sheet-clause-stops g c =
    let cut = c.args.cut.now in
    let lt : c.loop-leaf.leaf < length cut.cells = search rules in
    on_err c.from_residual-in_err-put_sheet.result
    (lays_refused cut.cells (mesh_in cut) c.loop-leaf.leaf c.in_ok-sheet.sheet (g.B.Blobs.store c.args.shelf.now.blobs)
    (g.B.Blobs.store c.loop-leaf.shelf.blobs) (g.B.Blobs.store c.put_sheet.new.self.blobs) c.loop-leaf.invariant.laid
    c.in_ok-sheet.ensures c.in_err-put_sheet.field-0.0 (omega (arith, lt, c.requires.few)) c.in_err-put_sheet.ensures.puts)

pub loop-leaf-preserved : goal.loop-leaf-preserved
loop-leaf-preserved g c =
    let cut = c.args.cut.now in
    let before = c.loop-leaf.invariant in
    let step = c.in_ok-put_sheet.ensures in
    let now = g.B.Blobs.store c.loop-leaf.shelf.blobs in
    let new = g.B.Blobs.store c.put_sheet.new.self.blobs in
    record {
      laid = lays_more cut.cells (mesh_in cut) c.loop-leaf.leaf c.in_ok-sheet.sheet
          (g.B.Blobs.store c.args.shelf.now.blobs) now new before.laid c.in_ok-sheet.ensures c.in_ok-put_sheet.field-0
          step.puts;
      same = record {
        index = step.same.index ∙ before.same.index;
        versions = step.same.versions ∙ before.same.versions;
        capacity = step.same.capacity ∙ before.same.capacity;
      };
      gets = step.puts.gets ∙ before.gets;
      faults = same_count store.Failed now.faults new.faults c.in_ok-put_sheet.field-0 step.cause ∙ before.faults;
    }
