use Rattle.std.proofs.Common.{◌∙◌, ap, sym}
use Rattle.leaf_export.specs.Tables.{looked_up}
use Rattle.leaf_export.proofs.Steps.{done_more, kept_more}
use Rattle.leaf_export.proofs.places.place_faces.Goals as goal

pub loop-t-preserved : goal.loop-t-preserved
loop-t-preserved c =
    let ys = c.args.faces.now in
    let xs = c.loop-t.faces in
    let i = c.loop-t.t-index in
    let inv = c.loop-t.invariant in
    record {
      done = done_more (looked_up c.args.table.now) ys xs i c.loop-t.auto.faces c.loop-t-test.true inv.done inv.kept c.t-item.result c.t-item.is c.looked_up.result (c.looked_up.ensures ∙ ap (looked_up c.args.table.now) (sym c.t-item.is));
      kept = kept_more ys xs i inv.kept c.looked_up.result;
    }
