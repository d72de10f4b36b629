use Rattle.std.proofs.Common.{◌∙◌, sym}
use Rattle.mesh_data.specs.Triangles.{corners}
use Rattle.leaf_export.specs.Tables.{lacks}
use Rattle.leaf_export.proofs.Steps.{found_here, found_next}
use Rattle.leaf_export.proofs.places.first_unplaced.Goals as goal

pub returns-in-Some : goal.returns-in-Some
returns-in-Some c =
    sym (found_here (lacks c.args.table.now) corners c.args.faces.now c.loop-t.t-index c.loop-t-test.true c.loop-t.invariant
    c.t-item.result c.t-item.is c.in-Some.v (sym c.first_lacking.ensures ∙ c.in-Some.is))

pub loop-t-preserved : goal.loop-t-preserved
loop-t-preserved c =
    found_next (lacks c.args.table.now) corners c.args.faces.now c.loop-t.t-index c.loop-t-test.true c.loop-t.invariant
    c.t-item.result c.t-item.is
    ∙ sym c.first_lacking.ensures ∙ c.in_default.is
