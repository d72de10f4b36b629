use Rattle.std.proofs.Common.{List, rules, arith, subst}
use Rattle.std.specs.List.{All}
use Rattle.std.proofs.lemmas.Result.{IfOk-weaker}
use Rattle.mesh_data.specs.declared.geometry.Tri.{Tri}
use Rattle.mesh_data.specs.Triangles.{IsBelow, IsProper}
use Rattle.oemm_octree.specs.Octree.{IsOnGrid}
use Rattle.write_back.proofs.CutPatches.{storable_cut}
use Rattle.write_back.proofs.tests.cut_of.Goals as goal

pub returns-clause-storable : goal.returns-clause-storable
returns-clause-storable c =
    let faces_are = c.slice-else-not-are_on_grid.ensures in
    let on = subst (All IsOnGrid) c.slice.ensures (c.if-not-are_on_grid.ensures (search rules)) in
    let proper = subst (All IsProper) faces_are (c.if-not-are_faces.ensures.proper (search rules)) in
    let below =
    subst (λ n. All (IsBelow n) c.args.faces) c.len-else-not-are_on_grid.ensures
    (subst (λ (ts : List Tri). All (IsBelow c.len-else-not-are_on_grid.result) ts) faces_are (c.if-not-are_faces.ensures.below (search rules))) in
    IfOk-weaker c.of.result _ _
    (λ cut is. storable_cut c.args.cells c.args.points c.args.faces cut c.requires on (omega arith) proper below is)
    c.of.ensures
