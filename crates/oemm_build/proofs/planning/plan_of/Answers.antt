use Rattle.std.proofs.Common.{rules, sym, ◌∙◌, subst}
use Rattle.oemm_octree.specs.Leaves.{AreTiles}
use Rattle.oemm_octree.proofs.Tilings.{leaves_tile}
use Rattle.mesh_data.specs.declared.shapes.Audit.TheVariants.{Bad, Good}
use Rattle.face_audit.specs.Audit.{AuditsFaces}
use Rattle.oemm_build.proofs.Starts.{audit_cut, planned}
use Rattle.oemm_build.proofs.planning.plan_of.Goals as goal

pub of-requires-clause-tiles : goal.of-requires-clause-tiles
of-requires-clause-tiles c =
    subst AreTiles (sym (c.in_ok-copy.ensures ∙ c.in_ok-cells.ensures.leaves)) (leaves_tile c.slice.result.now c.args.cap)

pub returns-in-Bad-clause-shape : goal.returns-in-Bad-clause-shape
returns-in-Bad-clause-shape c =
    audit_cut c.args.soup c.requires.soup c.in_ok-copy.field-0 c.in_ok-cut.cut c.points-2.result.now c.len.result
    c.tris.result.now (Bad c.in-Bad.shape) c.in_ok-cut.ensures c.points-2.ensures c.len.ensures c.tris.ensures
    (subst (AuditsFaces c.len.result c.tris.result.now) c.in-Bad.is c.in_ok-audit.ensures)

pub returns-in-Good-clause-planned : goal.returns-in-Good-clause-planned
returns-in-Good-clause-planned c =
    let good = c.in-Good in
    planned c.args.soup c.requires.soup c.args.cap c.args.core c.slice.result.now c.in_ok-cells.cells
    c.in_ok-copy.field-0 c.in_ok-cut.cut good.vertices good.faces good.euler _ good.border
    c.requires.least_cap c.requires.most_cap c.requires.least_core c.requires.most_core c.slice.ensures
    c.in_ok-cells.ensures.grid c.in_ok-cells.ensures.leaves c.in_ok-copy.ensures c.in_ok-cut.ensures (search rules)
    (audit_cut c.args.soup c.requires.soup c.in_ok-copy.field-0 c.in_ok-cut.cut c.points-2.result.now c.len.result
    c.tris.result.now (Good good.vertices good.faces good.euler good.border) c.in_ok-cut.ensures c.points-2.ensures
    c.len.ensures c.tris.ensures
    (subst (AuditsFaces c.len.result c.tris.result.now) good.is c.in_ok-audit.ensures))
