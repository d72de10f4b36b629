use Rattle.oemm_run.proofs.Pieces.{faces_below}
use Rattle.oemm_run.proofs.phases.tasks.faces_of.Goals as goal

pub returns-clause-below : goal.returns-clause-below
returns-clause-below c =
    faces_below c.args.mesh.now _ _ _ c.renumber.result c.in_ok-names.ensures.names c.in_ok-tris.ensures.tris c.slice.ensures c.in_ok-tris.ensures.triangles c.renumber.ensures.places
