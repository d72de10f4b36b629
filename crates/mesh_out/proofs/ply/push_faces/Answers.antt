use Rattle.mesh_out.specs.Ply.{ply_faces}
use Rattle.mesh_out.proofs.Appends.{append_number}
use Rattle.mesh_out.proofs.ply.push_faces.Goals as goal

pub returns-clause-left : goal.returns-clause-left
unfolding ply_faces
returns-clause-left c =
    append_number _ _ _ _ _ _ _ c.push.ensures.left c.push_number.ensures.left c.push-2.ensures.left
