use Rattle.mesh_out.proofs.Appends.{append_four}
use Rattle.mesh_out.proofs.ply.push_ply_head.Goals as goal

pub returns : goal.returns
returns c =
    append_four
    _
    _
    _
    _
    _
    _
    _
    _
    _
    c.push_opening.ensures.left
    c.push_vertices.ensures.left
    c.push_faces.ensures.left
    c.push.ensures.left
