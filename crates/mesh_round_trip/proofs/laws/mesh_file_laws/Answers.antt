use Rattle.std.proofs.Common.{ap, ◌∙◌}
use Rattle.mesh_data.specs.Mesh.{points_of}
use Rattle.mesh_items.specs.Reading.{soup}
use Rattle.mesh_out.specs.MeshBytes.{faces_of}
use Rattle.mesh_round_trip.proofs.Wholes.{soup_of_whole}
use Rattle.mesh_round_trip.proofs.Meshes.{mesh_writable}
use Rattle.mesh_round_trip.proofs.Off.{off_read}
use Rattle.mesh_round_trip.proofs.Ply.{ply_read}
use Rattle.mesh_round_trip.proofs.laws.mesh_file_laws.Goals as goal

pub returns-clause-off : goal.returns-clause-off
returns-clause-off c = λ m writable.
    ap soup (off_read (points_of m) (faces_of m) (mesh_writable m writable)) ∙ soup_of_whole (points_of m) (faces_of m)

pub returns-clause-ply : goal.returns-clause-ply
returns-clause-ply c = λ m writable.
    ap soup (ply_read (points_of m) (faces_of m) (mesh_writable m writable)) ∙ soup_of_whole (points_of m) (faces_of m)
