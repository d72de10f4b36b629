use Rattle.mesh_out.proofs.Places.{position_is_place, faces_within}
use Rattle.mesh_out.proofs.laws.position_laws.Goals as goal

pub returns-clause-place : goal.returns-clause-place
returns-clause-place c = position_is_place

pub returns-clause-faces : goal.returns-clause-faces
returns-clause-faces c = faces_within
