use Rattle.oemm_make.proofs.Faces.{face_of_square, length-faces}
use Rattle.oemm_make.proofs.Walks.{length-points, vertex_there}
use Rattle.oemm_make.proofs.laws.sample_laws.Goals as goal

pub returns-clause-vertices : goal.returns-clause-vertices
returns-clause-vertices c = length-points

pub returns-clause-vertex : goal.returns-clause-vertex
returns-clause-vertex c = vertex_there

pub returns-clause-faces : goal.returns-clause-faces
returns-clause-faces c = length-faces

pub returns-clause-face : goal.returns-clause-face
returns-clause-face c = face_of_square
