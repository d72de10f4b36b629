use Rattle.ply_laws.proofs.HeaderLaws.{before_format, little_format, big_format, ascii_format, other_format, second_vertex, second_face, second_coordinate, second_corners, no_vertex, no_face}
use Rattle.ply_laws.proofs.LeadLaws.{face_first}
use Rattle.ply_laws.proofs.laws.header.ply_declaration_laws.Goals as goal

pub returns-clause-before_format : goal.returns-clause-before_format
returns-clause-before_format c = before_format

pub returns-clause-little : goal.returns-clause-little
returns-clause-little c = little_format

pub returns-clause-big : goal.returns-clause-big
returns-clause-big c = big_format

pub returns-clause-ascii : goal.returns-clause-ascii
returns-clause-ascii c = ascii_format

pub returns-clause-other_format : goal.returns-clause-other_format
returns-clause-other_format c = other_format

pub returns-clause-second_vertex : goal.returns-clause-second_vertex
returns-clause-second_vertex c = second_vertex

pub returns-clause-second_face : goal.returns-clause-second_face
returns-clause-second_face c = second_face

pub returns-clause-second_coordinate : goal.returns-clause-second_coordinate
returns-clause-second_coordinate c = second_coordinate

pub returns-clause-second_corners : goal.returns-clause-second_corners
returns-clause-second_corners c = second_corners

pub returns-clause-no_vertex : goal.returns-clause-no_vertex
returns-clause-no_vertex c = no_vertex

pub returns-clause-no_face : goal.returns-clause-no_face
returns-clause-no_face c = no_face

pub returns-clause-face_first : goal.returns-clause-face_first
returns-clause-face_first c = face_first
