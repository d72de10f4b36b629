use Rattle.ply_laws.proofs.ElementLaws.{other_line, no_name, no_count, no_digits, too_great, many_vertices, many_faces, element_trailing, whole_element}
use Rattle.ply_laws.proofs.laws.header.ply_element_laws.Goals as goal

pub returns-clause-other : goal.returns-clause-other
returns-clause-other c = other_line

pub returns-clause-no_name : goal.returns-clause-no_name
returns-clause-no_name c = no_name

pub returns-clause-no_count : goal.returns-clause-no_count
returns-clause-no_count c = no_count

pub returns-clause-no_digits : goal.returns-clause-no_digits
returns-clause-no_digits c = no_digits

pub returns-clause-too_great : goal.returns-clause-too_great
returns-clause-too_great c = too_great

pub returns-clause-many_vertices : goal.returns-clause-many_vertices
returns-clause-many_vertices c = many_vertices

pub returns-clause-many_faces : goal.returns-clause-many_faces
returns-clause-many_faces c = many_faces

pub returns-clause-trailing : goal.returns-clause-trailing
returns-clause-trailing c = element_trailing

pub returns-clause-element : goal.returns-clause-element
returns-clause-element c = whole_element
