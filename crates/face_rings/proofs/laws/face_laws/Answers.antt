use Rattle.face_rings.proofs.Borders.{border_by, by_border, contains_in, edge_of, of_edge}
use Rattle.face_rings.proofs.Corners.{apex_face, corner_face, face_corner, in_contains}
use Rattle.face_rings.proofs.Faces.{Face_turn}
use Rattle.face_rings.proofs.laws.face_laws.Goals as goal

pub returns-clause-member : goal.returns-clause-member
returns-clause-member c = λ ts t. (contains_in ts t, in_contains ts t)

pub returns-clause-turn : goal.returns-clause-turn
returns-clause-turn c = Face_turn

pub returns-clause-corner : goal.returns-clause-corner
returns-clause-corner c = λ ts v. (corner_face ts v, λ h. face_corner ts v h.0 h.1 h.2)

pub returns-clause-edge : goal.returns-clause-edge
returns-clause-edge c = λ ts a b. (of_edge ts a b, λ h. edge_of ts a b h.0 h.1)

pub returns-clause-third : goal.returns-clause-third
returns-clause-third c = apex_face

pub returns-clause-border : goal.returns-clause-border
returns-clause-border c = λ ts e. (border_by ts e, by_border ts e)
