use Rattle.ply_laws.proofs.LayoutLaws.{no_x, no_y, no_z, no_corners, end_trailing, whole_layout}
use Rattle.ply_laws.proofs.laws.header.ply_layout_laws.Goals as goal

pub returns-clause-no_x : goal.returns-clause-no_x
returns-clause-no_x c = no_x

pub returns-clause-no_y : goal.returns-clause-no_y
returns-clause-no_y c = no_y

pub returns-clause-no_z : goal.returns-clause-no_z
returns-clause-no_z c = no_z

pub returns-clause-no_corners : goal.returns-clause-no_corners
returns-clause-no_corners c = no_corners

pub returns-clause-trailing : goal.returns-clause-trailing
returns-clause-trailing c = end_trailing

pub returns-clause-whole : goal.returns-clause-whole
returns-clause-whole c = whole_layout
