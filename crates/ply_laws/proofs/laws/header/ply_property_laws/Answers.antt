use Rattle.ply_laws.proofs.PropertyLaws.{stray_property, float_coordinate, list_coordinate, scalar_corners, float_corners}
use Rattle.ply_laws.proofs.laws.header.ply_property_laws.Goals as goal

pub returns-clause-stray : goal.returns-clause-stray
returns-clause-stray c = stray_property

pub returns-clause-float_coordinate : goal.returns-clause-float_coordinate
returns-clause-float_coordinate c = float_coordinate

pub returns-clause-list_coordinate : goal.returns-clause-list_coordinate
returns-clause-list_coordinate c = list_coordinate

pub returns-clause-scalar_corners : goal.returns-clause-scalar_corners
returns-clause-scalar_corners c = scalar_corners

pub returns-clause-float_corners : goal.returns-clause-float_corners
returns-clause-float_corners c = float_corners
