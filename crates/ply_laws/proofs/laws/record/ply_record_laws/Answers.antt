use Rattle.ply_laws.proofs.Places.{coordinate_stands, corners_stand, numbers_left}
use Rattle.ply_laws.proofs.laws.record.ply_record_laws.Goals as goal

pub returns-clause-coordinate : goal.returns-clause-coordinate
returns-clause-coordinate c = coordinate_stands

pub returns-clause-corners : goal.returns-clause-corners
returns-clause-corners c = corners_stand

pub returns-clause-left : goal.returns-clause-left
returns-clause-left c = numbers_left
