use Rattle.std.proofs.Common.{ap, ◌∙◌}
use Rattle.mesh_items.specs.Reading.{soup}
use Rattle.mesh_round_trip.proofs.Wholes.{soup_of_whole}
use Rattle.mesh_round_trip.proofs.Ply.{ply_read}
use Rattle.mesh_round_trip.proofs.laws.ply_round_trip.Goals as goal

pub returns-clause-reading : goal.returns-clause-reading
returns-clause-reading c = ply_read

pub returns-clause-soup : goal.returns-clause-soup
returns-clause-soup c = λ points faces writable. ap soup (ply_read points faces writable) ∙ soup_of_whole points faces
