use Rattle.oemm_blobs.proofs.InTurn.{stops_short}
use Rattle.oemm_blobs.proofs.laws.prefix_laws.Goals as goal

pub returns-clause-stops_short : goal.returns-clause-stops_short
returns-clause-stops_short c changes last content left stops = stops_short changes last content left stops
