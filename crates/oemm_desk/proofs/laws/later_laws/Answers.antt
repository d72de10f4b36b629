use Rattle.oemm_desk.proofs.Later.{later_same, later_then}
use Rattle.oemm_desk.proofs.laws.later_laws.Goals as goal

pub returns-clause-same : goal.returns-clause-same
returns-clause-same c = later_same

pub returns-clause-then : goal.returns-clause-then
returns-clause-then c = later_then
