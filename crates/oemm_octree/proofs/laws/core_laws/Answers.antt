use Rattle.oemm_octree.proofs.CoreHomes.{core_has_homes, core_some, core_below}
use Rattle.oemm_octree.proofs.laws.core_laws.Goals as goal

pub returns-clause-homes : goal.returns-clause-homes
returns-clause-homes c = core_has_homes

pub returns-clause-some : goal.returns-clause-some
returns-clause-some c = core_some

pub returns-clause-below : goal.returns-clause-below
returns-clause-below c = core_below
