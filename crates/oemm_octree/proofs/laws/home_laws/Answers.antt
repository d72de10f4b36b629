use Rattle.oemm_octree.proofs.CellParts.{root_holds}
use Rattle.oemm_octree.proofs.Tilings.{area_is_core, home_there}
use Rattle.oemm_octree.proofs.CoreHomes.{is_home, home_is, one_leaf}
use Rattle.oemm_octree.proofs.laws.home_laws.Goals as goal

pub returns-clause-home : goal.returns-clause-home
returns-clause-home c = λ cells p tiles on. (home_there cells p tiles (root_holds p on)).0

pub returns-clause-alone : goal.returns-clause-alone
returns-clause-alone c = λ cells p leaf k tiles at. (
  is_home cells p leaf k tiles at,
  home_is cells p leaf k tiles at,
)

pub returns-clause-apart : goal.returns-clause-apart
returns-clause-apart c = one_leaf

pub returns-clause-core : goal.returns-clause-core
returns-clause-core c = area_is_core
