use Rattle.mesh_sheets.proofs.Climbing.{core_ascends}
use Rattle.mesh_sheets.proofs.Near.{near_both_ways}
use Rattle.mesh_sheets.proofs.laws.leaf_laws.Goals as goal

pub returns-clause-near : goal.returns-clause-near
returns-clause-near c = near_both_ways

pub returns-clause-core : goal.returns-clause-core
returns-clause-core c = core_ascends
