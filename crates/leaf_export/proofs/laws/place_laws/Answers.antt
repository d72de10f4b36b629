use Rattle.leaf_export.proofs.Named.{all_named}
use Rattle.leaf_export.proofs.Giving.{indices_within}
use Rattle.leaf_export.proofs.Positions.{name_there}
use Rattle.leaf_export.proofs.laws.place_laws.Goals as goal

pub returns-clause-place : goal.returns-clause-place
returns-clause-place c = name_there

pub returns-clause-within : goal.returns-clause-within
returns-clause-within c = indices_within

pub returns-clause-named : goal.returns-clause-named
returns-clause-named c = all_named
