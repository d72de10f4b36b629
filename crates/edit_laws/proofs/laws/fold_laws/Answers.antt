use Rattle.edit_laws.proofs.Folding.{least_folding, none_folding, none_folding_dear}
use Rattle.edit_laws.proofs.laws.fold_laws.Goals as goal

pub returns-clause-named : goal.returns-clause-named
returns-clause-named c = least_folding

pub returns-clause-done : goal.returns-clause-done
returns-clause-done c = none_folding

pub returns-clause-dear : goal.returns-clause-dear
returns-clause-dear c = none_folding_dear
