use Rattle.fault_counts.proofs.InRow.{takes_some_more}
use Rattle.fault_counts.proofs.laws.told_laws.Goals as goal

pub returns-clause-takes_some : goal.returns-clause-takes_some
returns-clause-takes_some c = takes_some_more
