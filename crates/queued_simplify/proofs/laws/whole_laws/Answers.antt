use Rattle.queued_simplify.proofs.Wholes.{as_many, whole_lost}
use Rattle.queued_simplify.proofs.laws.whole_laws.Goals as goal

pub returns-clause-lost : goal.returns-clause-lost
returns-clause-lost c = whole_lost

pub returns-clause-as_many : goal.returns-clause-as_many
returns-clause-as_many c = as_many
