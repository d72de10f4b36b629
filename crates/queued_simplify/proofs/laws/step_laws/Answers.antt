use Rattle.queued_simplify.proofs.StepLaws.{one_way, by_planes}
use Rattle.queued_simplify.proofs.laws.step_laws.Goals as goal

pub returns-clause-unique : goal.returns-clause-unique
returns-clause-unique c = one_way

pub returns-clause-planes : goal.returns-clause-planes
returns-clause-planes c = by_planes
