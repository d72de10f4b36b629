use Rattle.work_topology.proofs.Ordered.{start_ordered, work_ordered}
use Rattle.work_topology.proofs.laws.order_laws.Goals as goal

pub returns-clause-begins : goal.returns-clause-begins
returns-clause-begins c = start_ordered

pub returns-clause-work : goal.returns-clause-work
returns-clause-work c = work_ordered
