use Rattle.collapse_topology.proofs.CollapsedRings.{rings_met}
use Rattle.collapse_topology.proofs.Lists.{border_stays, oriented_collapsed, ring_kept, ringed_collapsed, rings_collapsed, two_fewer}
use Rattle.collapse_topology.proofs.laws.collapse_list_laws.Goals as goal

pub returns-clause-oriented : goal.returns-clause-oriented
returns-clause-oriented c = oriented_collapsed

pub returns-clause-border : goal.returns-clause-border
returns-clause-border c = border_stays

pub returns-clause-fewer : goal.returns-clause-fewer
returns-clause-fewer c = two_fewer

pub returns-clause-rings : goal.returns-clause-rings
returns-clause-rings c = rings_collapsed

pub returns-clause-ring : goal.returns-clause-ring
returns-clause-ring c = λ ts u v w oriented may. ring_kept ts u v oriented may w

pub returns-clause-ringed : goal.returns-clause-ringed
returns-clause-ringed c = ringed_collapsed

pub returns-clause-met : goal.returns-clause-met
returns-clause-met c = rings_met
