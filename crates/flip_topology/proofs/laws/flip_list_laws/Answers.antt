use Rattle.flip_topology.proofs.Lists.{as_many, border_stays, oriented_flipped, ring_kept, ringed_flipped, rings_flipped, rings_met}
use Rattle.flip_topology.proofs.laws.flip_list_laws.Goals as goal

pub returns-clause-oriented : goal.returns-clause-oriented
returns-clause-oriented c = oriented_flipped

pub returns-clause-border : goal.returns-clause-border
returns-clause-border c = border_stays

pub returns-clause-as_many : goal.returns-clause-as_many
returns-clause-as_many c = as_many

pub returns-clause-rings : goal.returns-clause-rings
returns-clause-rings c = rings_flipped

pub returns-clause-ring : goal.returns-clause-ring
returns-clause-ring c = λ ts a b c d w oriented may. ring_kept ts a b c d oriented may w

pub returns-clause-ringed : goal.returns-clause-ringed
returns-clause-ringed c = ringed_flipped

pub returns-clause-met : goal.returns-clause-met
returns-clause-met c = rings_met
