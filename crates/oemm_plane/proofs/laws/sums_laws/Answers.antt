use Rattle.oemm_plane.proofs.Sums.{sums_value-sums_of, sums_value-not_negative, sums_of-append, sums_of-push, sums_of-permutation, planes-sums_of, added_comm, added_assoc}
use Rattle.oemm_plane.proofs.laws.sums_laws.Goals as goal

pub returns-clause-squared : goal.returns-clause-squared
returns-clause-squared c = sums_value-sums_of

pub returns-clause-not_negative : goal.returns-clause-not_negative
returns-clause-not_negative c = sums_value-not_negative

pub returns-clause-joined : goal.returns-clause-joined
returns-clause-joined c = sums_of-append

pub returns-clause-in_any_order : goal.returns-clause-in_any_order
returns-clause-in_any_order c = sums_of-permutation

pub returns-clause-counted : goal.returns-clause-counted
returns-clause-counted c = planes-sums_of

pub returns-clause-pushed : goal.returns-clause-pushed
returns-clause-pushed c = sums_of-push

pub returns-clause-either_way : goal.returns-clause-either_way
returns-clause-either_way c = added_comm

pub returns-clause-grouped : goal.returns-clause-grouped
returns-clause-grouped c = added_assoc
