use Rattle.queued_simplify.proofs.Turns.{turn, popped_refused, popped_done, none_live}
use Rattle.queued_simplify.proofs.laws.turn_laws.Goals as goal

pub returns-clause-refused : goal.returns-clause-refused
returns-clause-refused c = popped_refused

pub returns-clause-least : goal.returns-clause-least
returns-clause-least c = popped_done

pub returns-clause-none : goal.returns-clause-none
returns-clause-none c = none_live

pub returns-clause-collapse : goal.returns-clause-collapse
returns-clause-collapse c = turn
