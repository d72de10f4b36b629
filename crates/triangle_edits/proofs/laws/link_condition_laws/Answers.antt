use Rattle.triangle_edits.proofs.Least.{link_violation_is, link_violation_below, none_shared}
use Rattle.triangle_edits.proofs.laws.link_condition_laws.Goals as goal

pub returns-clause-shared : goal.returns-clause-shared
returns-clause-shared c = link_violation_is

pub returns-clause-least : goal.returns-clause-least
returns-clause-least c = link_violation_below

pub returns-clause-none : goal.returns-clause-none
returns-clause-none c = none_shared
