use Rattle.oemm_desk.proofs.Holding.{just_held, just_taken, none_left}
use Rattle.oemm_desk.proofs.laws.holding_laws.Goals as goal

pub returns-clause-taken : goal.returns-clause-taken
returns-clause-taken c = just_taken

pub returns-clause-held : goal.returns-clause-held
returns-clause-held c = just_held

pub returns-clause-given : goal.returns-clause-given
returns-clause-given c = none_left
