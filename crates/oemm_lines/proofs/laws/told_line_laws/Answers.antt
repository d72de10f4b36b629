use Rattle.oemm_lines.proofs.FlowLaws.{told_lines-none, ended, last, too_long, past, end_past}
use Rattle.oemm_lines.proofs.laws.told_line_laws.Goals as goal

pub returns-clause-none : goal.returns-clause-none
returns-clause-none c = told_lines-none

pub returns-clause-ended : goal.returns-clause-ended
returns-clause-ended c = ended

pub returns-clause-last : goal.returns-clause-last
returns-clause-last c = last

pub returns-clause-too_long : goal.returns-clause-too_long
returns-clause-too_long c = too_long

pub returns-clause-past : goal.returns-clause-past
returns-clause-past c = past

pub returns-clause-end_past : goal.returns-clause-end_past
returns-clause-end_past c = end_past
