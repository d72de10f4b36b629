use Rattle.journal_reader.proofs.Lawful.{again, one_line, one_reading}
use Rattle.journal_reader.proofs.laws.reading_laws.Goals as goal

pub returns-clause-one : goal.returns-clause-one
returns-clause-one c = one_reading

pub returns-clause-line : goal.returns-clause-line
returns-clause-line c = one_line

pub returns-clause-again : goal.returns-clause-again
returns-clause-again c = again
