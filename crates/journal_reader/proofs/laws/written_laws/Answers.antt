use Rattle.journal_reader.proofs.Lawful.{bare_reads, spelled_told}
use Rattle.journal_reader.proofs.laws.written_laws.Goals as goal

pub returns-clause-text : goal.returns-clause-text
returns-clause-text c = bare_reads

pub returns-clause-spelled : goal.returns-clause-spelled
returns-clause-spelled c = spelled_told
