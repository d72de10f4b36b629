use Rattle.store_spelling.proofs.Readings.{is_spelled}
use Rattle.store_spelling.proofs.laws.writing_laws.Goals as goal

pub returns-clause-indexes : goal.returns-clause-indexes
returns-clause-indexes c = is_spelled c.codec_laws.ensures

pub returns-clause-sheets : goal.returns-clause-sheets
returns-clause-sheets c = is_spelled c.codec_laws-2.ensures

pub returns-clause-entries : goal.returns-clause-entries
returns-clause-entries c = is_spelled c.codec_laws-3.ensures
