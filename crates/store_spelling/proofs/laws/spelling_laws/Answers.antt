use Rattle.store_spelling.proofs.Readings.{has_spelling}
use Rattle.store_spelling.proofs.laws.spelling_laws.Goals as goal

pub returns-clause-indexes : goal.returns-clause-indexes
returns-clause-indexes c = has_spelling c.codec_laws.ensures

pub returns-clause-sheets : goal.returns-clause-sheets
returns-clause-sheets c = has_spelling c.codec_laws-2.ensures

pub returns-clause-entries : goal.returns-clause-entries
returns-clause-entries c = has_spelling c.codec_laws-3.ensures
