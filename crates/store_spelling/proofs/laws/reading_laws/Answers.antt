use Rattle.leaf_codec.specs.Entries.{entry}
use Rattle.leaf_codec.specs.Index.{index}
use Rattle.leaf_codec.specs.Sheets.{sheet}
use Rattle.store_spelling.proofs.Readings.{told}
use Rattle.store_spelling.proofs.laws.reading_laws.Goals as goal

pub returns-clause-indexes : goal.returns-clause-indexes
returns-clause-indexes c = told index

pub returns-clause-sheets : goal.returns-clause-sheets
returns-clause-sheets c = told sheet

pub returns-clause-entries : goal.returns-clause-entries
returns-clause-entries c = told entry
