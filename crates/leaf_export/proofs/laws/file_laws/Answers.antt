use Rattle.leaf_export.proofs.OneLeaf.{one_leaf, sheets_are}
use Rattle.leaf_export.proofs.laws.file_laws.Goals as goal

pub returns-clause-one : goal.returns-clause-one
returns-clause-one c = one_leaf

pub returns-clause-sheets : goal.returns-clause-sheets
returns-clause-sheets c = sheets_are
