use Rattle.mesh_sheets.proofs.Rims.{patch_from_sheets}
use Rattle.mesh_sheets.proofs.Writing.{sheets_of_is}
use Rattle.mesh_sheets.proofs.laws.sheet_laws.Goals as goal

pub returns-clause-patch : goal.returns-clause-patch
returns-clause-patch c = patch_from_sheets

pub returns-clause-sheets : goal.returns-clause-sheets
returns-clause-sheets c = sheets_of_is
