use Rattle.std.proofs.Common.{◌++◌}
use Rattle.mesh_sheets.proofs.Rims.{rim_distinct}
use Rattle.sheet_forms.proofs.Distinct.{distinct_test, distinct_told}
use Rattle.sheet_forms.proofs.Storable.{storable_agree, storable_patch, storable_sheet}
use Rattle.sheet_forms.proofs.laws.sheet_laws.Goals as goal

pub returns-clause-sheets : goal.returns-clause-sheets
returns-clause-sheets c = storable_sheet

pub returns-clause-agree : goal.returns-clause-agree
returns-clause-agree c = λ cells names m core rim good apart. storable_agree cells names m core rim good (distinct_told (core ++ rim) apart)

pub returns-clause-rim : goal.returns-clause-rim
returns-clause-rim c = λ cells core inner up. distinct_test _ (rim_distinct cells core inner up)

pub returns-clause-patch : goal.returns-clause-patch
returns-clause-patch c = storable_patch
