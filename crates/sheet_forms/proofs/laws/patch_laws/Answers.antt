use Rattle.sheet_forms.proofs.WellFormed.{assembled_formed}
use Rattle.sheet_forms.proofs.laws.patch_laws.Goals as goal

pub returns : goal.returns
returns c = assembled_formed
