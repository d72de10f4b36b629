use Rattle.patch_edits.proofs.Rows.{keeps_on_core}
use Rattle.patch_edits.proofs.laws.keep_laws.Goals as goal

pub returns : goal.returns
returns c = keeps_on_core
