use Rattle.patch_edits.proofs.EditsFormed.{work_formed_on_core}
use Rattle.patch_edits.proofs.laws.formed_laws.Goals as goal

pub returns : goal.returns
returns c = work_formed_on_core
