use Rattle.patch_assembly.proofs.Agrees.{agrees}
use Rattle.patch_assembly.proofs.laws.clash_laws.Goals as goal

pub returns : goal.returns
returns c = agrees
