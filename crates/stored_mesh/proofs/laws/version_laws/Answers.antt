use Rattle.std.proofs.Common.{refl}
use Rattle.stored_mesh.proofs.Versions.{version_below, version_push}
use Rattle.stored_mesh.proofs.laws.version_laws.Goals as goal

pub returns-clause-begins : goal.returns-clause-begins
returns-clause-begins c = λ leaf. refl

pub returns-clause-next : goal.returns-clause-next
returns-clause-next c = version_push

pub returns-clause-below : goal.returns-clause-below
returns-clause-below c = version_below
