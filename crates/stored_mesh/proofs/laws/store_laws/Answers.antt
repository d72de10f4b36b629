use Rattle.stored_mesh.proofs.Commits.{sound_checked}
use Rattle.stored_mesh.proofs.Opened.{not_unbuilt, opened_is}
use Rattle.stored_mesh.proofs.Sounds.{sound_storable}
use Rattle.stored_mesh.proofs.laws.store_laws.Goals as goal

pub returns-clause-checked : goal.returns-clause-checked
returns-clause-checked c = sound_checked

pub returns-clause-opened : goal.returns-clause-opened
returns-clause-opened c = opened_is

pub returns-clause-storable : goal.returns-clause-storable
returns-clause-storable c = sound_storable

pub returns-clause-built : goal.returns-clause-built
returns-clause-built c = not_unbuilt
