use Rattle.stored_mesh.proofs.Commits.{sound_after}
use Rattle.stored_mesh.proofs.Puts.{sound_with_entry}
use Rattle.stored_mesh.proofs.laws.commit_laws.Goals as goal

pub returns-clause-finished : goal.returns-clause-finished
returns-clause-finished c = λ spell at now new b journal task replies core p bytes sound. sound_with_entry spell at b journal sound task replies core p bytes now new

pub returns-clause-done : goal.returns-clause-done
returns-clause-done c = λ spell at new b journal task sound same room number entry sheets. sound_after spell at new b journal sound same task room number entry sheets
