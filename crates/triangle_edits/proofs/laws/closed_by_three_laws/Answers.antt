use Rattle.triangle_edits.proofs.ThreeRings.{three_names_found, three_names_tell}
use Rattle.triangle_edits.proofs.laws.closed_by_three_laws.Goals as goal

pub returns-clause-found : goal.returns-clause-found
returns-clause-found c = three_names_found

pub returns-clause-finds : goal.returns-clause-finds
returns-clause-finds c = three_names_tell
