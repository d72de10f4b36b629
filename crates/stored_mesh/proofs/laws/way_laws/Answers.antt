use Rattle.stored_mesh.proofs.Commits.{sound_before}
use Rattle.stored_mesh.proofs.Puts.{none_put, sheet_put, sound_under_way}
use Rattle.stored_mesh.proofs.laws.way_laws.Goals as goal

pub returns-clause-begins : goal.returns-clause-begins
returns-clause-begins c = none_put

pub returns-clause-next : goal.returns-clause-next
returns-clause-next c = λ spell at now new n done s bytes. sheet_put spell at n now new done s bytes

pub returns-clause-sound : goal.returns-clause-sound
returns-clause-sound c = λ spell at now b journal done sound way. sound_under_way spell at b journal sound now done way

pub returns-clause-torn : goal.returns-clause-torn
returns-clause-torn c = λ spell at now b journal sound same none. sound_before spell at now b journal sound same none
