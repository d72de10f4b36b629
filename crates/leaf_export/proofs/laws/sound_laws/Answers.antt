use Rattle.leaf_export.proofs.Sound.{export_sound, parts_sound}
use Rattle.leaf_export.proofs.laws.sound_laws.Goals as goal

pub returns-clause-parts : goal.returns-clause-parts
returns-clause-parts c = λ b journal m versions over. parts_sound b journal m versions over

pub returns-clause-export : goal.returns-clause-export
returns-clause-export c = λ b journal m versions form old new done over. export_sound b journal m versions over form old new done
