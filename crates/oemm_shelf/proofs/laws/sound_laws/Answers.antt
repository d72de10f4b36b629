use Rattle.oemm_shelf.proofs.Sound.{base_sound, patch_sound, sheet_sound}
use Rattle.oemm_shelf.proofs.laws.sound_laws.Goals as goal

pub returns-clause-sheet : goal.returns-clause-sheet
returns-clause-sheet c = λ b journal m versions leaf over lt. sheet_sound b journal m versions over leaf lt

pub returns-clause-base : goal.returns-clause-base
returns-clause-base c = base_sound

pub returns-clause-patch : goal.returns-clause-patch
returns-clause-patch c = λ b journal m versions core over below up. patch_sound b journal m versions over core below up
