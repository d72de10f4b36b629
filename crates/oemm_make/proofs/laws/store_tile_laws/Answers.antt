use Rattle.oemm_make.proofs.HeldLeaves.{script_sound}
use Rattle.oemm_make.proofs.laws.store_tile_laws.Goals as goal

pub returns : goal.returns
returns c = λ b journal m versions max target over. script_sound b journal m versions over max target
