use Rattle.oemm_shelf.proofs.Finding.{found_checked, opened_over}
use Rattle.oemm_shelf.proofs.laws.open_laws.Goals as goal

pub returns-clause-finds : goal.returns-clause-finds
returns-clause-finds c = found_checked

pub returns-clause-over : goal.returns-clause-over
returns-clause-over c = λ b journal entries m i versions. opened_over b journal m i entries versions
