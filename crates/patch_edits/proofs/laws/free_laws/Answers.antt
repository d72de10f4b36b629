use Rattle.patch_edits.proofs.Frees.{free_on_core, held_on_core, star_on_core}
use Rattle.patch_edits.proofs.laws.free_laws.Goals as goal

pub returns-clause-held : goal.returns-clause-held
returns-clause-held c = held_on_core

pub returns-clause-free : goal.returns-clause-free
returns-clause-free c = free_on_core

pub returns-clause-star : goal.returns-clause-star
returns-clause-star c = star_on_core
