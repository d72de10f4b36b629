use Rattle.patch_edits.proofs.Afters.{after_on_core, verdict_on_core}
use Rattle.patch_edits.proofs.laws.edit_laws.Goals as goal

pub returns-clause-reply : goal.returns-clause-reply
returns-clause-reply c = verdict_on_core

pub returns-clause-patch : goal.returns-clause-patch
returns-clause-patch c = after_on_core
