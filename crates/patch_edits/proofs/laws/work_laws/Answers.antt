use Rattle.patch_edits.proofs.Afters.{patch_on_core, replies_on_core}
use Rattle.patch_edits.proofs.Rows.{patch_in_parts, replies_in_parts}
use Rattle.patch_edits.proofs.laws.work_laws.Goals as goal

pub returns-clause-replies : goal.returns-clause-replies
returns-clause-replies c = replies_on_core

pub returns-clause-patch : goal.returns-clause-patch
returns-clause-patch c = patch_on_core

pub returns-clause-reply_parts : goal.returns-clause-reply_parts
returns-clause-reply_parts c = λ inside p es fs. replies_in_parts inside es fs p

pub returns-clause-patch_parts : goal.returns-clause-patch_parts
returns-clause-patch_parts c = λ inside p es fs. patch_in_parts inside es fs p
