use Rattle.edit_script.proofs.Tasks.{draft_of_none}
use Rattle.edit_script.proofs.draft.Draft.new.Goals as goal

pub invariant_of-result : goal.invariant_of-result
invariant_of-result c = draft_of_none _ c.new.ensures.items
