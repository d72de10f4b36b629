use Rattle.edit_script.proofs.draft.Draft.read_line.Goals as goal

pub invariant_of-self : goal.invariant_of-self
invariant_of-self c = c.push_edit.ensures.kept _ c.self.invariant
