use Rattle.std.proofs.Common.{◌≡◌, ◌+◌, ◌≤◌, [], ◌∷◌, ◌++◌, length, arith}
use Rattle.std.proofs.lemmas.Grind.{common_steps}
use Rattle.oemm_limits.specs.declared.TheConstants.{MOST_EDITS}
use Rattle.edit_script.proofs.Edits.{kept_by_edit}
use Rattle.edit_script.proofs.draft.push_edit.Goals as goal

pub returns-clause-kept : goal.returns-clause-kept
returns-clause-kept c = λ counts kept.
    let whole : length c.args.tasks.now.items ≡ c.in-Some.last + 1 = grind (arith, common_steps) in
    let room : length c.push.new.self ≤ MOST_EDITS = grind (arith, common_steps) in
    let pushed : c.push.new.self ≡ c.index_mut-task.result.now.edits ++ c.args.edit ∷ [] = grind (arith, common_steps) in
    kept_by_edit counts c.args.tasks.now.items c.in-Some.last c.index_mut-task.result.now c.args.edit c.push.new.self whole
    c.index_mut-task.ensures.value pushed c.requires room kept
