use Rattle.std.proofs.Common.{◌≡◌, true, false, is_none, arith}
use Rattle.std.proofs.lemmas.Grind.{common_steps}
use Rattle.ply_header.proofs.HeaderLaws.{kept_before, kept_between}
use Rattle.ply_header.proofs.elements.placed_foreign.Goals as goal

pub returns-in_err-before-clause-memory : goal.returns-in_err-before-clause-memory
returns-in_err-before-clause-memory c = λ failed.
    let first : is_none c.args.header.vertex ≡ true = grind (arith, common_steps) in kept_before c.args.element c.args.header first

pub returns-in_err-between-clause-memory : goal.returns-in_err-between-clause-memory
returns-in_err-between-clause-memory c = λ failed.
    let second : is_none c.args.header.vertex ≡ false = grind (arith, common_steps) in
    let first : is_none c.args.header.face ≡ true = grind (arith, common_steps) in kept_between c.args.element c.args.header second first
