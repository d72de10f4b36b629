use Rattle.std.proofs.Common.{ap, sym, ◌∙◌, take, length, arith}
use Rattle.std.specs.Bool.{◌==◌}
use Rattle.std.proofs.lemmas.List.{take_all}
use Rattle.oemm_lines.proofs.PlaceLaws.{first_place, no_place}
use Rattle.oemm_lines.proofs.places.before_comment.Goals as goal

pub returns-in-Some-clause-text : goal.returns-in-Some-clause-text
returns-in-Some-clause-text c =
    ap (λ n. take n c.args.text.now) (sym (first_place (λ b. b == 35) c.args.text.now c.in-Some.at c.in-Some.ensures))

pub returns-in-None-clause-text : goal.returns-in-None-clause-text
returns-in-None-clause-text c =
    sym (ap (λ n. take n c.args.text.now) (no_place (λ b. b == 35) c.args.text.now c.in-None.ensures) ∙ take_all (length c.args.text.now) c.args.text.now (omega arith))
