use Rattle.std.proofs.Common.{◌∙◌}
use Rattle.off_reader.specs.Numbers.{is_letter_e}
use Rattle.off_reader.proofs.NumberLaws.{front_of, rest_of, front_none, rest_none}
use Rattle.off_reader.proofs.numbers.split_at_letter.Goals as goal

pub returns-in-Some-clause-front : goal.returns-in-Some-clause-front
returns-in-Some-clause-front c = c.split_at.ensures.front ∙ front_of is_letter_e c.args.text.now c.in-Some.at c.in-Some.ensures

pub returns-in-Some-clause-back : goal.returns-in-Some-clause-back
returns-in-Some-clause-back c = c.split_at.ensures.back ∙ rest_of is_letter_e c.args.text.now c.in-Some.at c.in-Some.ensures

pub returns-in-None-clause-front : goal.returns-in-None-clause-front
returns-in-None-clause-front c = front_none is_letter_e c.args.text.now c.in-None.ensures

pub returns-in-None-clause-back : goal.returns-in-None-clause-back
returns-in-None-clause-back c = rest_none is_letter_e c.args.text.now c.in-None.ensures
