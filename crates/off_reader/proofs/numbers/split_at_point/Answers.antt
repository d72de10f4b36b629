use Rattle.off_reader.specs.Numbers.{is_point}
use Rattle.off_reader.proofs.NumberLaws.{front_of, back_of, front_none, back_none}
use Rattle.off_reader.proofs.numbers.split_at_point.Goals as goal

pub returns-in-Some-clause-front : goal.returns-in-Some-clause-front
returns-in-Some-clause-front c = front_of is_point c.args.text.now c.in-Some.at c.in-Some.ensures

pub returns-in-Some-clause-back : goal.returns-in-Some-clause-back
returns-in-Some-clause-back c = back_of is_point c.args.text.now c.in-Some.at c.in-Some.ensures

pub returns-in-None-clause-front : goal.returns-in-None-clause-front
returns-in-None-clause-front c = front_none is_point c.args.text.now c.in-None.ensures

pub returns-in-None-clause-back : goal.returns-in-None-clause-back
returns-in-None-clause-back c = back_none is_point c.args.text.now c.in-None.ensures
