use Rattle.std.proofs.Common.{◌∙◌}
use Rattle.off_reader.proofs.NumberLaws.{is_exponent-none, is_exponent-some}
use Rattle.off_reader.proofs.numbers.is_exponent.Goals as goal

pub returns-in-None : goal.returns-in-None
returns-in-None c = is_exponent-none _ c.in-None.ensures.cases

pub returns-in-Some : goal.returns-in-Some
returns-in-Some c =
    c.is_some.ensures ∙ is_exponent-some _ _ _ c.signed.result c.in-Some.ensures.cases.0 c.signed.ensures
