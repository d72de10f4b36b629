use Rattle.oemm_lines.proofs.NumberLaws.{unsigned_of-decimal, integer_of-decimal}
use Rattle.oemm_lines.proofs.laws.number_laws.Goals as goal

pub returns-clause-whole : goal.returns-clause-whole
returns-clause-whole c = unsigned_of-decimal

pub returns-clause-integer : goal.returns-clause-integer
returns-clause-integer c = integer_of-decimal
