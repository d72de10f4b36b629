use Rattle.entry_rules.proofs.Verdicts.{verdict_good}
use Rattle.entry_rules.proofs.laws.reply_laws.Goals as goal

pub returns-clause-answers : goal.returns-clause-answers
returns-clause-answers c = λ inside m edit ready. (verdict_good inside m edit ready).0

pub returns-clause-ranges : goal.returns-clause-ranges
returns-clause-ranges c = λ inside m edit ready. (verdict_good inside m edit ready).1
