use Rattle.face_rings.proofs.Oriented.{different_on, times_both, unique_on}
use Rattle.face_rings.proofs.laws.oriented_laws.Goals as goal

pub returns-clause-proper : goal.returns-clause-proper
returns-clause-proper c = λ ts x y z oriented. different_on ts oriented x y z

pub returns-clause-alone : goal.returns-clause-alone
returns-clause-alone c = λ ts x y z w oriented. unique_on ts oriented x y z w

pub returns-clause-both : goal.returns-clause-both
returns-clause-both c = times_both
