use Rattle.build_laws.proofs.Laying.{laid_next, laid_none, laid_still, sound_built, unbuilt_still}
use Rattle.build_laws.proofs.laws.put_laws.Goals as goal

pub returns-clause-begins : goal.returns-clause-begins
returns-clause-begins c = laid_none

pub returns-clause-next : goal.returns-clause-next
returns-clause-next c = laid_next

pub returns-clause-drafts : goal.returns-clause-drafts
returns-clause-drafts c = laid_still

pub returns-clause-unbuilt : goal.returns-clause-unbuilt
returns-clause-unbuilt c = unbuilt_still

pub returns-clause-built : goal.returns-clause-built
returns-clause-built c = λ spell at now new b bytes unbuilt base laid put is. sound_built spell at now new b bytes unbuilt base laid put is
