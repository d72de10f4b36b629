use Rattle.oemm_blobs.proofs.NameLaws.{never_second}
use Rattle.oemm_blobs.proofs.laws.name_laws.Goals as goal

pub returns-clause-second : goal.returns-clause-second
returns-clause-second c key other short e = never_second key other short e
