use Rattle.oemm_blobs.proofs.Untold.{never_calm}
use Rattle.oemm_blobs.proofs.laws.crash_laws.Goals as goal

pub returns-clause-untold : goal.returns-clause-untold
returns-clause-untold g c s content any calm = never_calm (g.B.Blobs.store s) content any calm
