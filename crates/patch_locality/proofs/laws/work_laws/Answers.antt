use Rattle.patch_locality.proofs.Locality.{same_patch, same_replies}
use Rattle.patch_locality.proofs.laws.work_laws.Goals as goal

pub returns-clause-replies : goal.returns-clause-replies
returns-clause-replies c = same_replies

pub returns-clause-patches : goal.returns-clause-patches
returns-clause-patches c = same_patch
