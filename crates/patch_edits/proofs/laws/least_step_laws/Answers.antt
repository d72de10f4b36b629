use Rattle.std.proofs.Common.{ap}
use Rattle.patch_edits.specs.Edits.{PatchSimplification}
use Rattle.patch_edits.proofs.LeastSteps.{least_steps, simplified_by}
use Rattle.patch_edits.proofs.laws.least_step_laws.Goals as goal

pub returns-clause-are : goal.returns-clause-are
returns-clause-are c = λ inside p most target. least_steps inside most target p

pub returns-clause-steps : goal.returns-clause-steps
returns-clause-steps c = λ inside p most target ss are. ap (λ (t : PatchSimplification). t.steps) (simplified_by inside most target ss p are)

pub returns-clause-patch : goal.returns-clause-patch
returns-clause-patch c = λ inside p most target ss are. ap (λ (t : PatchSimplification). t.patch) (simplified_by inside most target ss p are)
