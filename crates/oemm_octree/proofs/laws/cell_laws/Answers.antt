use Rattle.oemm_octree.proofs.CellParts.{holds_tells, holds_from, meets_has, has_meets}
use Rattle.oemm_octree.proofs.laws.cell_laws.Goals as goal

pub returns-clause-holds : goal.returns-clause-holds
returns-clause-holds c = λ cell p on. (holds_tells cell p on, holds_from cell p on)

pub returns-clause-meets : goal.returns-clause-meets
returns-clause-meets c = λ cell low high on_low on_high. (
  meets_has cell low high on_low on_high,
  λ found. has_meets cell low high found.0 on_low on_high found.1 found.2 found.3,
)
