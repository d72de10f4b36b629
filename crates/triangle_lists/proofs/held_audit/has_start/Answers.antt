use Rattle.std.proofs.Common.{eqb}
use Rattle.triangle_lists.proofs.HeldRingless.{some_kept}
use Rattle.triangle_lists.proofs.held_audit.has_start.Goals as goal

pub returns : goal.returns
returns c = some_kept (λ t. eqb t.a c.args.v) c.args.sorted.now c.starting_at.result.now c.is_empty.result c.starting_at.ensures c.is_empty.ensures
