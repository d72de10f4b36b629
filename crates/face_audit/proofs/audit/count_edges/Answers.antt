use Rattle.std.proofs.Common.{arith}
use Rattle.triangle_lists.proofs.EdgeCounts.{edges_balance}
use Rattle.face_audit.proofs.Ranges.{border_fits}
use Rattle.face_audit.proofs.audit.count_edges.Goals as goal

pub overflow_add-result : goal.overflow_add-result
overflow_add-result c = omega (arith, c.requires.border, c.requires.few, border_fits c.args.faces.now)

pub returns-clause-count : goal.returns-clause-count
returns-clause-count c = omega (arith, c.requires.border, edges_balance c.args.faces.now c.requires.proper c.requires.once)

pub returns-clause-few : goal.returns-clause-few
returns-clause-few c = omega (arith, c.requires.border, c.requires.few, border_fits c.args.faces.now)
