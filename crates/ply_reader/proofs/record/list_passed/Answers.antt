use Rattle.mesh_items.proofs.Failures.{uses_more}
use Rattle.ply_reader.proofs.record.list_passed.Goals as goal

pub returns-clause-uses : goal.returns-clause-uses
returns-clause-uses g c = uses_more _ _ _ _ _ _ _ _ c.in_ok-n.ensures.uses c.pass.ensures.uses
