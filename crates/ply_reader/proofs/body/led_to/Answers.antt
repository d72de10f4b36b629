use Rattle.mesh_items.proofs.Failures.{uses_more}
use Rattle.ply_reader.proofs.body.led_to.Goals as goal

pub returns-clause-uses : goal.returns-clause-uses
returns-clause-uses g c = uses_more _ _ _ _ _ _ _ _ c.in_ok-passed_if.ensures.uses c.passed_if-2.ensures.uses
