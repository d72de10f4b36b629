use Rattle.mesh_items.proofs.Failures.{uses_more}
use Rattle.ply_reader.proofs.body.item_in.Goals as goal

pub returns-clause-uses : goal.returns-clause-uses
returns-clause-uses g c = uses_more _ _ _ _ _ _ _ _ c.in_ok-led_to.ensures.uses c.face_in.ensures.uses

pub returns-then-done-layout-clause-uses : goal.returns-then-done-layout-clause-uses
returns-then-done-layout-clause-uses g c = uses_more _ _ _ _ _ _ _ _ c.in_ok-led_to.ensures.uses c.vertex_in.ensures.uses
