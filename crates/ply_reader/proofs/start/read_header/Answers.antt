use Rattle.mesh_items.proofs.Failures.{uses_more}
use Rattle.ply_reader.proofs.start.read_header.Goals as goal

pub returns-clause-uses : goal.returns-clause-uses
returns-clause-uses g c = uses_more _ _ _ _ _ _ _ _ c.in_ok-alloc.ensures.uses c.rest_of_header.ensures.uses
