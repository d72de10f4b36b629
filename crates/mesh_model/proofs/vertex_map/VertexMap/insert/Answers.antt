use Rattle.std.proofs.Common.{ap, ◌∙◌}
use Rattle.std.specs.FinMap as finite
use Rattle.edit_steps.proofs.Vertices.{one_given}
use Rattle.mesh_model.proofs.vertex_map.VertexMap.insert.Goals as goal

pub returns-clause-ok : goal.returns-clause-ok
returns-clause-ok c =
    one_given c.self.inside.vertices.entries c.insert.new.self.entries c.args.v c.args.vertex c.in_ok-insert.ensures.updates.0
    ∙ ap (λ m. finite.insert m c.args.v c.args.vertex) c.self.view_is
