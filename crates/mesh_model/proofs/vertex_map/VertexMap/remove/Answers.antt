use Rattle.std.proofs.Common.{ap, ◌∙◌}
use Rattle.std.specs.FinMap as finite
use Rattle.edit_steps.proofs.Vertices.{one_removed}
use Rattle.mesh_model.proofs.vertex_map.VertexMap.remove.Goals as goal

pub returns : goal.returns
returns c =
    one_removed c.self.inside.vertices.entries c.remove.new.self.entries c.args.v c.remove.ensures.updates.0
    ∙ ap (λ m. finite.remove m c.args.v) c.self.view_is
