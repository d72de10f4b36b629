use Rattle.std.proofs.Common.{ap, sym, ◌∙◌}
use Rattle.std.specs.FinMap as finite
use Rattle.edit_steps.proofs.Vertices.{get_vertex}
use Rattle.mesh_model.proofs.vertex_map.VertexMap.get.Goals as goal

pub returns : goal.returns
returns c =
    c.get.ensures.value ∙ sym (get_vertex c.self.inside.vertices.entries c.args.v) ∙ ap (λ m. finite.get m c.args.v) c.self.view_is
