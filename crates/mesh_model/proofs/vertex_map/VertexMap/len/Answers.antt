use Rattle.std.proofs.Common.{ap, sym, ◌∙◌, length}
use Rattle.std.specs.FinMap as finite
use Rattle.edit_steps.proofs.Vertices.{entries-from_ordered}
use Rattle.mesh_model.proofs.vertex_map.VertexMap.len.Goals as goal

pub returns : goal.returns
returns c =
    let es = c.self.inside.vertices.entries in
    c.len.ensures.len ∙ sym (finite.len-entries (finite.from_entries es) ∙ ap length (entries-from_ordered es c.len.ensures.ordered)) ∙ ap finite.len c.self.view_is
