use Rattle.std.proofs.Common.{ap, sym, ◌∙◌, map}
use Rattle.std.specs.FinMap as finite
use Rattle.std.specs.Map.{values_of}
use Rattle.edit_steps.proofs.Vertices.{Entries, entries-from_ordered}
use Rattle.mesh_model.proofs.vertex_map.VertexMap.points.Goals as goal

pub returns : goal.returns
returns c =
    let es = c.self.inside.vertices.entries in
    c.from_vec.ensures ∙ c.in_ok-points.ensures.points
    ∙ ap (λ (fs : Entries). map (λ x. x.point) (values_of fs)) (sym (entries-from_ordered es c.in_ok-points.ensures.ordered) ∙ ap finite.entries c.self.view_is)
