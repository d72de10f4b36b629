use Rattle.std.proofs.Common.{ap, ◌∙◌}
use Rattle.std.specs.List.{filter}
use Rattle.std.specs.Map.{values_of}
use Rattle.mesh_edits.proofs.Altered.{keyed_removed, others, values_removed}
use Rattle.mesh_edits.proofs.vertices.PatchVertices.remove.Goals as goal

pub invariant_of-self : goal.invariant_of-self
invariant_of-self c = keyed_removed c.args.u c.self.inside.by_name.entries c.remove.new.self.entries c.self.invariant c.remove.ensures.entries c.remove.ensures.ordered

pub returns : goal.returns
returns c =
    ap values_of c.remove.ensures.entries
    ∙ values_removed c.args.u c.self.inside.by_name.entries c.self.invariant.named c.self.invariant.ordered
    ∙ ap (filter (others c.args.u)) c.self.view_is
