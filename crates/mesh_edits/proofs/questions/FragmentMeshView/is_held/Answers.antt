use Rattle.std.proofs.Common.{◌∙◌}
use Rattle.mesh_edits.proofs.Parts.{held_now}
use Rattle.mesh_edits.proofs.questions.FragmentMeshView.is_held.Goals as goal

pub returns : goal.returns
returns c = c.has.ensures ∙ held_now c.self.inside c.self.invariant.parts c.args.self.now c.self.view_is c.args.v
