use Rattle.std.proofs.Common.{◌∙◌, ap, not}
use Rattle.mesh_edits.proofs.Parts.{free_now}
use Rattle.mesh_edits.proofs.questions.FragmentMeshView.is_free.Goals as goal

pub returns : goal.returns
returns c = ap not c.has.ensures ∙ free_now c.self.inside c.self.invariant.parts c.args.self.now c.self.view_is c.args.v c.requires
