use Rattle.std.proofs.Common.{◌∙◌, ap}
use Rattle.oemm_octree.specs.Octree.{is_inside}
use Rattle.mesh_edits.specs.Fragments.{Fragmented}
use Rattle.mesh_edits.proofs.questions.FragmentMeshView.holds.Goals as goal

pub returns : goal.returns
returns c = c.holds.ensures ∙ ap (λ (f : Fragmented). is_inside f.area c.args.p.now) c.self.view_is
