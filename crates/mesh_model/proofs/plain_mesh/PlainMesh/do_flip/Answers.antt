use Rattle.std.proofs.Common.{◌∙◌, sym}
use Rattle.oemm_octree.specs.Octree.{is_inside}
use Rattle.edit_steps.proofs.Passed.{ends_of_flip}
use Rattle.mesh_model.proofs.plain_mesh.PlainMesh.do_flip.Goals as goal

pub flip-requires-clause-ends : goal.flip-requires-clause-ends
flip-requires-clause-ends c x y ends =
    ends_of_flip (is_inside c.args.area.now) c.args.self.now c.args.a c.args.b x y (sym c.flip_reply-reply.ensures ∙ c.in-Done.is) ends
