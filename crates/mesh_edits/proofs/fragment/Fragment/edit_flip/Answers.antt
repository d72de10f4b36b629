use Rattle.std.proofs.Common.{ap, sym, ◌∙◌}
use Rattle.oemm_octree.specs.Octree.{is_inside}
use Rattle.mesh_data.specs.Edits.{is_done}
use Rattle.edit_steps.proofs.Passed.{flip_passed}
use Rattle.patch_edits.specs.Edits.{flipped_on}
use Rattle.patch_edits.specs.PatchMesh.{mesh_of}
use Rattle.mesh_edits.proofs.Replies.{if_kept, if_made}
use Rattle.mesh_edits.proofs.fragment.Fragment.edit_flip.Goals as goal

pub do_flip-requires : goal.do_flip-requires
do_flip-requires c =
    let f = c.args.self.now in
    flip_passed (is_inside f.area) (mesh_of f.patch) c.args.a c.args.b (ap is_done (sym c.flip_reply-reply.ensures) ∙ sym c.is_done.ensures ∙ c.if-is_done.true)

pub returns-then-is_done-clause-patch : goal.returns-then-is_done-clause-patch
returns-then-is_done-clause-patch c =
    let p = c.args.self.now.patch in
    if_made p (flipped_on p c.args.a c.args.b) _ (is_done c.flip_reply-reply.result) c.is_done.result c.is_done.ensures c.if-is_done.true c.do_flip.ensures.patch

pub returns-else-is_done-clause-patch : goal.returns-else-is_done-clause-patch
returns-else-is_done-clause-patch c =
    let p = c.args.self.now.patch in
    if_kept p (flipped_on p c.args.a c.args.b) (is_done c.flip_reply-reply.result) c.is_done.result c.is_done.ensures c.if-is_done.false
