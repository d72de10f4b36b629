use Rattle.std.proofs.Common.{ap, sym, ◌∙◌}
use Rattle.oemm_octree.specs.Octree.{is_inside}
use Rattle.mesh_data.specs.Edits.{is_done}
use Rattle.edit_steps.proofs.Passed.{move_passed}
use Rattle.patch_edits.specs.Edits.{moved_on}
use Rattle.patch_edits.specs.PatchMesh.{mesh_of}
use Rattle.mesh_edits.proofs.Replies.{if_kept, if_made}
use Rattle.mesh_edits.proofs.fragment.Fragment.edit_move.Goals as goal

pub do_move-requires-clause-free : goal.do_move-requires-clause-free
do_move-requires-clause-free c =
    let f = c.args.self.now in
    (move_passed (is_inside f.area) (mesh_of f.patch) c.args.v c.args.to (ap is_done (sym c.move_reply-reply.ensures) ∙ sym c.is_done.ensures ∙ c.if-is_done.true)).2

pub do_move-requires-clause-lands : goal.do_move-requires-clause-lands
do_move-requires-clause-lands c =
    let f = c.args.self.now in
    (move_passed (is_inside f.area) (mesh_of f.patch) c.args.v c.args.to (ap is_done (sym c.move_reply-reply.ensures) ∙ sym c.is_done.ensures ∙ c.if-is_done.true)).1

pub returns-then-is_done-clause-patch : goal.returns-then-is_done-clause-patch
returns-then-is_done-clause-patch c =
    let p = c.args.self.now.patch in
    if_made p (moved_on p c.args.v c.args.to) _ (is_done c.move_reply-reply.result) c.is_done.result c.is_done.ensures c.if-is_done.true c.do_move.ensures.patch

pub returns-else-is_done-clause-patch : goal.returns-else-is_done-clause-patch
returns-else-is_done-clause-patch c =
    let p = c.args.self.now.patch in
    if_kept p (moved_on p c.args.v c.args.to) (is_done c.move_reply-reply.result) c.is_done.result c.is_done.ensures c.if-is_done.false
