use Rattle.std.proofs.Common.{ap, sym, ◌∙◌, to_z, of_z}
use Rattle.std.specs.Int.{w128}
use Rattle.oemm_octree.specs.Octree.{is_inside}
use Rattle.mesh_data.specs.Edits.{is_done}
use Rattle.edit_steps.proofs.Passed.{collapse_passed_by}
use Rattle.patch_edits.specs.PatchMesh.{cost_on, mesh_of}
use Rattle.mesh_edits.proofs.fragment.Fragment.edit_collapse.Goals as goal

pub do_collapse-requires : goal.do_collapse-requires
do_collapse-requires c =
    let f = c.args.self.now in
    let u = c.args.u in
    let v = c.args.v in
    collapse_passed_by (cost_on f.patch u v) (is_inside f.area) (mesh_of f.patch) u v (to_z w128 (of_z w128 c.args.max)) (ap is_done (sym c.in_ok-reply.ensures.reply) ∙ sym c.is_done.ensures ∙ c.if-is_done.true)
