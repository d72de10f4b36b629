use Rattle.std.proofs.Common.{◌∙◌, sym}
use Rattle.oemm_octree.specs.Octree.{is_inside}
use Rattle.mesh_data.specs.Edits.{cost}
use Rattle.edit_steps.proofs.Lines.{collapse_by_pair, collapse_by_link}
use Rattle.mesh_model.proofs.plain_mesh.PlainMesh.collapse_reply.Goals as goal

pub returns-in-Some-clause-reply : goal.returns-in-Some-clause-reply
returns-in-Some-clause-reply c =
    sym (collapse_by_pair (cost c.args.self.now c.args.u c.args.v) (is_inside c.args.area.now) c.args.self.now c.args.u c.args.v c.args.max c.in-Some.reply (sym c.pair_refusal.ensures ∙ c.in-Some.is))

pub returns-in-Some-2-clause-reply : goal.returns-in-Some-2-clause-reply
returns-in-Some-2-clause-reply c =
    sym (collapse_by_link (cost c.args.self.now c.args.u c.args.v) (is_inside c.args.area.now) c.args.self.now c.args.u c.args.v c.args.max c.in-Some-2.reply (sym c.in_default.ensures) (sym c.in_ok-reply.ensures ∙ c.in-Some-2.is))
