use Rattle.std.proofs.Common.{◌∙◌, ap, sym, to_z, of_z}
use Rattle.std.specs.Int.{w128}
use Rattle.mesh_data.specs.declared.edits.Edit.TheVariants.{Collapse}
use Rattle.mesh_data.specs.declared.edits.Reply.{Reply}
use Rattle.mesh_data.specs.Edits.{after}
use Rattle.oemm_octree.specs.Octree.{is_inside}
use Rattle.edit_steps.proofs.Passed.{collapse_kept}
use Rattle.mesh_model.proofs.plain_mesh.PlainMesh.do_collapse.Goals as goal
use Rattle.mesh_model.proofs.plain_mesh.PlainMesh.do_collapse.Goals.{in-DoneAt+in_ok-collapse, in_default}

pub returns-clause-mesh : goal.returns-clause-mesh
returns-clause-mesh c =
    let m = c.args.self.now in
    elim c.match-reply.branch [
      | in-DoneAt+in_ok-collapse w ↦ w.self-is ∙ w.in_ok-collapse.ensures.ok ∙ ap (λ (r : Reply). after m (Collapse c.args.u c.args.v c.args.max) r) (sym w.in-DoneAt.is)
      | in_default w ↦ w.self-is ∙ collapse_kept (is_inside c.args.area.now) m c.args.u c.args.v (to_z w128 (of_z w128 c.args.max)) c.in_ok-reply.reply c.in_ok-reply.ensures.reply w.in_default.not-DoneAt
    ]
