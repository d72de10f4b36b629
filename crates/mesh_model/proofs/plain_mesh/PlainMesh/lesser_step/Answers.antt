use Rattle.std.proofs.Common.{◌∙◌, sym}
use Rattle.oemm_octree.specs.Octree.{is_inside}
use Rattle.edit_steps.proofs.Tried.{unbeaten}
use Rattle.mesh_model.proofs.plain_mesh.PlainMesh.lesser_step.Goals as goal

pub returns-then-not-beats : goal.returns-then-not-beats
returns-then-not-beats c =
    unbeaten (is_inside c.args.area.now) c.args.self.now c.args.max c.args.u c.args.v c.args.best c.step_at-step.result c.step_at-step.ensures (sym c.beats.ensures ∙ c.if-not-beats.true)
