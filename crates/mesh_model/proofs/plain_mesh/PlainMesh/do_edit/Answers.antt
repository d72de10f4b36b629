use Rattle.oemm_octree.specs.Octree.{is_inside}
use Rattle.mesh_model.proofs.Kept.{edit_kept}
use Rattle.mesh_model.proofs.plain_mesh.PlainMesh.do_edit.Goals as goal

pub returns-clause-keeps : goal.returns-clause-keeps
returns-clause-keeps c =
    edit_kept c.make_edit.result (is_inside c.args.area.now) c.args.self.now c.make_edit.new.self c.args.edit.now c.make_edit.ensures.mesh c.make_edit.ensures.err
