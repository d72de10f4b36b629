use Rattle.mesh_model.proofs.Kept.{task_kept}
use Rattle.mesh_model.proofs.plain_mesh.PlainMesh.do_task.Goals as goal

pub returns-clause-keeps : goal.returns-clause-keeps
returns-clause-keeps c =
    task_kept c.make_task.result c.args.cells.now c.args.limit c.args.self.now c.make_task.new.self c.args.task.now c.make_task.ensures.mesh c.make_task.ensures.err
