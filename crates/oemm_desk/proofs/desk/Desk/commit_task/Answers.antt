use Rattle.std.proofs.Common.{[], length}
use Rattle.mesh_data.specs.Work.{wide_entry}
use Rattle.oemm_desk.proofs.Ways.{puts_nothing}
use Rattle.oemm_desk.proofs.desk.Desk.commit_task.Goals as goal

pub returns-in-Some-clause-puts : goal.returns-in-Some-clause-puts
returns-in-Some-clause-puts g c =
    puts_nothing (length c.args.self.now.journal) [] (wide_entry c.args.task) (g.B.Blobs.store c.args.self.now.shelf.blobs) _
