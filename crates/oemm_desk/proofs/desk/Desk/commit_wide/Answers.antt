use Rattle.std.proofs.Common.{ℕ, ◌<◌, [], length, sym, subst}
use Rattle.oemm_octree.specs.Octree.{core_of}
use Rattle.mesh_data.specs.declared.edits.Task.{Task}
use Rattle.mesh_data.specs.Work.{wide_entry}
use Rattle.oemm_desk.specs.Commits.{CommitsSafely}
use Rattle.oemm_desk.proofs.Later.{later_commit}
use Rattle.oemm_desk.proofs.Safe.{commit_wide_safe, wide_grew, wide_kept, wide_mesh}
use Rattle.oemm_desk.proofs.Ways.{commit_told}
use Rattle.oemm_desk.proofs.desk.Desk.commit_wide.Goals as goal

pub returns-clause-changes : goal.returns-clause-changes
returns-clause-changes g c =
    let was = c.args.self.now in
    commit_told (length was.journal) [] (wide_entry c.task_of-task.result) (g.B.Blobs.store was.shelf.blobs)
    (g.B.Blobs.store c.commit_task.new.self.shelf.blobs) c.commit_task.result c.commit_task.ensures.puts

pub returns-clause-later : goal.returns-clause-later
returns-clause-later g c =
    let was = c.args.self.now in
    let is = c.commit_task.new.self in
    let task = c.task_of-task.result in
    let r = c.commit_task.result in
    let step = c.commit_task.ensures in
    later_commit [] (wide_entry task) (g.B.Blobs.store was.shelf.blobs) (g.B.Blobs.store is.shelf.blobs) was is r step.index
    (wide_grew task was is r step.answers) (wide_kept task was is r step.answers) step.cause.kept step.puts

pub returns-clause-safe : goal.returns-clause-safe
returns-clause-safe g c = λ b sound.
    let was = c.args.self.now in
    let is = c.commit_task.new.self in
    let task = c.task_of-task.result in
    let r = c.commit_task.result in
    let step = c.commit_task.ensures in
    let wide = subst (λ (t : Task). was.shelf.index.core < length (core_of was.shelf.index.cells t.low t.high)) (sym c.task_of-task.ensures) c.requires.wide in
    subst (λ (t : Task). CommitsSafely b was.shelf.index (wide_entry t) was.journal is.journal (g.B.Blobs.store was.shelf.blobs) (g.B.Blobs.store is.shelf.blobs) r)
    c.task_of-task.ensures (commit_wide_safe g.B.Blobs.store b was is task r step.answers step.puts wide sound)

pub returns-clause-mesh : goal.returns-clause-mesh
returns-clause-mesh g c = λ b sound.
    let was = c.args.self.now in
    let is = c.commit_task.new.self in
    let task = c.task_of-task.result in
    let r = c.commit_task.result in
    let step = c.commit_task.ensures in
    let wide = subst (λ (t : Task). was.shelf.index.core < length (core_of was.shelf.index.cells t.low t.high)) (sym c.task_of-task.ensures) c.requires.wide in
    wide_mesh b was.shelf.index task was.journal is.journal (g.B.Blobs.store was.shelf.blobs) r wide
    (wide_grew task was is r step.answers) (wide_kept task was is r step.answers) sound
