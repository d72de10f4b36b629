use Rattle.std.proofs.Common.{ℕ, length}
use Rattle.mesh_sheets.specs.Written.{sheets_of}
use Rattle.oemm_desk.specs.Answered.{finished_entry}
use Rattle.oemm_desk.proofs.Later.{later_commit}
use Rattle.oemm_desk.proofs.Safe.{commit_frame, commit_grew, commit_kept, commit_mesh, commit_safe}
use Rattle.oemm_desk.proofs.Ways.{commit_told}
use Rattle.oemm_desk.proofs.desk.Desk.commit.Goals as goal

pub returns-clause-changes : goal.returns-clause-changes
returns-clause-changes g c =
    let was = c.args.self.now in
    commit_told (length was.journal) (sheets_of was.shelf.index.cells c.args.done.patch) (finished_entry c.args.done)
    (g.B.Blobs.store was.shelf.blobs) (g.B.Blobs.store c.commit_done.new.self.shelf.blobs) c.commit_done.result c.commit_done.ensures.puts

pub returns-clause-later : goal.returns-clause-later
returns-clause-later g c =
    let was = c.args.self.now in
    let is = c.commit_done.new.self in
    let r = c.commit_done.result in
    let step = c.commit_done.ensures in
    later_commit (sheets_of was.shelf.index.cells c.args.done.patch) (finished_entry c.args.done)
    (g.B.Blobs.store was.shelf.blobs) (g.B.Blobs.store is.shelf.blobs) was is r step.index
    (commit_grew c.args.done was is r step.answers) (commit_kept c.args.done was is r step.answers) step.cause.kept step.puts

pub returns-clause-safe : goal.returns-clause-safe
returns-clause-safe g c = λ b sound finished.
    commit_safe g.B.Blobs.store b c.args.self.now c.commit_done.new.self c.args.done c.commit_done.result
    c.commit_done.ensures.answers c.commit_done.ensures.puts sound finished

pub returns-clause-mesh : goal.returns-clause-mesh
returns-clause-mesh g c = λ b sound finished.
    let was = c.args.self.now in
    let is = c.commit_done.new.self in
    let r = c.commit_done.result in
    commit_mesh b was.shelf.index (finished_entry c.args.done) was.journal is.journal (g.B.Blobs.store was.shelf.blobs) r
    (commit_grew c.args.done was is r c.commit_done.ensures.answers) sound

pub returns-clause-frame : goal.returns-clause-frame
returns-clause-frame g c = λ b sound finished other apart.
    let was = c.args.self.now in
    let is = c.commit_done.new.self in
    let r = c.commit_done.result in
    commit_frame b was.shelf.index c.args.done was.journal is.journal (g.B.Blobs.store was.shelf.blobs) r
    (commit_grew c.args.done was is r c.commit_done.ensures.answers) (commit_kept c.args.done was is r c.commit_done.ensures.answers)
    sound finished other apart
