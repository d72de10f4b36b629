use Rattle.std.proofs.Common.{◌≡◌, ◌<◌, ℕ, true, List, [], ◌∷◌, ◌++◌, length, Ok, Err, refl, sym, ap, ◌∙◌, subst}
use Rattle.std.proofs.lemmas.Bool.{false≢true}
use Rattle.oemm_limits.specs.declared.TheConstants.{MOST_TASKS}
use Rattle.oemm_octree.specs.Leaves.{AreBelow}
use Rattle.mesh_data.specs.declared.edits.Edit.{Edit}
use Rattle.mesh_data.specs.declared.edits.Entry.{Entry}
use Rattle.mesh_data.specs.Work.{wide_entry}
use Rattle.sheet_data.specs.declared.index.IndexSheet.{IndexSheet}
use Rattle.stored_mesh.specs.Versions.{next_of}
use Rattle.oemm_desk.specs.Commits.{PutsCommit}
use Rattle.oemm_desk.specs.Desks.{DeskState, IsDesk}
use Rattle.oemm_desk.specs.declared.fault.CommitFault.{CommitFault}
use Rattle.oemm_desk.proofs.Going.{desk_more}
use Rattle.oemm_desk.proofs.Ways.{puts_err, puts_ok}
use Rattle.oemm_desk.proofs.desk.Desk.journal_task.Goals.{in-Ok, in-Err}
use Rattle.oemm_desk.proofs.desk.Desk.journal_task.Goals as goal

pub invariant_of-self : goal.invariant_of-self
invariant_of-self g c =
    let in_shelf = c.self.inside.shelf in
    let new_shelf = c.journal_entry.new.shelf in
    let table = c.self.inside.table in
    let journal = c.self.inside.journal in
    let task = c.args.task in
    let made : Entry = record { task = task; wide = true; replies = c.new.result; core = c.new-2.result } in
    let desk : IsDesk in_shelf.index in_shelf.versions table journal = c.self.invariant.0 in
    let room : length journal < MOST_TASKS = subst (λ (d : DeskState g.row.B.Denot). length d.journal < MOST_TASKS) (sym c.self.view_is) c.requires.may.room in
    let turn : task.number ≡ next_of journal task.lane = subst (λ (d : DeskState g.row.B.Denot). task.number ≡ next_of d.journal task.lane) (sym c.self.view_is) c.requires.may.turn in
    let below : AreBelow (length in_shelf.index.cells) made.core = subst (AreBelow (length in_shelf.index.cells)) (sym c.new-2.ensures) (λ l on. absurd (false≢true on)) in
    elim c.match-journal_entry.branch [
      | in-Ok w ↦ (
        subst (λ (x : IndexSheet × List Entry). IsDesk x.0 new_shelf.versions table x.1)
            (λ j. (sym w.in-Ok.ensures.index j, sym w.in-Ok.ensures.done.1 j))
            (desk_more in_shelf.index in_shelf.versions new_shelf.versions table table journal made desk
            w.in-Ok.ensures.done.2 refl room turn c.requires.rules.lane below),
        w.in-Ok.ensures.counted,
      )
      | in-Err w ↦ (
        subst (λ (x : IndexSheet × List ℕ × List Entry). IsDesk x.0 x.1 table x.2)
            (λ j. (sym w.in-Err.ensures.index j, sym w.in-Err.ensures.refused.2 j, sym w.in-Err.ensures.refused.1 j)) desk,
        w.in-Err.ensures.counted,
      )
    ]

pub returns-clause-puts : goal.returns-clause-puts
returns-clause-puts g c =
    let store = g.B.Blobs.store in
    let new = store c.journal_entry.new.shelf.blobs in
    let journal = c.self.inside.journal in
    let old = store c.self.inside.shelf.blobs in
    let made : Entry = record { task = c.args.task; wide = true; replies = c.new.result; core = c.new-2.result } in
    let is : made ≡ wide_entry c.args.task = λ j. record { task = c.args.task; wide = true; replies = c.new.ensures j; core = c.new-2.ensures j } in
    elim c.match-journal_entry.branch [
      | in-Ok w ↦ rw w.result-is
          (subst (λ (x : DeskState g.row.B.Denot × Entry). PutsCommit {T = ℕ} {E = List Edit × CommitFault} (length x.0.journal) [] x.1 (store x.0.shelf.blobs) new (Ok w.in-Ok.number))
          (λ j. (c.self.view_is j, is j))
          (puts_ok (length journal) [] made old new w.in-Ok.number w.in-Ok.number w.in-Ok.ensures.puts))
      | in-Err w ↦ rw w.result-is
          (subst (λ (x : DeskState g.row.B.Denot × Entry). PutsCommit {T = ℕ} {E = List Edit × CommitFault} (length x.0.journal) [] x.1 (store x.0.shelf.blobs) new (Err (w.in-Err.entry.task.edits, w.in-Err.fault)))
          (λ j. (c.self.view_is j, is j))
          (puts_err (length journal) [] made old new (w.in-Err.entry, w.in-Err.fault) (w.in-Err.entry.task.edits, w.in-Err.fault) w.in-Err.ensures.puts))
    ]
