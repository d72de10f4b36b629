use Rattle.std.proofs.Common.{◌≡◌, ◌≤◌, ◌<◌, ℕ, true, List, [], ◌∷◌, ◌++◌, length, Option, None, Ok, Err, sym, ap, ◌∙◌, subst, arith}
use Rattle.oemm_limits.specs.declared.TheConstants.{MOST_TASKS}
use Rattle.oemm_octree.specs.Leaves.{AreBelow, is_one_of}
use Rattle.checkout_table.specs.Holders.{HoldersSet}
use Rattle.mesh_data.specs.declared.edits.Entry.{Entry}
use Rattle.sheet_data.specs.declared.index.IndexSheet.{IndexSheet}
use Rattle.sheet_data.specs.declared.sheets.LeafSheet.{LeafSheet}
use Rattle.stored_mesh.specs.Versions.{next_of}
use Rattle.oemm_shelf.specs.Shelves.{AreRaised}
use Rattle.oemm_desk.specs.Answered.{finished_entry}
use Rattle.oemm_desk.specs.Commits.{PutsCommit}
use Rattle.oemm_desk.specs.Desks.{DeskState, IsDesk}
use Rattle.oemm_desk.specs.declared.fault.CommitFault.{CommitFault}
use Rattle.oemm_desk.specs.declared.fault.Finished.{Finished}
use Rattle.oemm_desk.proofs.Going.{desk_more}
use Rattle.oemm_desk.proofs.Lanes.{last_is}
use Rattle.oemm_desk.proofs.Ways.{puts_err, puts_ok}
use Rattle.oemm_desk.proofs.desk.Desk.commit_sheets.Goals as goal

pub release-requires : goal.release-requires
release-requires g c = λ l on.
    let desk : IsDesk c.self.inside.shelf.index c.self.inside.shelf.versions c.self.inside.table c.self.inside.journal = c.self.invariant.0 in
    let last : c.at.result.now ≡ finished_entry c.args.done =
    last_is c.self.inside.journal c.journal_entry.new.journal c.parted-entry.result.0 c.at.result.now c.in-Ok.number
    c.in-Ok.ensures.done.1 c.in-Ok.ensures.done.0 c.at.ensures ∙ c.parted-entry.ensures.entry in
    let cells : length c.self.inside.shelf.index.cells ≡ length c.args.self.now.shelf.index.cells = λ j. length (c.self.view_is j).shelf.index.cells in
    let below = c.requires.below l (ap (λ (e : Entry). is_one_of e.core l) (sym last) ∙ on) in
    omega (arith, below, desk.places, cells)

pub invariant_of-self : goal.invariant_of-self
invariant_of-self g c =
    let in_shelf = c.self.inside.shelf in
    let journal = c.self.inside.journal in
    let done = c.args.done in
    let e = finished_entry done in
    let desk : IsDesk in_shelf.index in_shelf.versions c.self.inside.table journal = c.self.invariant.0 in
    let is : c.parted-entry.result.0 ≡ e = c.parted-entry.ensures.entry in
    let raised : AreRaised done.core (length journal) in_shelf.versions c.journal_entry.new.shelf.versions =
    subst (λ (x : Entry). AreRaised x.core (length journal) in_shelf.versions c.journal_entry.new.shelf.versions) is c.in-Ok.ensures.done.2 in
    let grew : c.journal_entry.new.journal ≡ journal ++ e ∷ [] = c.in-Ok.ensures.done.1 ∙ ap (λ (x : Entry). journal ++ x ∷ []) is in
    let room : length journal < MOST_TASKS = subst (λ (d : DeskState g.row.B.Denot). length d.journal < MOST_TASKS) (sym c.self.view_is) c.requires.may.room in
    let turn : done.task.number ≡ next_of journal done.task.lane = subst (λ (d : DeskState g.row.B.Denot). done.task.number ≡ next_of d.journal done.task.lane) (sym c.self.view_is) c.requires.may.turn in
    let below : AreBelow (length in_shelf.index.cells) done.core = subst (λ (d : DeskState g.row.B.Denot). AreBelow (length d.shelf.index.cells) done.core) (sym c.self.view_is) c.requires.below in
    let more = desk_more in_shelf.index in_shelf.versions c.journal_entry.new.shelf.versions c.self.inside.table c.release.new.self journal e
    desk raised c.release.ensures.leaves room turn c.requires.rules.lane below in (
      subst (λ (x : IndexSheet × List Entry). IsDesk x.0 c.journal_entry.new.shelf.versions c.release.new.self x.1)
          (λ j. (sym c.in-Ok.ensures.index j, sym grew j)) more,
      c.in-Ok.ensures.counted,
    )

pub returns-in-Ok-clause-answers : goal.returns-in-Ok-clause-answers
returns-in-Ok-clause-answers g c =
    let last : c.at.result.now ≡ finished_entry c.args.done =
    last_is c.self.inside.journal c.journal_entry.new.journal c.parted-entry.result.0 c.at.result.now c.in-Ok.number
    c.in-Ok.ensures.done.1 c.in-Ok.ensures.done.0 c.at.ensures ∙ c.parted-entry.ensures.entry in (
      record {
        may = c.requires.may;
        number = c.in-Ok.ensures.done.0 ∙ (λ j. length (c.self.view_is j).journal);
        journal = c.in-Ok.ensures.done.1 ∙ (λ j. (c.self.view_is j).journal ++ c.parted-entry.ensures.entry j ∷ []);
      },
      subst (λ (x : List ℕ × List (Option ℕ)). HoldersSet None x.0 x.1 c.release.new.self)
          (λ j. ((last j).core, (c.self.view_is j).holders)) c.release.ensures,
    )

pub returns-in-Ok-clause-puts : goal.returns-in-Ok-clause-puts
returns-in-Ok-clause-puts g c =
    let store = g.B.Blobs.store in
    let new = store c.journal_entry.new.shelf.blobs in
    subst (λ (x : DeskState g.row.B.Denot × List LeafSheet × Entry). PutsCommit {T = ℕ} {E = Finished × CommitFault} (length x.0.journal) x.1 x.2 (store x.0.shelf.blobs) new (Ok c.in-Ok.number))
    (λ j. (c.self.view_is j, c.slice.ensures j, c.parted-entry.ensures.entry j))
    (puts_ok (length c.self.inside.journal) c.slice.result.now c.parted-entry.result.0 (store c.self.inside.shelf.blobs) new
    c.in-Ok.number c.in-Ok.number c.in-Ok.ensures.puts)

pub returns-in-Err-clause-puts : goal.returns-in-Err-clause-puts
returns-in-Err-clause-puts g c =
    let store = g.B.Blobs.store in
    let new = store c.journal_entry.new.shelf.blobs in
    subst (λ (x : DeskState g.row.B.Denot × List LeafSheet × Entry). PutsCommit {T = ℕ} {E = Finished × CommitFault} (length x.0.journal) x.1 x.2 (store x.0.shelf.blobs) new (Err (c.joined.result, c.in-Err.fault)))
    (λ j. (c.self.view_is j, c.slice.ensures j, c.parted-entry.ensures.entry j))
    (puts_err (length c.self.inside.journal) c.slice.result.now c.parted-entry.result.0 (store c.self.inside.shelf.blobs) new
    (c.in-Err.entry, c.in-Err.fault) (c.joined.result, c.in-Err.fault) c.in-Err.ensures.puts)
