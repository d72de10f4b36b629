use Rattle.std.proofs.Common.{◌≡◌, ◌≤◌, ◌<◌, ℕ, List, [], ◌∷◌, ◌++◌, length, Some, Ok, Err, sym, ap, ◌∙◌, subst, arith}
use Rattle.std.specs.List.{slice_get}
use Rattle.oemm_octree.specs.Leaves.{is_one_of}
use Rattle.mesh_data.specs.declared.edits.Entry.{Entry}
use Rattle.sheet_data.specs.declared.index.NumberedEntry.{NumberedEntry}
use Rattle.leaf_codec.specs.Entries.{KeepsEntryRules}
use Rattle.oemm_shelf.specs.Shelves.{AreRaised}
use Rattle.oemm_shelf.specs.Shown.{CountLanes}
use Rattle.oemm_desk.specs.Answered.{commit_fault}
use Rattle.oemm_desk.specs.Commits.{PutsCommit}
use Rattle.oemm_desk.specs.declared.fault.CommitFault.{CommitFault}
use Rattle.oemm_desk.specs.declared.fault.CommitFault.TheVariants as commit
use Rattle.oemm_desk.proofs.Lanes.{count_push, last_is}
use Rattle.oemm_desk.proofs.Ways.{puts_err, puts_nothing, puts_ok}
use Rattle.oemm_desk.proofs.journaling.journal_entry.Goals as goal

pub returns-in-Err-clause-puts : goal.returns-in-Err-clause-puts
returns-in-Err-clause-puts g c =
    puts_nothing (length c.args.journal.now) c.args.sheets.now c.args.entry (g.B.Blobs.store c.args.shelf.now.blobs) _

pub put_commit-requires-clause-rules : goal.put_commit-requires-clause-rules
put_commit-requires-clause-rules g c =
    let last : c.at-last.result.now ≡ c.args.entry = last_is c.args.journal.now c.push.new.self c.args.entry c.at-last.result.now c.len-number.result c.in_default.ensures.ok c.len-number.ensures c.at-last.ensures in
    subst (λ (x : ℕ × Entry). KeepsEntryRules (record { number = x.0; entry = x.1 }))
    (λ j. (sym c.len-number.ensures j, sym last j)) c.requires.rules

pub put_commit-requires-clause-core : goal.put_commit-requires-clause-core
put_commit-requires-clause-core g c = λ l on.
    let last : c.at-last.result.now ≡ c.args.entry = last_is c.args.journal.now c.push.new.self c.args.entry c.at-last.result.now c.len-number.result c.in_default.ensures.ok c.len-number.ensures c.at-last.ensures in
    c.requires.core l (ap (λ (e : Entry). is_one_of e.core l) (sym last) ∙ on)

pub count_task-requires-clause-lane : goal.count_task-requires-clause-lane
count_task-requires-clause-lane g c =
    let last : c.at-last.result.now ≡ c.args.entry = last_is c.args.journal.now c.push.new.self c.args.entry c.at-last.result.now c.len-number.result c.in_default.ensures.ok c.len-number.ensures c.at-last.ensures in
    omega (arith, ap (λ (e : Entry). e.task.lane) last, c.requires.rules.lane, c.requires.counted.0)

pub returns-in-Ok-clause-done : goal.returns-in-Ok-clause-done
returns-in-Ok-clause-done g c =
    let last : c.at-last.result.now ≡ c.args.entry = last_is c.args.journal.now c.push.new.self c.args.entry c.at-last.result.now c.len-number.result c.in_default.ensures.ok c.len-number.ensures c.at-last.ensures in (
      c.len-number.ensures,
      c.in_default.ensures.ok,
      subst (λ (x : ℕ × Entry). AreRaised x.1.core x.0 c.args.shelf.now.versions c.put_commit.new.shelf.versions)
          (λ j. (c.len-number.ensures j, last j)) c.in-Ok.ensures.raised,
    )

pub returns-in-Ok-clause-counted : goal.returns-in-Ok-clause-counted
returns-in-Ok-clause-counted g c =
    let last : c.at-last.result.now ≡ c.args.entry = last_is c.args.journal.now c.push.new.self c.args.entry c.at-last.result.now c.len-number.result c.in_default.ensures.ok c.len-number.ensures c.at-last.ensures in
    subst (CountLanes c.count_task.new.lanes.items) (sym c.in_default.ensures.ok)
    (subst (λ (e : Entry). CountLanes c.count_task.new.lanes.items (c.args.journal.now ++ e ∷ [])) last
    (count_push c.args.lanes.now.items c.count_task.new.lanes.items c.args.journal.now c.at-last.result.now c.requires.counted
    c.count_task.ensures.lanes c.count_task.ensures.one c.count_task.ensures.others))

pub returns-in-Ok-clause-puts : goal.returns-in-Ok-clause-puts
returns-in-Ok-clause-puts g c =
    let old = g.B.Blobs.store c.args.shelf.now.blobs in
    let new = g.B.Blobs.store c.put_commit.new.shelf.blobs in
    let last : c.at-last.result.now ≡ c.args.entry = last_is c.args.journal.now c.push.new.self c.args.entry c.at-last.result.now c.len-number.result c.in_default.ensures.ok c.len-number.ensures c.at-last.ensures in
    subst (λ (x : ℕ × Entry). PutsCommit {T = ℕ} {E = Entry × CommitFault} x.0 c.args.sheets.now x.1 old new (Ok c.len-number.result))
    (λ j. (c.len-number.ensures j, last j))
    (puts_ok c.len-number.result c.args.sheets.now c.at-last.result.now old new _ c.len-number.result c.in-Ok.ensures.puts)

pub returns-in-Err-put_commit-clause-puts : goal.returns-in-Err-put_commit-clause-puts
returns-in-Err-put_commit-clause-puts g c =
    let old = g.B.Blobs.store c.args.shelf.now.blobs in
    let new = g.B.Blobs.store c.put_commit.new.shelf.blobs in
    let last : c.at-last.result.now ≡ c.args.entry = last_is c.args.journal.now c.push.new.self c.args.entry c.at-last.result.now c.len-number.result c.in_default.ensures.ok c.len-number.ensures c.at-last.ensures in
    subst (λ (x : ℕ × Entry). PutsCommit {T = ℕ} {E = Entry × CommitFault} x.0 c.args.sheets.now x.1 old new (Err (c.take_last.result, c.into.result)))
    (λ j. (c.len-number.ensures j, last j))
    (puts_err c.len-number.result c.args.sheets.now c.at-last.result.now old new c.in-Err-put_commit.fail _ c.in-Err-put_commit.ensures.puts)
