use Rattle.std.proofs.Common.{◌≡◌, ℕ, All, List, length, sym, ap, ◌∙◌, subst}
use Rattle.oemm_octree.specs.Leaves.{AreTiles, is_one_of}
use Rattle.oemm_octree.specs.declared.cells.Cell.{Cell}
use Rattle.oemm_octree.proofs.CoreHomes.{core_below}
use Rattle.leaf_codec.specs.Sheets.{KeepsSheetRules}
use Rattle.mesh_sheets.specs.Written.{sheets_of}
use Rattle.store_spelling.proofs.WrittenRules.{written_keep}
use Rattle.oemm_desk.specs.Answered.{finished_entry}
use Rattle.oemm_desk.proofs.Ways.{puts_nothing}
use Rattle.oemm_desk.proofs.desk.Desk.commit_done.Goals as goal

pub returns-in-Some-clause-puts : goal.returns-in-Some-clause-puts
returns-in-Some-clause-puts g c =
    puts_nothing (length c.args.self.now.journal) (sheets_of c.args.self.now.shelf.index.cells c.args.done.patch)
    (finished_entry c.args.done) (g.B.Blobs.store c.args.self.now.shelf.blobs) _

pub returns-in_default-sheets_for-clause-puts : goal.returns-in_default-sheets_for-clause-puts
returns-in_default-sheets_for-clause-puts g c =
    puts_nothing (length c.args.self.now.journal) (sheets_of c.args.self.now.shelf.index.cells c.args.done.patch)
    (finished_entry c.args.done) (g.B.Blobs.store c.args.self.now.shelf.blobs) _

pub commit_sheets-requires-clause-below : goal.commit_sheets-requires-clause-below
commit_sheets-requires-clause-below g c = λ l on.
    core_below c.args.self.now.shelf.index.cells c.args.done.task.low c.args.done.task.high l
    (ap (λ (ls : List ℕ). is_one_of ls l) (sym c.requires.corners) ∙ on)

pub commit_sheets-requires-clause-sheet_rules : goal.commit_sheets-requires-clause-sheet_rules
commit_sheets-requires-clause-sheet_rules g c =
    let now = c.args.self.now.shelf.index.cells in
    let done = c.args.done in
    let cells : c.cells.result.now ≡ now = c.cells.ensures.cells ∙ (λ j. (c.self.view_is j).shelf.index.cells) in
    subst (All KeepsSheetRules) (sym (c.in-Ok.ensures.sheets ∙ ap (λ (cs : List Cell). sheets_of cs done.patch) cells))
    (written_keep now done.core done.patch (subst AreTiles cells c.cells.ensures.tiles)
    (λ l on. core_below now done.task.low done.task.high l (ap (λ (ls : List ℕ). is_one_of ls l) (sym c.requires.corners) ∙ on))
    c.requires.formed)
