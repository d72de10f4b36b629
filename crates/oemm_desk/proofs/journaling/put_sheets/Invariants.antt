use Rattle.std.proofs.Common.{◌≡◌, take}
use Rattle.oemm_shelf.specs.Cached.{RoseBy}
use Rattle.oemm_shelf.specs.Shelves.{IsSame}
use Rattle.oemm_desk.specs.Commits.{CountsPuts, PutsSheets}
use Rattle.oemm_desk.proofs.journaling.put_sheets.Given as goal

abbrev pub invariant-loop-sheet : goal.invariant-loop-sheet
invariant-loop-sheet g l =
    let old = g.B.Blobs.store l.initial.shelf.blobs in
    let now = g.B.Blobs.store l.shelf.blobs in
    record {
      puts : PutsSheets l.number (take l.sheet-index l.sheets) old now;
      same : IsSame l.initial.shelf l.shelf;
      counts : CountsPuts l.sheet-index old now;
      all : RoseBy l.sheet-index old.puts now.puts;
      faults : now.faults ≡ old.faults;
    }
