use Rattle.std.proofs.Common.{◌≡◌, ◌-◌, [], length}
use Rattle.oemm_blobs.specs.Store.{IfTold}
use Rattle.oemm_shelf.specs.Opened.{entries_from}
use Rattle.oemm_shelf.specs.Shelves.{Reads}
use Rattle.oemm_shelf.specs.Shown.{AreEntries, CountLanes}
use Rattle.oemm_shelf.proofs.entries.read_most.Given as goal

abbrev pub invariant-loop-turn : goal.invariant-loop-turn
invariant-loop-turn g l =
    let old = g.B.Blobs.store l.initial.blobs in
    let now = g.B.Blobs.store l.blobs in
    record {
      told : IfTold old.content (λ m. entries_from l.index l.most [] m ≡ entries_from l.index (l.most - length l.entries.items) l.entries.items m);
      counted : CountLanes l.lanes.items l.entries.items;
      entries : AreEntries l.index l.entries.items;
      count : length l.entries.items ≡ l.turn;
      reads : Reads (length l.entries.items) old now;
      faults : now.faults ≡ old.faults;
    }
