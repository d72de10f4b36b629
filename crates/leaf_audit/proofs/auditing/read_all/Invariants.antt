use Rattle.std.proofs.Common.{◌≡◌, ◌≤◌, ◌*◌, ◌^◌, length}
use Rattle.oemm_shelf.specs.Shelves.{IsSame, Reads}
use Rattle.leaf_audit.proofs.Reading.{AreRead}
use Rattle.leaf_audit.proofs.auditing.read_all.Given as goal

abbrev pub invariant-loop-leaf : goal.invariant-loop-leaf
invariant-loop-leaf g l =
    let old = l.initial.shelf in
    let now = l.shelf in
    record {
      read : AreRead (g.B.Blobs.store old.blobs).content old.index old.versions l.leaf l.tally;
      same : IsSame old now;
      reads : Reads l.leaf (g.B.Blobs.store old.blobs) (g.B.Blobs.store now.blobs);
      names : length l.tally.times.items ≡ old.index.vertices;
      vertices : l.tally.vertices ≤ l.leaf * 2 ^ 26;
      count : l.tally.count ≤ l.leaf * 2 ^ 26;
      faults : (g.B.Blobs.store now.blobs).faults ≡ (g.B.Blobs.store old.blobs).faults;
    }
