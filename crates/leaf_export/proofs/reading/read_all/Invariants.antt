use Rattle.std.proofs.Common.{◌≡◌}
use Rattle.oemm_shelf.specs.Shelves.{IsSame, Reads}
use Rattle.leaf_export.proofs.Gathering.{AreRead}
use Rattle.leaf_export.proofs.reading.read_all.Given as goal

abbrev pub invariant-loop-leaf : goal.invariant-loop-leaf
invariant-loop-leaf g l =
    let old = l.initial.shelf in
    let now = l.shelf in
    record {
      read : AreRead (g.B.Blobs.store old.blobs).content old.index old.versions l.leaf l.kept;
      same : IsSame old now;
      reads : Reads l.leaf (g.B.Blobs.store old.blobs) (g.B.Blobs.store now.blobs);
      faults : (g.B.Blobs.store now.blobs).faults ≡ (g.B.Blobs.store old.blobs).faults;
    }
