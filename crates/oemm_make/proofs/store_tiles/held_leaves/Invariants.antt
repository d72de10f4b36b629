use Rattle.std.proofs.Common.{◌≡◌}
use Rattle.oemm_octree.specs.Leaves.{AreBelow}
use Rattle.oemm_shelf.specs.Shelves.{IsSame, Reads}
use Rattle.oemm_make.proofs.HeldLeaves.{Splits}
use Rattle.oemm_make.proofs.store_tiles.held_leaves.Given as goal

abbrev pub invariant-loop-leaf : goal.invariant-loop-leaf
invariant-loop-leaf g l =
    let old = g.B.Blobs.store l.initial.shelf.blobs in
    let now = g.B.Blobs.store l.shelf.blobs in
    record {
      told : Splits old.content l.initial.shelf.index l.initial.shelf.versions l.count l.held l.leaf;
      below : AreBelow l.leaf l.held;
      same : IsSame l.initial.shelf l.shelf;
      reads : Reads l.leaf old now;
      faults : now.faults ≡ old.faults;
    }
