use Rattle.std.proofs.Common.{◌≡◌}
use Rattle.mesh_cutting.specs.Cuts.{mesh_in}
use Rattle.oemm_shelf.specs.Shelves.{IsSame}
use Rattle.oemm_build.specs.Laying.{Lays}
use Rattle.oemm_build.proofs.laying.lay_sheets.Given as goal

abbrev pub invariant-loop-leaf : goal.invariant-loop-leaf
invariant-loop-leaf g l =
    let old = g.B.Blobs.store l.initial.shelf.blobs in
    let now = g.B.Blobs.store l.shelf.blobs in
    record {
      laid : Lays l.cut.cells (mesh_in l.cut) l.leaf old now;
      same : IsSame l.initial.shelf l.shelf;
      gets : now.gets ≡ old.gets;
      faults : now.faults ≡ old.faults;
    }
