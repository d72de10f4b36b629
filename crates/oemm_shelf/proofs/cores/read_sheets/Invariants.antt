use Rattle.std.proofs.Common.{◌≡◌, map, take}
use Rattle.std.specs.List.{All}
use Rattle.sheet_forms.specs.Formed.{IsSheetOf}
use Rattle.oemm_shelf.specs.Cached.{RoseBy}
use Rattle.oemm_shelf.specs.Shelves.{Reads}
use Rattle.oemm_shelf.proofs.Sequence.{Splits}
use Rattle.oemm_shelf.proofs.cores.read_sheets.Given as goal

abbrev pub invariant-loop-leaf : goal.invariant-loop-leaf
invariant-loop-leaf g l =
    let old = g.B.Blobs.store l.initial.blobs in
    let now = g.B.Blobs.store l.blobs in
    record {
      told : Splits old.content l.index l.versions l.leaves l.sheets l.leaf-index;
      reads : Reads l.leaf-index old now;
      of_leaves : map (λ s. s.leaf) l.sheets ≡ take l.leaf-index l.leaves;
      formed : All (λ s. IsSheetOf l.index.cells l.index.vertices s.leaf s) l.sheets;
      each : RoseBy l.leaf-index old.gets now.gets;
      faults : now.faults ≡ old.faults;
    }
