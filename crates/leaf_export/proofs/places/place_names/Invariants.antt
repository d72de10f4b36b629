use Rattle.std.proofs.Common.{◌≡◌, length, take}
use Rattle.leaf_export.specs.Tables.{ArePlaces}
use Rattle.leaf_export.proofs.places.place_names.Given as goal

abbrev pub invariant-loop-place : goal.invariant-loop-place
invariant-loop-place l = record {
  len : length l.table.items ≡ l.below;
  places : ArePlaces (take l.place l.names) l.table.items;
}
