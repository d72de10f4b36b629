use Rattle.std.proofs.Common.{◌≡◌, map, take}
use Rattle.std.specs.List.{range_with_len}
use Rattle.oemm_make.specs.Tiles.{tile_at}
use Rattle.oemm_make.proofs.Lanes.{AreLanes}
use Rattle.oemm_make.proofs.leaf_tasks.tiles_of.Given as goal

abbrev pub invariant-loop-leaf : goal.invariant-loop-leaf
invariant-loop-leaf l = record {
  tasks : l.tasks ≡ map (tile_at l.cells l.leaves l.edit) (range_with_len 0 l.leaf-index);
  lanes : AreLanes l.counts (take l.leaf-index l.leaves);
}
