use Rattle.std.proofs.Common.{length, ap, arith}
use Rattle.oemm_make.proofs.Lanes.{few_leaves}
use Rattle.oemm_make.proofs.leaf_tasks.tiles.Goals as goal

pub tiles_of-requires-clause-few : goal.tiles_of-requires-clause-few
tiles_of-requires-clause-few c =
    omega (
      arith,
      ap length c.slice.ensures.items,
      few_leaves c.args.cells.now c.args.leaves.now c.requires.octree c.slice.ensures.ascending c.requires.below,
    )
