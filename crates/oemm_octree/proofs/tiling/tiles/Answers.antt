use Rattle.oemm_octree.proofs.Steps.{tiles_tested, tiles_refused}
use Rattle.oemm_octree.proofs.tiling.tiles.Goals as goal

pub returns-in-Some : goal.returns-in-Some
returns-in-Some c = tiles_tested c.is_empty.result c.root.result c.slice.result.now c.args.cells.now
    c.in-Some.rest.now c.is_empty.ensures c.in-Some.ensures c.root.ensures c.slice.ensures

pub returns-in-None : goal.returns-in-None
returns-in-None c = tiles_refused c.root.result c.slice.result.now c.args.cells.now c.in-None.ensures
    c.root.ensures c.slice.ensures
