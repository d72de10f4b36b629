use Rattle.std.proofs.Common.{ap, ◌∙◌}
use Rattle.std.specs.Result.{result_ok}
use Rattle.store_spelling.specs.Spelled.{store_spelling}
use Rattle.oemm_shelf.specs.Opened.{tile_cube}
use Rattle.oemm_shelf.proofs.Indexes.{passes, fails, tiles_told}
use Rattle.oemm_shelf.proofs.opening.index_from.Goals as goal

pub returns-then-tiles-clause-is : goal.returns-then-tiles-clause-is
returns-then-tiles-clause-is c =
    passes (λ i. tile_cube i.cells) (store_spelling.index c.args.bytes.now) c.in-Ok.index
    (ap result_ok c.in-Ok.ensures.exact) (tiles_told c.tiles.result c.in-Ok.index.cells c.tiles.ensures ∙ c.if-tiles.true)

pub returns-else-tiles-clause-is : goal.returns-else-tiles-clause-is
returns-else-tiles-clause-is c =
    fails (λ i. tile_cube i.cells) (store_spelling.index c.args.bytes.now) c.in-Ok.index
    (ap result_ok c.in-Ok.ensures.exact) (tiles_told c.tiles.result c.in-Ok.index.cells c.tiles.ensures ∙ c.if-tiles.false)
