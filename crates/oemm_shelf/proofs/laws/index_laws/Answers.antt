use Rattle.oemm_shelf.proofs.Indexes.{tile_cube_is}
use Rattle.oemm_shelf.proofs.laws.index_laws.Goals as goal

pub returns : goal.returns
returns c = tile_cube_is
