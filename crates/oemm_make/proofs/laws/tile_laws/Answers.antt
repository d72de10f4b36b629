use Rattle.oemm_make.proofs.TileLaws.{tiles_fit, tiles_read, tiles_short}
use Rattle.oemm_make.proofs.laws.tile_laws.Goals as goal

pub returns-clause-fits : goal.returns-clause-fits
returns-clause-fits c = tiles_fit

pub returns-clause-short : goal.returns-clause-short
returns-clause-short c = tiles_short

pub returns-clause-read : goal.returns-clause-read
returns-clause-read c = tiles_read
