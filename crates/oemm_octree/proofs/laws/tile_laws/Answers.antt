use Rattle.oemm_octree.proofs.Tilings.{leaves_tile}
use Rattle.oemm_octree.proofs.Each.{depths}
use Rattle.oemm_octree.proofs.Searches.{few_tiles, placed}
use Rattle.oemm_octree.proofs.laws.tile_laws.Goals as goal

pub returns-clause-leaves : goal.returns-clause-leaves
returns-clause-leaves c = leaves_tile

pub returns-clause-depths : goal.returns-clause-depths
returns-clause-depths c = depths

pub returns-clause-places : goal.returns-clause-places
returns-clause-places c = placed

pub returns-clause-few : goal.returns-clause-few
returns-clause-few c = few_tiles
