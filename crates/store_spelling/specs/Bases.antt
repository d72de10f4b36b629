-- Bases that a store can be built from.
use Rattle.std.specs.Prelude.{◌≡◌, ◌≤◌, length, All}
use Rattle.oemm_limits.specs.declared.TheConstants.{MOST_CAP, MOST_CORE, MOST_ITEMS}
use Rattle.oemm_octree.specs.Leaves.{leaves}
use Rattle.oemm_octree.specs.Octree.{IsOnGrid}
use Rattle.mesh_data.specs.declared.shapes.Audit.TheVariants.{Good}
use Rattle.mesh_data.specs.Manifold.{Audits}
use Rattle.mesh_data.specs.Mesh.{start}
use Rattle.stored_mesh.specs.Stored.{Base}

-- points of the grid and faces, no more than there may be; the leaves over the points, with a cap and a limit of cores
-- that there may be; and a good audit, with the numbers of the index
pub record IsBase (b : Base) : Type 0 where
  pub least_cap : 1 ≤ b.index.cap
  pub most_cap : b.index.cap ≤ MOST_CAP
  pub least_core : 1 ≤ b.index.core
  pub most_core : b.index.core ≤ MOST_CORE
  pub grid : All IsOnGrid b.soup.points
  pub few_points : length b.soup.points ≤ MOST_ITEMS
  pub few_faces : length b.soup.faces ≤ MOST_ITEMS
  pub cells : b.index.cells ≡ leaves b.soup.points b.index.cap
  pub good : Audits (start b.soup) (Good b.index.vertices b.index.faces b.index.euler b.index.border)
