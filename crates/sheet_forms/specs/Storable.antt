-- Meshes that can stand in sheets.
use Rattle.std.specs.Prelude.{ℕ, ◌≤◌, List, length}
use Rattle.oemm_limits.specs.declared.TheConstants.{MOST_ITEMS}
use Rattle.oemm_octree.specs.declared.cells.Cell.{Cell}
use Rattle.mesh_data.specs.Mesh.{Mesh}
use Rattle.plane_counts.specs.PlaneCounts.{HasPlanes}
use Rattle.mesh_sheets.specs.Clean.{AreHomed, AreNamed, IsClean}

-- a clean mesh whose vertices have homes, names below so many, and the planes of so many triangles as there may be
pub record IsStorable (cells : List Cell) (names : ℕ) (m : Mesh) : Type 0 where
  pub clean : IsClean m
  pub homed : AreHomed cells m
  pub named : AreNamed names m
  pub planes : HasPlanes m.vertices
  pub few : length m.tris ≤ MOST_ITEMS
