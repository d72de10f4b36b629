-- Meshes and tasks over the grid.
use Rattle.std.specs.Prelude.{◌≡◌, ℕ, All, Some, ⊤}
use Rattle.std.specs.FinMap as finite
use Rattle.oemm_limits.specs.declared.TheConstants.{MOST_ITEMS}
use Rattle.oemm_octree.specs.Octree.{IsOnGrid}
use Rattle.mesh_data.specs.declared.edits.Edit.{Edit}
use Rattle.mesh_data.specs.declared.edits.Edit.TheVariants.{Move, Collapse, Flip, Simplify}
use Rattle.mesh_data.specs.declared.edits.Task.{Task}
use Rattle.mesh_data.specs.declared.geometry.Vertex.{Vertex}
use Rattle.mesh_data.specs.Manifold.{IsManifold}
use Rattle.mesh_data.specs.Mesh.{Mesh}
use Rattle.plane_counts.specs.PlaneCounts.{HasPlanes}
use Rattle.edit_script.specs.Ranges.{IsTask}
use Rattle.mesh_sheets.specs.Clean.{AreNamed}

-- the point to which an edit moves a vertex is one of the grid
abbrev pub IsEditOnGrid : Edit → Type 0
IsEditOnGrid (Move v to) = IsOnGrid to
IsEditOnGrid (Collapse u v most) = ⊤
IsEditOnGrid (Flip a b) = ⊤
IsEditOnGrid (Simplify most target) = ⊤

-- a task within the ranges of a script, whose points are of the grid
pub record IsTaskOnGrid (task : Task) : Type 0 where
  pub ranges : IsTask task
  pub low : IsOnGrid task.low
  pub high : IsOnGrid task.high
  pub edits : All IsEditOnGrid task.edits

-- a manifold whose points are of the grid, with no more names and planes than there may be
pub record IsMeshOnGrid (m : Mesh) : Type 0 where
  pub manifold : IsManifold m
  pub named : AreNamed MOST_ITEMS m
  pub grid : (v : ℕ) (x : Vertex) → finite.get m.vertices v ≡ Some x → IsOnGrid x.point
  pub planes : HasPlanes m.vertices
