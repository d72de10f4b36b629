-- What the text of a script can hold.
use Rattle.std.specs.Prelude.{ℕ, ◌^◌, ◌<◌, ◌≤◌, List, length, All}
use Rattle.oemm_limits.specs.declared.TheConstants.{LAST_LANE, MOST_EDITS, MOST_TASKS}
use Rattle.oemm_octree.specs.Octree.{IsOnGrid}
use Rattle.mesh_data.specs.declared.edits.Edit.{Edit}
use Rattle.mesh_data.specs.declared.edits.Edit.TheVariants.{Move, Collapse, Flip, Simplify}
use Rattle.mesh_data.specs.declared.edits.Task.{Task}
use Rattle.edit_script.specs.Ranges.{AreNumbered, IsBox, IsCostBound}

-- the names, the point, the bound and the number of triangles of an edit are in their ranges
abbrev pub FitsEdit : Edit → Type 0
FitsEdit (Move v to) = (v < 2 ^ 32) × IsOnGrid to
FitsEdit (Collapse u v max) = (u < 2 ^ 32) × (v < 2 ^ 32) × IsCostBound max
FitsEdit (Flip a b) = (a < 2 ^ 32) × (b < 2 ^ 32)
FitsEdit (Simplify max target) = IsCostBound max × (target ≤ 2 ^ 24)

-- a task's lane is one of those that there are, its box is one on the grid, and its edits are few and fit
pub record FitsTask (task : Task) : Type 0 where
  pub lane : task.lane ≤ LAST_LANE
  pub low : IsOnGrid task.low
  pub high : IsOnGrid task.high
  pub box : IsBox task.low task.high
  pub few : length task.edits ≤ MOST_EDITS
  pub each : All FitsEdit task.edits

-- the tasks are few, fit, and are numbered by their lanes
pub record FitsScript (tasks : List Task) : Type 0 where
  pub few : length tasks ≤ MOST_TASKS
  pub each : All FitsTask tasks
  pub numbered : AreNumbered tasks
