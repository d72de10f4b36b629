-- The ranges of what a script says.
use Rattle.std.specs.Prelude.{◌≡◌, ℕ, ◌^◌, ◌<◌, ◌≤◌, ℤ, pos, ◌≤ℤ◌, List, length, All, slice_index, slice_index_or, take, ⊤}
use Rattle.oemm_limits.specs.declared.TheConstants.{LAST_LANE, MOST_COST, MOST_EDITS, MOST_TASKS}
use Rattle.oemm_octree.specs.declared.points.Point.{Point}
use Rattle.mesh_data.specs.declared.edits.Edit.{Edit}
use Rattle.mesh_data.specs.declared.edits.Edit.TheVariants.{Move, Collapse, Flip, Simplify}
use Rattle.mesh_data.specs.declared.edits.Task.{Task}
use Rattle.edit_script.specs.declared.line.LineMeaning.{LineMeaning}
use Rattle.edit_script.specs.declared.line.LineMeaning.TheVariants.{TaskLine, EditLine}
use Rattle.edit_script.specs.Grammar.{lane_count}

-- the low corner is at most the high one along each axis
pub record IsBox (low high : Point) : Type 0 where
  pub x : low.x ≤ℤ high.x
  pub y : low.y ≤ℤ high.y
  pub z : low.z ≤ℤ high.z

-- a bound of a cost is from 0 to the greatest
pub record IsCostBound (max : ℤ) : Type 0 where
  pub least : pos 0 ≤ℤ max
  pub greatest : max ≤ℤ pos MOST_COST

-- an edit's bound of a cost and its number of triangles are within their ranges
abbrev pub IsEdit : Edit → Type 0
IsEdit (Move v to) = ⊤
IsEdit (Collapse u v max) = IsCostBound max
IsEdit (Flip a b) = ⊤
IsEdit (Simplify max target) = IsCostBound max × (target ≤ 2 ^ 24)

-- the lane and the box of a task's line are within their ranges, and the numbers of an edit's line
abbrev pub IsWithin : LineMeaning → Type 0
IsWithin (TaskLine lane low high) = (lane ≤ LAST_LANE) × IsBox low high
IsWithin (EditLine edit) = IsEdit edit

-- the task's lane, box and number of edits are within their ranges, and so is each edit
pub record IsTask (task : Task) : Type 0 where
  pub lane : task.lane ≤ LAST_LANE
  pub box : IsBox task.low task.high
  pub few : length task.edits ≤ MOST_EDITS
  pub each : All IsEdit task.edits

-- each task's number is that of its lane's tasks before it
abbrev pub AreNumbered : List Task → Type 0
AreNumbered tasks = (k : ℕ) (d : Task) → k < length tasks →
    (slice_index_or tasks k d).number ≡ lane_count (slice_index_or tasks k d).lane (take k tasks)

-- the tasks of a script are few, each within its ranges, and numbered by their lanes
pub record AreTasks (tasks : List Task) : Type 0 where
  pub few : length tasks ≤ MOST_TASKS
  pub each : All IsTask tasks
  pub numbered : AreNumbered tasks

-- these are the numbers of the tasks of the lanes
abbrev pub AreCounts : List ℕ → List Task → Type 0
AreCounts counts tasks = (lane : ℕ) → lane ≤ LAST_LANE → slice_index counts lane ≡ lane_count lane tasks

-- what is held of the tasks that were read: how many each lane has
pub record IsDraft (held : List ℕ) (read : List Task) : Type 0 where
  pub counts : AreCounts held read
  pub tasks : AreTasks read
