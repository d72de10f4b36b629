-- Counters of the points in the cells of the greatest depth.
use Rattle.std.specs.Prelude.{◌≡◌, ℕ, ◌<◌, ◌≤◌, ◌==◌, List, length, slice_index_or, count_by}
use Rattle.std.specs.List.{All}
use Rattle.oemm_limits.specs.declared.TheConstants.{MOST_DEPTH, MOST_ITEMS, MOST_LEAVES}
use Rattle.oemm_octree.specs.declared.points.Point.{Point}
use Rattle.oemm_octree.specs.Octree.{IsOnGrid}
use Rattle.oemm_octree.specs.Morton.{rank_at}

-- how many points were added, and how many of them each cell of the greatest depth holds
pub record Tally : Type 0 where
  pub added : ℕ
  pub counters : List ℕ

-- the points lie on the grid, and each counter is how many of them the cell with its number holds
pub record AreCounters (counters : List ℕ) (points : List Point) : Type 0 where
  pub on_grid : All IsOnGrid points
  pub each : (i : ℕ) → i < MOST_LEAVES → slice_index_or counters i 0 ≡ count_by (λ p. rank_at MOST_DEPTH p == i) points

-- the tally counts these points
abbrev pub IsTallyOf : Tally → List Point → Type 0
IsTallyOf t points = (t.added ≡ length points) × AreCounters t.counters points

-- there is a counter for each cell of the greatest depth, none is above the number of points, and these aren't too many
pub record IsTally (added : ℕ) (counters : List ℕ) : Type 0 where
  pub whole : length counters ≡ MOST_LEAVES
  pub few : added ≤ MOST_ITEMS
  pub bounded : All (λ n. n ≤ added) counters
