-- What is kept of sheets.
use Rattle.std.specs.Prelude.{◌≡◌, ℕ, ◌<◌, ◌≤◌, ◌^◌, ◌-◌, ◌==◌, min, List, length, slice_index, Option, Some, None}
use Rattle.std.specs.List.{count_by}
use Rattle.oemm_limits.specs.declared.TheConstants.{MOST_ITEMS}
use Rattle.sheet_data.specs.declared.sheets.LeafSheet.{LeafSheet}
use Rattle.patch_assembly.specs.Clashes.{names_in, planes_in}
use Rattle.leaf_audit.specs.Audits.{all_faces, vertices_in}
use Rattle.leaf_audit.specs.declared.tally.Tally.{Tally}

-- the table says of each name how often it comes, and 2 where it comes more often
abbrev pub AreTimes : List ℕ → List ℕ → Type 0
AreTimes table names = (v : ℕ) → v < length table → slice_index table v ≡ min 2 (count_by (λ n. n == v) names)

-- the first name of which a table says that it comes twice
abbrev pub IsFirstTwice : List ℕ → Option ℕ → Type 0
IsFirstTwice table None = (v : ℕ) → v < length table → (slice_index table v ≡ 2) → ⊥
IsFirstTwice table (Some v) =
    (v < length table) × (slice_index table v ≡ 2) × ((w : ℕ) → w < v → slice_index table w ≡ 2 → ⊥)

-- what is kept is that of these sheets
pub record Tallies (sheets : List LeafSheet) (t : Tally) : Type 0 where
  pub times : AreTimes t.times.items (names_in sheets)
  pub vertices : t.vertices ≡ vertices_in sheets
  pub planes : t.planes ≡ min (planes_in sheets) (2 ^ 64 - 1)
  pub count : t.count ≡ length (all_faces sheets)
  pub faces : t.count ≤ MOST_ITEMS → t.faces.items ≡ all_faces sheets
