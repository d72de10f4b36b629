-- Which sheets a shelf keeps in memory, and how many gets that spares.
use Rattle.std.specs.Prelude.{◌≡◌, ◌⊎◌, ℕ, ◌+◌, ◌≤◌, ◌==◌, ◌&&◌, Bool, true, not, if◌then◌else◌, min, List, count_by}
use Rattle.std.specs.Prelude.{slice_index}
use Rattle.std.specs.List.{filter, list_any}
use Rattle.fault_counts.specs.Counts.{last_count, next_count}

-- the leaf in the version is listed
abbrev pub has : List (ℕ × ℕ) → ℕ → ℕ → Bool
has cached leaf version = list_any (λ k. (k.0 == leaf) && (k.1 == version)) cached

-- the list without the leaf in the version
abbrev pub without : ℕ → ℕ → List (ℕ × ℕ) → List (ℕ × ℕ)
without leaf version cached = filter (λ k. not ((k.0 == leaf) && (k.1 == version))) cached

-- the number of gets after a sheet was asked for: one more, unless it was listed
abbrev pub gets_after : Bool → ℕ → ℕ
gets_after was_listed gets = if was_listed then gets else next_count gets

-- how many of these leaves aren't listed in their present versions
abbrev pub lacking : List (ℕ × ℕ) → List ℕ → List ℕ → ℕ
lacking cached versions leaves = count_by (λ leaf. not (has cached leaf (slice_index versions leaf))) leaves

-- how many are listed that weren't
abbrev pub added : List (ℕ × ℕ) → List (ℕ × ℕ) → ℕ
added old new = count_by (λ k. not (has old k.0 k.1)) new

-- A count rose by so much at least, or stands at its end.
abbrev pub RoseBy : ℕ → ℕ → ℕ → Type 0
RoseBy least before now = min (before + least) last_count ≤ now

-- What is listed was so before, or may be; others may have gone. There are no more new ones than gets were made.
pub record Lists (May : ℕ → ℕ → Type 0) (old new : List (ℕ × ℕ)) (before now : ℕ) : Type 0 where
  pub adds : (leaf version : ℕ) → has new leaf version ≡ true
      → (has old leaf version ≡ true) ⊎ May leaf version
  pub got : RoseBy (added old new) before now
