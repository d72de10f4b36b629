-- Counts of faults and of calls that are kept in 64 bits. A count never falls, and stands still at its end.
use Rattle.std.specs.Prelude.{◌≡◌, ℕ, ◌+◌, ◌≤◌, ◌<◌, ◌⊎◌, min, Result, OnOk, OnErr, IsErrOf}

-- the greatest count
abbrev pub last_count : ℕ
last_count = 18446744073709551615

-- the count after one more
abbrev pub next_count : ℕ → ℕ
next_count n = min (n + 1) last_count

-- the count has risen, or stands at its end
abbrev pub Rose : ℕ → ℕ → Type 0
Rose before now = next_count before ≤ now

-- the count has not risen, and doesn't stand at its end
abbrev pub IsCalm : ℕ → ℕ → Type 0
IsCalm before now = (now ≤ before) × (now < last_count)

-- the count of an object that was called has not fallen; it rose where the call failed, and stands as it was where the
-- call answered Ok
pub record HasCause {T E : Type 0} (before now : ℕ) (result : Result T E) : Type 0 where
  pub kept : before ≤ now
  pub calm : OnOk result (now ≡ before)
  pub cause : OnErr result (Rose before now)

-- A failure of the object is told as this fault and as nothing else: its count rose where the call answered the fault,
-- and stands as it was where the call answered anything else. It has not fallen.
pub record TellsFailure {T E : Type 0} (failed : E) (before now : ℕ) (result : Result T E) : Type 0 where
  pub kept : before ≤ now
  pub cause : IsErrOf result failed → Rose before now
  pub calm : IsErrOf result failed ⊎ (now ≡ before)
