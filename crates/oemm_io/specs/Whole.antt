-- A source that is taken whole, and a sink that a whole text is put into.
use Rattle.std.specs.Prelude.{◌≡◌, ℕ, ◌<◌, Bool, false, length, IfSome}
use Rattle.fault_counts.specs.Told.{Told}

-- there are more bytes than the limit, where they are told
abbrev pub IsLongerThan : Told → ℕ → Type 0
IsLongerThan left limit = IfSome left (λ bytes. limit < length bytes)

-- a sink that wasn't finished still isn't
abbrev pub StaysOpen : Bool → Bool → Type 0
StaysOpen old new = old ≡ false → new ≡ false
