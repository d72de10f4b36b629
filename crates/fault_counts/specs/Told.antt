-- The bytes of an object of the outside, or None where it doesn't tell them. Each word is an equation or a
-- fact about what is told, so that what tells goes on telling, and what doesn't never begins to.
use Rattle.std.specs.Prelude.{◌≡◌, ℕ, ◌≤◌, List, [], ◌++◌, length, take, Option, IfSome}
use Rattle.std.specs.Option.{option_map}

-- what is told of an object
abbrev pub Told : Type 0
Told = Option (List ℕ)

-- these bytes were taken: what was left is they and what is left now
abbrev pub Takes : Told → Told → List ℕ → Type 0
Takes old new bytes = old ≡ option_map (λ rest. bytes ++ rest) new

-- some bytes were taken, or none
abbrev pub TakesSome : Told → Told → Type 0
TakesSome old new = (bytes : List ℕ) × Takes old new bytes

-- nothing was taken, and nothing has failed
abbrev pub IsLeftAlone : Told → Told → ℕ → ℕ → Type 0
IsLeftAlone left left' faults faults' = (left' ≡ left) × (faults' ≡ faults)

-- there is nothing left
abbrev pub IsAtEnd : Told → Type 0
IsAtEnd left = IfSome left (λ rest. rest ≡ [])

-- these bytes were put: what is written is what was written and they
abbrev pub Puts : Told → Told → List ℕ → Type 0
Puts old new bytes = new ≡ option_map (λ written. written ++ bytes) old

-- a prefix of these bytes was put
abbrev pub PutsPrefix : Told → Told → List ℕ → Type 0
PutsPrefix old new bytes = (n : ℕ) × (n ≤ length bytes) × Puts old new (take n bytes)
