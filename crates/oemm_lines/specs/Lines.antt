-- What ends a line.
use Rattle.std.specs.Prelude.{◌≢◌, ℕ, ◌<◌, ◌==◌, List, [], ◌∷◌, slice_index, if◌then◌else◌}

-- the text in front of a line feed, without the carriage return right before it
abbrev pub without_return : List ℕ → List ℕ
without_return [] = []
without_return (c ∷ []) = if c == 13 then [] else c ∷ []
without_return (c ∷ d ∷ ds) = c ∷ without_return (d ∷ ds)

-- no line feed stands among the first bytes
abbrev pub HasNoFeed : List ℕ → ℕ → Type 0
HasNoFeed bytes n = (k : ℕ) → k < n → slice_index bytes k ≢ 10
