-- The paths that the words of the command line name.
use Rattle.std.specs.Prelude.{ℕ, List, [], Option, Some, None, slice_get, unwrap_or}

-- the word at a place, or an empty path
abbrev pub path_of : List (List ℕ) → Option ℕ → List ℕ
path_of words None = []
path_of words (Some place) = unwrap_or (slice_get words place) []
