-- Lists of numbers.
use Rattle.std.specs.Prelude.{ℕ, Bool, ◌==◌, List}
use Rattle.std.specs.List.{list_any}

-- some of these numbers is n
abbrev pub among : ℕ → List ℕ → Bool
among n numbers = list_any (λ m. m == n) numbers
