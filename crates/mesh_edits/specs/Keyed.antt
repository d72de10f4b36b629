-- Vertices in an ordered map, by their names.
use Rattle.std.specs.Prelude.{◌≡◌, ℕ, List}
use Rattle.std.specs.List.{AllByRecursion}
use Rattle.std.specs.List.Sorted.{IsStrictlySortedBy}
use Rattle.std.specs.Map.{keys_of}
use Rattle.std.specs.Ordering.{nat_cmp}
use Rattle.sheet_data.specs.Summed.{SummedVertex}

-- each vertex stands at its name, and the names ascend
pub record IsKeyed (es : List (ℕ × SummedVertex)) : Type 0 where
  pub named : AllByRecursion (λ e. e.0 ≡ e.1.name) es
  pub ordered : IsStrictlySortedBy nat_cmp (keys_of es)
