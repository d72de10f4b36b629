-- A source with bytes before it.
use Rattle.std.specs.Prelude.{ℕ, List}

-- the bytes before the source that are left, and the source
pub record WithHead (S : Type 0) : Type 0 where
  pub head : List ℕ
  pub source : S
