-- The block in which bytes wait until they are put into a sink.
use Rattle.std.specs.Prelude.{ℕ, List}

-- the bytes that are still to be put, and how many were written into the block since it was last empty
pub record Waiting : Type 0 where
  pub left : List ℕ
  pub used : ℕ
