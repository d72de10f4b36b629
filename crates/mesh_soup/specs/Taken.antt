-- What several calls take from the front of what a source has left.
use Rattle.fault_counts.specs.Told.{Told, TakesSome}

-- bytes were taken from the front of what was left, or none
pub record HasTaken (old new : Told) : Type 0 where
  pub some : TakesSome old new
