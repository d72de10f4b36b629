-- What several calls take from a source.
use Rattle.std.proofs.Common.{[]}
use Rattle.fault_counts.specs.Told.{Told, TakesSome}
use Rattle.fault_counts.proofs.InRow.{takes_none, takes_some_more}
use Rattle.mesh_soup.specs.Taken.{HasTaken}

-- nothing was taken
pub taken_none : (left : Told) → HasTaken left left
taken_none left = record { some = ([], takes_none left) }

-- and then some more
pub taken_more : (old mid new : Told) → HasTaken old mid → TakesSome mid new → HasTaken old new
taken_more old mid new h more = record { some = takes_some_more old mid new h.some more }

pub taken_both : (old mid new : Told) → HasTaken old mid → HasTaken mid new → HasTaken old new
taken_both old mid new h i = record { some = takes_some_more old mid new h.some i.some }
