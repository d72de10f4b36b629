use Rattle.std.proofs.Common.{◌≡◌, take}
use Rattle.std.specs.List.{flat_map}
use Rattle.write_back.specs.Homes.{with_homes}
use Rattle.write_back.proofs.near.listed_homes.Given as goal

abbrev pub invariant-loop-t : goal.invariant-loop-t
invariant-loop-t l = l.listed.items ≡ flat_map (with_homes l.homes l.none) (take l.t-index l.tris)
