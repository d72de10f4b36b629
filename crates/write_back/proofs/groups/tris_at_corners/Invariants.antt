use Rattle.std.proofs.Common.{◌≡◌, take}
use Rattle.std.specs.List.{flat_map}
use Rattle.write_back.specs.Homes.{at_corners}
use Rattle.write_back.proofs.groups.tris_at_corners.Given as goal

abbrev pub invariant-loop-t : goal.invariant-loop-t
invariant-loop-t l = l.tris.items ≡ flat_map (at_corners l.homes l.none) (take l.t-index l.t-items)
