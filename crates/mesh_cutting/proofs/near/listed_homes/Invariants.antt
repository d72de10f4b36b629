use Rattle.std.proofs.Common.{◌≡◌, take}
use Rattle.std.specs.List.{flat_map}
use Rattle.mesh_cutting.specs.Cuts.{listed_at}
use Rattle.mesh_cutting.proofs.near.listed_homes.Given as goal

abbrev pub invariant-loop-t : goal.invariant-loop-t
invariant-loop-t l = l.listed.items ≡ flat_map (listed_at l.homes l.none) (take l.t-index l.tris)
