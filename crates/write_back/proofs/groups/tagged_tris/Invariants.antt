use Rattle.std.proofs.Common.{◌≡◌, map, take}
use Rattle.write_back.specs.Homes.{keeper_in}
use Rattle.write_back.proofs.groups.tagged_tris.Given as goal

abbrev pub invariant-loop-t : goal.invariant-loop-t
invariant-loop-t l = l.tris.items ≡ map (λ t. (keeper_in l.homes l.none t, t)) (take l.t-index l.whole)
