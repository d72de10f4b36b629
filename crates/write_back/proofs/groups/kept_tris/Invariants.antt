use Rattle.std.proofs.Common.{◌≡◌, ◌++◌, map, take}
use Rattle.write_back.specs.Homes.{keeper_in}
use Rattle.write_back.proofs.groups.kept_tris.Given as goal

abbrev pub invariant-loop-x : goal.invariant-loop-x
invariant-loop-x l = l.tris.items
    ≡ map (λ t. (keeper_in l.homes l.fn.none t, t)) l.patch.whole ++ map (λ x. (x.leaf, x.tri)) (take l.x-index l.patch.mixed)
