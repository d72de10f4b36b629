use Rattle.std.proofs.Common.{◌≡◌, map, take}
use Rattle.oemm_octree.specs.Leaves.{home}
use Rattle.write_back.proofs.homes.tagged_vertices.Given as goal

abbrev pub invariant-loop-x : goal.invariant-loop-x
invariant-loop-x l = l.tagged.items ≡ map (λ x. (home l.cells x.point, x)) (take l.x-index l.vertices)
