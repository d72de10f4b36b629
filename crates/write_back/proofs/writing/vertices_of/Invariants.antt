use Rattle.std.proofs.Common.{◌≡◌, map, take}
use Rattle.write_back.proofs.writing.vertices_of.Given as goal

abbrev pub invariant-loop-x : goal.invariant-loop-x
invariant-loop-x l = l.vertices ≡ map (λ x. x.1) (take l.x-index l.tagged)
