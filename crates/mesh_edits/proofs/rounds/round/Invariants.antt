use Rattle.std.proofs.Common.{◌≡◌, ◌++◌, length}
use Rattle.mesh_data.specs.Rings.{path_edges}
use Rattle.mesh_edits.specs.Rounds.{round}
use Rattle.mesh_edits.proofs.rounds.round.Given as goal

abbrev pub invariant-loop-left : goal.invariant-loop-left
invariant-loop-left l = l.tris.items ++ round l.u (path_edges l.left) ≡ round l.u (path_edges l.path)

abbrev pub decreases-loop-left : goal.decreases-loop-left
decreases-loop-left l = length l.left
