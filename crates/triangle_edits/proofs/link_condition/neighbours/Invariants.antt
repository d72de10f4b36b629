use Rattle.std.proofs.Common.{◌≡◌, take}
use Rattle.mesh_data.specs.Triangles.{neighbours}
use Rattle.triangle_edits.proofs.link_condition.neighbours.Given as goal

abbrev pub invariant-loop-t : goal.invariant-loop-t
invariant-loop-t l = l.names.items ≡ neighbours l.v (take l.t-index l.tris)
