use Rattle.std.specs.List.{All}
use Rattle.mesh_data.specs.Triangles.{IsProper}
use Rattle.half_edge.proofs.tests.tris.Given as goal

abbrev pub invariant-loop-f : goal.invariant-loop-f
invariant-loop-f l = All IsProper l.tris.items
