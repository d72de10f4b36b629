use Rattle.std.specs.List.{All}
use Rattle.oemm_limits.specs.declared.TheConstants.{MOST_ITEMS}
use Rattle.mesh_data.specs.Triangles.{IsBelow, IsProper}
use Rattle.face_audit.proofs.tests.fit.Given as goal

abbrev pub invariant-loop-t : goal.invariant-loop-t
invariant-loop-t l = record { proper : All IsProper l.fit.items; below : All (IsBelow MOST_ITEMS) l.fit.items }
