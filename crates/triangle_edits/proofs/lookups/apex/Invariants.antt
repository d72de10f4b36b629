use Rattle.std.proofs.Common.{◌≡◌, drop}
use Rattle.mesh_data.specs.Links.{apex}
use Rattle.triangle_edits.proofs.lookups.apex.Given as goal

abbrev pub invariant-loop-t : goal.invariant-loop-t
invariant-loop-t l = apex (drop l.t-index l.tris) l.a l.b ≡ apex l.tris l.a l.b
