use Rattle.std.specs.List.{AllWithin}
use Rattle.mesh_data.specs.Triangles.{IsProper, IsBelow}
use Rattle.write_back.proofs.tests.are_faces.Given as goal

abbrev pub invariant-loop-t : goal.invariant-loop-t
invariant-loop-t l = record {
  proper : AllWithin IsProper l.faces 0 l.t-index;
  below : AllWithin (IsBelow l.points) l.faces 0 l.t-index;
}
