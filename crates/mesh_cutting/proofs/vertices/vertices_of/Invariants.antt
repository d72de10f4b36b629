use Rattle.std.proofs.Common.{◌≡◌, ◌==◌, map, take}
use Rattle.std.specs.List.{filter}
use Rattle.std.specs.Prelude.{slice_index_or}
use Rattle.mesh_data.specs.Mesh.{origin, plane_at}
use Rattle.mesh_data.specs.Planes.{sums_of}
use Rattle.mesh_cutting.proofs.vertices.vertices_of.Given as goal

abbrev pub invariant-loop-name : goal.invariant-loop-name
invariant-loop-name l = l.vertices ≡ map (λ x. record {
  name = x.1;
  point = slice_index_or l.points x.1 origin;
  quad = sums_of (map (λ y. plane_at l.points y.1) (filter (λ y. y.1.a == x.1) l.corners));
}) (take l.name-index l.names)
