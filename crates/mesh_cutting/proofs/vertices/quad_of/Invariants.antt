use Rattle.std.proofs.Common.{◌≡◌, map, take}
use Rattle.mesh_data.specs.Mesh.{plane_at}
use Rattle.mesh_data.specs.Planes.{sums_of}
use Rattle.mesh_data.specs.Quads.{sums_in}
use Rattle.mesh_cutting.proofs.vertices.quad_of.Given as goal

abbrev pub invariant-loop-t : goal.invariant-loop-t
invariant-loop-t l = record {
  told : sums_in l.quad ≡ sums_of (map (λ x. plane_at l.points x.1) (take l.t-index l.tris));
}
