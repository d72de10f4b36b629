use Rattle.std.proofs.Common.{◌≡◌, take}
use Rattle.mesh_data.specs.Planes.{sums_of}
use Rattle.mesh_data.specs.Quads.{sums_in}
use Rattle.mesh_model.proofs.costs.quad_of.Given as goal

abbrev pub invariant-loop-plane : goal.invariant-loop-plane
invariant-loop-plane l = record {
  told : sums_in l.quad ≡ sums_of (take l.plane-index l.planes);
}
