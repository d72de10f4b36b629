use Rattle.std.proofs.Common.{length, ap, arith}
use Rattle.std.proofs.lemmas.List.Sums.{count_by-le-length, length-filter}
use Rattle.std.proofs.Common.{eqb, ℕ, Bool}
use Rattle.mesh_data.specs.declared.geometry.Tri.{Tri}
use Rattle.mesh_cutting.proofs.vertices.vertices_of.Goals as goal

pub quad_of-quad-requires : goal.quad_of-quad-requires
quad_of-quad-requires c =
    let corners = c.args.corners.now in
    let starts : ℕ × Tri → Bool = λ x. eqb x.1.a c.loop-name-item.result.1 in
    omega (arith, ap length c.starting_at.ensures, length-filter starts corners, count_by-le-length starts corners, c.requires.few)
