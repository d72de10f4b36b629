use Rattle.std.proofs.Common.{arith}
use Rattle.std.proofs.lemmas.Int.{ints}
use Rattle.mesh_data.specs.Planes.{plane_of}
use Rattle.oemm_plane.proofs.PlanesCasts.{same_long, opposite_of_long}
use Rattle.oemm_plane.proofs.triangle_planes.plane_of.Goals as goal

pub returns-clause-value : goal.returns-clause-value
unfolding plane_of
returns-clause-value c =
    let x = same_long c.normal_x-nx.result (omega arith) in
    let y = same_long c.normal_y-ny.result (omega arith) in
    let z = same_long c.normal_z-nz.result (omega arith) in
    let d = opposite_of_long c.dot.result (omega arith) in
    cc

pub returns-clause-offset : goal.returns-clause-offset
returns-clause-offset c = omega (arith, ints)
