use Rattle.std.proofs.Common.{arith, rules, w64, FitsSigned}
use Rattle.std.proofs.lemmas.Int.{ints, to_z-of_z}
use mir.Syntax.{w16}
use Rattle.oemm_plane.proofs.PlanesCasts.{sum_of_longs}
use Rattle.oemm_plane.proofs.triangle_planes.dot.Goals as goal

pub overflow_add-result : goal.overflow_add-result
overflow_add-result c = omega (arith, ints)

pub overflow_add-result-2 : goal.overflow_add-result-2
overflow_add-result-2 c = omega (arith, ints)

pub returns-clause-value : goal.returns-clause-value
returns-clause-value c =
    let whole = sum_of_longs c.volume.result c.volume-2.result c.volume-3.result (omega arith) (omega arith) (omega arith) in
    let nx = to_z-of_z w64 c.args.nx c.ranges.nx in
    let ny = to_z-of_z w64 c.args.ny c.ranges.ny in
    let nz = to_z-of_z w64 c.args.nz c.ranges.nz in
    let x = let f : FitsSigned w16 c.args.p.now.x = search rules in to_z-of_z w16 c.args.p.now.x f in
    let y = let f : FitsSigned w16 c.args.p.now.y = search rules in to_z-of_z w16 c.args.p.now.y f in
    let z = let f : FitsSigned w16 c.args.p.now.z = search rules in to_z-of_z w16 c.args.p.now.z f in
    cc

pub returns-clause-small : goal.returns-clause-small
returns-clause-small c = omega (arith, ints)
