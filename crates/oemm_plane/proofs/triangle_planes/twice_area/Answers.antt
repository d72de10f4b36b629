use Rattle.std.proofs.Common.{nat_abs, ap, arith}
use Rattle.std.proofs.lemmas.Int.{ints, to_z-of_z}
use mir.Syntax.{w16}
use Rattle.oemm_plane.proofs.PlanesBounds.{twice_area_below}
use Rattle.oemm_plane.proofs.PlanesCasts.{difference_of_longs, product_of_longs}
use Rattle.oemm_plane.proofs.triangle_planes.twice_area.Goals as goal

pub overflow_sub-result : goal.overflow_sub-result
overflow_sub-result c = omega (arith, ints)

pub returns-clause-value : goal.returns-clause-value
returns-clause-value c =
    let first = product_of_longs c.difference.result c.difference-2.result c.area.result (omega arith) (omega arith) c.area.ensures.value in
    let second = product_of_longs c.difference-3.result c.difference-4.result c.area-2.result (omega arith) (omega arith) c.area-2.ensures.value in
    let whole = difference_of_longs c.area.result c.area-2.result (omega arith) (omega arith) in
    let a = to_z-of_z w16 c.args.a c.ranges.a in
    let b = to_z-of_z w16 c.args.b c.ranges.b in
    let x = to_z-of_z w16 c.args.c c.ranges.c in
    let d = to_z-of_z w16 c.args.d c.ranges.d in
    let e = to_z-of_z w16 c.args.e c.ranges.e in
    let f = to_z-of_z w16 c.args.f c.ranges.f in
    cc

pub returns-clause-small : goal.returns-clause-small
returns-clause-small c =
    let bound = twice_area_below c.args.a c.args.b c.args.c c.args.d c.args.e c.args.f c.ranges.a c.ranges.b c.ranges.c c.ranges.d c.ranges.e c.ranges.f in
    let same = ap nat_abs (returns-clause-value c) in
    omega arith
