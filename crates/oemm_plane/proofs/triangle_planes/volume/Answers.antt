use Rattle.std.proofs.Common.{◌≤◌, ◌^◌, ◌*ℤ◌, nat_abs, ap, arith, w64}
use Rattle.std.proofs.lemmas.Int.{ints, to_z-of_z}
use mir.Syntax.{w16}
use Rattle.oemm_plane.proofs.PlanesCasts.{same_long, product_size}
use Rattle.oemm_plane.proofs.triangle_planes.volume.Goals as goal

pub returns-clause-value : goal.returns-clause-value
returns-clause-value c =
    let small : nat_abs (c.args.n *ℤ c.args.x) ≤ 2 ^ 47 = product_size c.args.n c.args.x (2 ^ 32) (2 ^ 15) (omega arith) (omega (arith, ints)) in
    let n = to_z-of_z w64 c.args.n c.ranges.n in
    let x = to_z-of_z w16 c.args.x c.ranges.x in
    let whole = same_long (c.args.n *ℤ c.args.x) (omega arith) in
    let x_long = same_long c.args.x (omega (arith, ints)) in
    cc

pub returns-clause-small : goal.returns-clause-small
returns-clause-small c =
    let small : nat_abs (c.args.n *ℤ c.args.x) ≤ 2 ^ 47 = product_size c.args.n c.args.x (2 ^ 32) (2 ^ 15) (omega arith) (omega (arith, ints)) in
    let same = ap nat_abs (returns-clause-value c) in
    omega arith
