use Rattle.std.proofs.Common.{◌≤◌, ◌^◌, ◌-◌, ◌<◌, ◌/◌, arith, pow_mono}
use Rattle.std.proofs.Math.Nat.{div-lt_iff_lt-mul}
use Rattle.oemm_octree.proofs.axis.place_at.Goals as goal

pub overflow_cast-result : goal.overflow_cast-result
overflow_cast-result c =
    let wide : 2 ^ 10 ≤ 2 ^ (16 - c.from.result) = pow_mono {i = 10} {j = 16 - c.from.result} (omega arith) in
    let below : c.from_low.result / 2 ^ (16 - c.from.result) < 256 = (div-lt_iff_lt-mul (omega arith)).1
    (omega arith) in
    omega arith
