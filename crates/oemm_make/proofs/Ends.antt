-- The parts of an axis, and what lies before them.
use Rattle.std.proofs.Common.{◌≡◌, ℕ, zero, suc, ◌+◌, ◌-◌, ◌*◌, ◌/◌, ◌^◌, ◌<◌, ◌≤◌, refl, ap, sym, ◌∙◌, arith}
use Rattle.std.proofs.Math.Nat.{mul-le-mul_right}
use Rattle.std.proofs.lemmas.Nat.{pow-add, pow_pos}

-- the width of a part
pub width_is : (d : ℕ) → d ≤ 6 → 65536 / 2 ^ d ≡ 2 ^ (16 - d)
width_is zero le = refl
width_is (suc zero) le = refl
width_is (suc (suc zero)) le = refl
width_is (suc (suc (suc zero))) le = refl
width_is (suc (suc (suc (suc zero)))) le = refl
width_is (suc (suc (suc (suc (suc zero))))) le = refl
width_is (suc (suc (suc (suc (suc (suc zero)))))) le = refl
width_is (suc (suc (suc (suc (suc (suc (suc d))))))) le = absurd (omega arith)

-- the parts have all coordinates
pub part_within : (d p : ℕ) → d ≤ 6 → p ≤ 2 ^ d → p * 2 ^ (16 - d) ≤ 65536
part_within d p le inside =
    let sum : d + (16 - d) ≡ 16 = omega arith in
    let whole : 2 ^ d * 2 ^ (16 - d) ≡ 65536 = sym (pow-add 2 d (16 - d)) ∙ ap (λ (n : ℕ). 2 ^ n) sum in
    let up : p * 2 ^ (16 - d) ≤ 2 ^ d * 2 ^ (16 - d) = mul-le-mul_right (2 ^ (16 - d)) inside in
    omega arith

pub part_below : (d p : ℕ) → d ≤ 6 → p < 2 ^ d → p * 2 ^ (16 - d) < 65536
part_below d p le inside =
    let next : suc p * 2 ^ (16 - d) ≤ 65536 = part_within d (suc p) le inside in
    let some : 0 < 2 ^ (16 - d) = pow_pos (16 - d) in
    omega arith
