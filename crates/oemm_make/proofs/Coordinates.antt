-- The coordinates of a sample's vertices.
use Rattle.std.proofs.Common.{◌≡◌, ℕ, ◌+◌, ◌-◌, ◌*◌, ◌/◌, ◌<◌, ◌≤◌, ap, subst, arith}
use Rattle.std.proofs.Math.Nat.{mul-le-mul_left}
use Rattle.std.proofs.Math.IntN.{ℤ, pos, ◌+ℤ◌, ◌-ℤ◌, ◌*ℤ◌, neg_ℤ}
use borrow.Author.Differences.{up, down, same_in, sum_is_lem, neg_is, product_is}
use Rattle.oemm_make.specs.Sample.{half_step, coordinate}

-- a product with a difference
spread : (s a b : ℕ) → pos s *ℤ (pos a -ℤ pos b) ≡ pos (s * a) -ℤ pos (s * b)
spread s a b =
    let difference = sum_is_lem (pos a) (neg_ℤ (pos b)) in
    let sign = neg_is (pos b) in
    let wide = ap (λ x. s * x) difference in
    let below = ap (λ x. s * x) sign.0 in
    let above = ap (λ x. s * x) sign.1 in
    same_in (pos s *ℤ (pos a -ℤ pos b)) (pos (s * a) -ℤ pos (s * b))
    (omega (arith, product_is (pos s) (pos a -ℤ pos b), sum_is_lem (pos (s * a)) (neg_ℤ (pos (s * b))), neg_is (pos (s * b))))

-- the coordinate as a difference of two products
pub coordinate_is :
    (side place : ℕ) →
    coordinate side place ≡ pos (half_step side * (2 * place + 1)) -ℤ pos (half_step side * side)
unfolding coordinate
coordinate_is side place = spread (half_step side) (2 * place + 1) side

-- two products that are no further apart than the grid is wide on either side of its middle
pub record AreNear (a b : ℕ) : Type 0 where
  pub above : a ≤ b + 32767
  pub below : b ≤ a + 32767
  pub small : b ≤ 65534

near : (s m p : ℕ) → s * m ≤ 32767 → 1 ≤ m → p ≤ m → AreNear (s * (2 * p + 1)) (s * (m + 1))
near s m p small some inside =
    let below : s * p ≤ s * m = mul-le-mul_left s inside in
    let least : s * 1 ≤ s * m = mul-le-mul_left s some in
    record { above = omega arith; below = omega arith; small = omega arith }

pub apart : (side place : ℕ) → 2 ≤ side → place < side → AreNear (half_step side * (2 * place + 1)) (half_step side * side)
apart side place least inside =
    let some : 0 < side - 1 = omega arith in
    let fits : half_step side * (side - 1) ≤ 32767 = omega arith in
    let whole : side - 1 + 1 ≡ side = omega arith in
    let held : AreNear (half_step side * (2 * place + 1)) (half_step side * (side - 1 + 1))
    = near (half_step side) (side - 1) place fits (omega arith) (omega arith) in
    let P : ℕ → Type 0 = λ n. AreNear (half_step side * (2 * place + 1)) (half_step side * n) in
    subst P whole held
