-- Numbers of cells, as the code computes them.
use Rattle.std.proofs.Common.{◌≡◌, ℕ, zero, suc, ◌+◌, ◌-◌, ◌*◌, ◌/◌, ◌%◌, ◌^◌, ◌<◌, ◌≤◌, ap, ◌∙◌, refl, subst, arith}
use Rattle.std.proofs.Math.Nat.{pow-suc, pow-le-pow_right}
use Rattle.oemm_octree.specs.Morton.{morton}

-- one octant number more
pub morton_is : (d x y z a b e r : ℕ) → (d ≡ 0 → ⊥) → a ≡ x % 2 → b ≡ y % 2 → e ≡ z % 2
    → r ≡ morton (d - 1) (x / 2) (y / 2) (z / 2) → a + 2 * b + 4 * e + 8 * r ≡ morton d x y z
unfolding morton
morton_is zero x y z a b e r some ea eb ee er = absurd (some refl)
morton_is (suc d) x y z a b e r some ea eb ee er =
    let last : r ≡ morton d (x / 2) (y / 2) (z / 2) = er
    ∙ ap (λ (n : ℕ). morton n (x / 2) (y / 2) (z / 2)) (omega arith) in
    λ i. ea i + 2 * eb i + 4 * ee i + 8 * last i

pub morton_small : (d x y z a b e r : ℕ) → (d ≡ 0 → ⊥) → a ≡ x % 2 → b ≡ y % 2 → e ≡ z % 2 → r < 8 ^ (d - 1)
    → a + 2 * b + 4 * e + 8 * r < 8 ^ d
morton_small zero x y z a b e r some ea eb ee lt = absurd (some refl)
morton_small (suc d) x y z a b e r some ea eb ee lt =
    let below : r < 8 ^ d = subst (λ (n : ℕ). r < 8 ^ n) (omega arith) lt in
    let power = pow-suc 8 d in
    omega arith

pub power_few : (d : ℕ) → d ≤ 6 → 8 ^ d ≤ 262144
power_few d le = pow-le-pow_right {n = 8} (omega arith) {i = d} {j = 6} le

pub power_five : (d : ℕ) → d ≤ 5 → 8 ^ d ≤ 32768
power_five d le = pow-le-pow_right {n = 8} (omega arith) {i = d} {j = 5} le
