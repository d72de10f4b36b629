-- Numbers that a program computes: they are read back as they were.
use Rattle.std.proofs.Common.{◌≡◌, ℕ, ◌<◌, ◌≤◌, ◌^◌, ◌*◌, arith, to_z, of_z, w64}
use mir.Syntax.{w128}
use Rattle.std.proofs.Math.IntN.{ℤ, pos, ◌+ℤ◌, ◌-ℤ◌, ◌*ℤ◌, neg_ℤ, nat_abs}
use Rattle.std.proofs.Math.Nat.{mul-le-mul}
use Rattle.std.proofs.lemmas.Int.{ints, unsigned_abs-mul}

pub same_long : (z : ℤ) → nat_abs z < 2 ^ 63 → to_z w64 (of_z w64 z) ≡ z
same_long z h = omega (arith, ints)

pub same_wide : (z : ℤ) → nat_abs z < 2 ^ 127 → to_z w128 (of_z w128 z) ≡ z
same_wide z h = omega (arith, ints)

pub product_of_longs : (p q m : ℤ) → nat_abs p < 2 ^ 63 → nat_abs q < 2 ^ 63 → m ≡ to_z w64 (of_z w64 p) *ℤ to_z w64 (of_z w64 q) → m ≡ p *ℤ q
product_of_longs p q m hp hq e = let sp = same_long p hp in let sq = same_long q hq in cc

pub difference_of_longs : (m n : ℤ) → nat_abs m < 2 ^ 62 → nat_abs n < 2 ^ 62 → to_z w64 (of_z w64 (to_z w64 (of_z w64 m) -ℤ to_z w64 (of_z w64 n))) ≡ m -ℤ n
difference_of_longs m n hm hn = omega (arith, ints)

pub sum_of_longs : (l m n : ℤ) → nat_abs l ≤ 2 ^ 60 → nat_abs m ≤ 2 ^ 60 → nat_abs n ≤ 2 ^ 60 → to_z w64 (of_z w64 (to_z w64 (of_z w64 (to_z w64 (of_z w64 l) +ℤ to_z w64 (of_z w64 m))) +ℤ to_z w64 (of_z w64 n))) ≡ (l +ℤ m) +ℤ n
sum_of_longs l m n hl hm hn = omega (arith, ints)

pub sum_of_wides : (l m n : ℤ) → nat_abs l ≤ 2 ^ 124 → nat_abs m ≤ 2 ^ 124 → nat_abs n ≤ 2 ^ 124 → to_z w128 (of_z w128 (to_z w128 (of_z w128 (to_z w128 (of_z w128 l) +ℤ to_z w128 (of_z w128 m))) +ℤ to_z w128 (of_z w128 n))) ≡ (l +ℤ m) +ℤ n
sum_of_wides l m n hl hm hn = omega (arith, ints)

-- the size of a product
pub product_size : (a b : ℤ) (m n : ℕ) → nat_abs a ≤ m → nat_abs b ≤ n → nat_abs (a *ℤ b) ≤ m * n
product_size a b m n ha hb = let e = unsigned_abs-mul a b in let h = mul-le-mul ha hb in omega arith

pub opposite_of_long : (m : ℤ) → nat_abs m < 2 ^ 63 → to_z w64 (of_z w64 (pos 0 -ℤ to_z w64 (of_z w64 m))) ≡ neg_ℤ m
opposite_of_long m h = omega (arith, ints)
