-- The sizes of sums and of products of integers, and the bounds of sums of products.
use Rattle.std.proofs.Common.{◌≡◌, ℕ, ◌+◌, ◌*◌, ◌^◌, ◌≤◌, ◌<◌, ℤ, pos, ◌+ℤ◌, ◌*ℤ◌, ◌≤ℤ◌, nat_abs, FitsSigned, to_z, of_z, w16, w64, lit≤, arith}
use Rattle.std.proofs.Math.Nat.{mul-le-mul, mul-le-mul_left}
use Rattle.std.specs.Int.{w128}
use Rattle.mesh_data.specs.declared.planes.Plane.{Plane}
use Rattle.mesh_data.specs.Planes.{Sums, AreBounded, added, products, most_planes}
use Rattle.std.proofs.lemmas.Int.{ints, unsigned_abs-mul, to_z-of_z, fits_signed_from_abs}
use Rattle.oemm_plane.proofs.SumsRing.{square_not_negative}

pub size_sum : (a b : ℤ) → nat_abs (a +ℤ b) ≤ nat_abs a + nat_abs b
size_sum a b = omega (arith, ints)

pub size_product : (a x : ℤ) → FitsSigned w16 x → nat_abs (a *ℤ x) ≤ nat_abs a * 2 ^ 15
size_product a x f =
    let small : nat_abs x ≤ 2 ^ 15 = omega (arith, ints) in
    omega (arith, unsigned_abs-mul a x, mul-le-mul_left (nat_abs a) small)

-- the code's product of a number and a coordinate
pub read_product : (k x : ℤ) → FitsSigned w128 k → FitsSigned w16 x → nat_abs k ≤ 2 ^ 111
    → to_z w128 (of_z w128 (to_z w128 (of_z w128 k) *ℤ to_z w128 (of_z w128 (to_z w16 (of_z w16 x))))) ≡ k *ℤ x
read_product k x f g h =
    let wide : FitsSigned w128 x = omega (arith, ints) in
    let whole : FitsSigned w128 (k *ℤ x) = fits_signed_from_abs w128 (k *ℤ x) (omega (arith, size_product k x g)) in
    simp to_z-of_z

-- the code's sum, and its product of two coefficients
pub read_sum : (a b r : ℤ) → FitsSigned w128 a → FitsSigned w128 b → FitsSigned w128 r
    → r ≡ to_z w128 (of_z w128 a) +ℤ to_z w128 (of_z w128 b) → to_z w128 (of_z w128 r) ≡ a +ℤ b
read_sum a b r f g h e = simp to_z-of_z (simp to_z-of_z at e)

pub read_pair : (a b r : ℤ) → FitsSigned w64 a → FitsSigned w64 b → FitsSigned w128 r
    → r ≡ to_z w64 (of_z w64 a) *ℤ to_z w64 (of_z w64 b) → to_z w128 (of_z w128 r) ≡ a *ℤ b
read_pair a b r f g h e = simp to_z-of_z (simp to_z-of_z at e)

-- sums of bounded sums
size_both : (a b : ℤ) (m n k : ℕ) → nat_abs a ≤ m * k → nat_abs b ≤ n * k → nat_abs (a +ℤ b) ≤ (m + n) * k
size_both a b m n k h j = let sum = size_sum a b in omega arith

low_both : (a b : ℤ) → pos 0 ≤ℤ a → pos 0 ≤ℤ b → pos 0 ≤ℤ (a +ℤ b)
low_both a b h j = omega (arith, ints)

pub AreBounded-added : (s t : Sums) → AreBounded s → AreBounded t → s.planes + t.planes ≤ most_planes → AreBounded (added s t)
AreBounded-added s t f g h = record {
  planes = h;
  aa = size_both s.aa t.aa s.planes t.planes (2 ^ 64) f.aa g.aa;
  ab = size_both s.ab t.ab s.planes t.planes (2 ^ 64) f.ab g.ab;
  ac = size_both s.ac t.ac s.planes t.planes (2 ^ 64) f.ac g.ac;
  ad = size_both s.ad t.ad s.planes t.planes (2 ^ 81) f.ad g.ad;
  bb = size_both s.bb t.bb s.planes t.planes (2 ^ 64) f.bb g.bb;
  bc = size_both s.bc t.bc s.planes t.planes (2 ^ 64) f.bc g.bc;
  bd = size_both s.bd t.bd s.planes t.planes (2 ^ 81) f.bd g.bd;
  cc = size_both s.cc t.cc s.planes t.planes (2 ^ 64) f.cc g.cc;
  cd = size_both s.cd t.cd s.planes t.planes (2 ^ 81) f.cd g.cd;
  dd_low = low_both s.dd t.dd f.dd_low g.dd_low;
  dd = size_both s.dd t.dd s.planes t.planes (2 ^ 98) f.dd g.dd;
}

size_pair : (a b : ℤ) (m n k : ℕ) → nat_abs a ≤ m → nat_abs b ≤ n → m * n ≤ k → nat_abs (a *ℤ b) ≤ k
size_pair a b m n k h j l = omega (arith, unsigned_abs-mul a b, mul-le-mul h j)

pub AreBounded-products : (l : Plane) → nat_abs l.nx < 2 ^ 32 → nat_abs l.ny < 2 ^ 32 → nat_abs l.nz < 2 ^ 32 → nat_abs l.d < 2 ^ 49 → AreBounded (products l)
AreBounded-products l x y z d =
    let n = 2 ^ 32 in
    let m = 2 ^ 49 in
    let x' : nat_abs l.nx ≤ n = omega arith in
    let y' : nat_abs l.ny ≤ n = omega arith in
    let z' : nat_abs l.nz ≤ n = omega arith in
    let d' : nat_abs l.d ≤ m = omega arith in
    record {
      planes = lit≤ tt;
      aa = size_pair l.nx l.nx n n (1 * 2 ^ 64) x' x' (lit≤ tt);
      ab = size_pair l.nx l.ny n n (1 * 2 ^ 64) x' y' (lit≤ tt);
      ac = size_pair l.nx l.nz n n (1 * 2 ^ 64) x' z' (lit≤ tt);
      ad = size_pair l.nx l.d n m (1 * 2 ^ 81) x' d' (lit≤ tt);
      bb = size_pair l.ny l.ny n n (1 * 2 ^ 64) y' y' (lit≤ tt);
      bc = size_pair l.ny l.nz n n (1 * 2 ^ 64) y' z' (lit≤ tt);
      bd = size_pair l.ny l.d n m (1 * 2 ^ 81) y' d' (lit≤ tt);
      cc = size_pair l.nz l.nz n n (1 * 2 ^ 64) z' z' (lit≤ tt);
      cd = size_pair l.nz l.d n m (1 * 2 ^ 81) z' d' (lit≤ tt);
      dd_low = square_not_negative l.d;
      dd = size_pair l.d l.d m m (1 * 2 ^ 98) d' d' (lit≤ tt);
    }
