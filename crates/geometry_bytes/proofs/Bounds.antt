-- The bounds of a quadric.
use Rattle.std.proofs.Common.{◌≡◌, ℕ, ◌+◌, ◌*◌, ◌^◌, ◌≤◌, ◌<◌, Bool, true, ◌&&◌, ℤ, pos, ◌≤ℤ◌, nat_abs, FitsSigned, to_z, of_z, arith}
use Rattle.std.specs.Int.{w128}
use Rattle.std.specs.Int.RustNames.{int_le}
use Rattle.std.specs.Prelude.{nat_le}
use Rattle.std.proofs.lemmas.Bool.{and_parts, and_from, leb-true, le-leb}
use Rattle.std.proofs.lemmas.Int.{ints, to_z-of_z, fits_signed_from_abs}
use Rattle.std.proofs.lemmas.Nat.{mul-le}
use Rattle.mesh_data.specs.Planes.{Sums, AreBounded, most_planes}
use Rattle.geometry_bytes.specs.Geometry.{is_within, are_within, is_bounded, FitsSums}

within : (bound : ℕ) (z : ℤ) → is_within bound z ≡ true → nat_abs z ≤ bound
unfolding is_within
within bound z e = leb-true _ _ e

record Three (bound : ℕ) (a b c : ℤ) : Type 0 where
  one : nat_abs a ≤ bound
  two : nat_abs b ≤ bound
  three : nat_abs c ≤ bound

all_within : (bound : ℕ) (a b c : ℤ) → are_within bound a b c ≡ true → Three bound a b c
unfolding are_within
all_within bound a b c e =
    let p = and_parts _ _ e in
    let q = and_parts _ _ p.1 in
    record { one = within bound a p.0; two = within bound b q.0; three = within bound c q.1 }

not_negative : (z : ℤ) → int_le (pos 0) z ≡ true → pos 0 ≤ℤ z
not_negative z e = grind (arith, ints)

pub AreBounded-tested : (s : Sums) → is_bounded s ≡ true → AreBounded s
unfolding is_bounded
AreBounded-tested s e =
    let p = and_parts _ _ e in
    let q = and_parts _ _ p.1 in
    let r = and_parts _ _ q.0 in
    let t = and_parts _ _ q.1 in
    let u = and_parts _ _ t.1 in
    let one = all_within (s.planes * 2 ^ 64) s.aa s.ab s.ac r.0 in
    let two = all_within (s.planes * 2 ^ 64) s.bb s.bc s.cc r.1 in
    let three = all_within (s.planes * 2 ^ 81) s.ad s.bd s.cd t.0 in
    record {
      planes = leb-true _ _ p.0;
      aa = one.one;
      ab = one.two;
      ac = one.three;
      ad = three.one;
      bb = two.one;
      bc = two.two;
      bd = three.two;
      cc = two.three;
      cd = three.three;
      dd_low = not_negative s.dd u.0;
      dd = within (s.planes * 2 ^ 98) s.dd u.1;
    }

fits : (planes k : ℕ) (z : ℤ) → planes ≤ most_planes → k ≤ 2 ^ 98 → nat_abs z ≤ planes * k → FitsSigned w128 z
fits planes k z few small h =
    let b : planes * k ≤ most_planes * 2 ^ 98 = mul-le planes k _ _ few small in
    fits_signed_from_abs w128 z (omega arith)

-- the sums that the code puts into a quadric
pub AreBounded-read : (s : Sums) → is_bounded s ≡ true
    → AreBounded (record {
      planes = s.planes;
      aa = to_z w128 (of_z w128 s.aa);
      ab = to_z w128 (of_z w128 s.ab);
      ac = to_z w128 (of_z w128 s.ac);
      ad = to_z w128 (of_z w128 s.ad);
      bb = to_z w128 (of_z w128 s.bb);
      bc = to_z w128 (of_z w128 s.bc);
      bd = to_z w128 (of_z w128 s.bd);
      cc = to_z w128 (of_z w128 s.cc);
      cd = to_z w128 (of_z w128 s.cd);
      dd = to_z w128 (of_z w128 s.dd);
    })
AreBounded-read s e =
    let b = AreBounded-tested s e in
    let f1 = fits s.planes (2 ^ 64) s.aa b.planes (omega arith) b.aa in
    let f2 = fits s.planes (2 ^ 64) s.ab b.planes (omega arith) b.ab in
    let f3 = fits s.planes (2 ^ 64) s.ac b.planes (omega arith) b.ac in
    let f4 = fits s.planes (2 ^ 81) s.ad b.planes (omega arith) b.ad in
    let f5 = fits s.planes (2 ^ 64) s.bb b.planes (omega arith) b.bb in
    let f6 = fits s.planes (2 ^ 64) s.bc b.planes (omega arith) b.bc in
    let f7 = fits s.planes (2 ^ 81) s.bd b.planes (omega arith) b.bd in
    let f8 = fits s.planes (2 ^ 64) s.cc b.planes (omega arith) b.cc in
    let f9 = fits s.planes (2 ^ 81) s.cd b.planes (omega arith) b.cd in
    let f10 = fits s.planes (2 ^ 98) s.dd b.planes (omega arith) b.dd in
    simp to_z-of_z b

-- ---- what is within the bounds passes the test, and fits

tested_within : (bound : ℕ) (z : ℤ) → nat_abs z ≤ bound → is_within bound z ≡ true
unfolding is_within
tested_within bound z le = le-leb _ _ le

three_within : (bound : ℕ) (a b c : ℤ) → nat_abs a ≤ bound → nat_abs b ≤ bound → nat_abs c ≤ bound
    → are_within bound a b c ≡ true
unfolding are_within
three_within bound a b c f g h =
    and_from _ _ (tested_within bound a f) (and_from _ _ (tested_within bound b g) (tested_within bound c h))

tested_not_negative : (z : ℤ) → pos 0 ≤ℤ z → int_le (pos 0) z ≡ true
tested_not_negative z h = grind (arith, ints)

pub AreBounded-passes : (s : Sums) → AreBounded s → is_bounded s ≡ true
unfolding is_bounded
AreBounded-passes s b =
    and_from _ _ (le-leb _ _ b.planes)
    (and_from _ _
    (and_from _ _ (three_within _ s.aa s.ab s.ac b.aa b.ab b.ac) (three_within _ s.bb s.bc s.cc b.bb b.bc b.cc))
    (and_from _ _ (three_within _ s.ad s.bd s.cd b.ad b.bd b.cd)
    (and_from _ _ (tested_not_negative s.dd b.dd_low) (tested_within _ s.dd b.dd))))

pub AreBounded-fits : (s : Sums) → AreBounded s → FitsSums s
AreBounded-fits s b =
    let long : (k : ℕ) (z : ℤ) → k ≤ 2 ^ 98 → nat_abs z ≤ s.planes * k → FitsSigned w128 z =
    λ k z small h. fits s.planes k z b.planes small h in (
      tt,
      (
        let few = b.planes in omega arith,
        (
          long (2 ^ 64) s.aa (omega arith) b.aa,
          (
            long (2 ^ 64) s.ab (omega arith) b.ab,
            (
              long (2 ^ 64) s.ac (omega arith) b.ac,
              (
                long (2 ^ 81) s.ad (omega arith) b.ad,
                (
                  long (2 ^ 64) s.bb (omega arith) b.bb,
                  (
                    long (2 ^ 64) s.bc (omega arith) b.bc,
                    (
                      long (2 ^ 81) s.bd (omega arith) b.bd,
                      (
                        long (2 ^ 64) s.cc (omega arith) b.cc,
                        (long (2 ^ 81) s.cd (omega arith) b.cd, long (2 ^ 98) s.dd (omega arith) b.dd),
                      ),
                    ),
                  ),
                ),
              ),
            ),
          ),
        ),
      ),
    )
