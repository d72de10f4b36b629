-- The cells of the octree in the words of the grid.
use Rattle.std.proofs.Common.{◌≡◌, ℕ, int_le, ◌+◌, ◌-◌, ◌*◌, ◌/◌, ◌^◌, ◌<◌, ◌≤◌, Bool, true, ◌&&◌, eqb, leb, ℤ, pos, negsuc, ◌+ℤ◌, ◌-ℤ◌, ◌≤ℤ◌, inl, inr, subst, arith}
use Rattle.std.proofs.Math.Nat.{lt-div-mul-add, div-mul-le_self, div-lt_iff_lt-mul, le-div_iff_mul-le}
use Rattle.std.proofs.lemmas.Bool.{and_parts, and_from, eqb-true, eq-eqb, leb-true, le-leb, cases_lt}
use Rattle.std.proofs.lemmas.Int.{ints}
use Rattle.std.proofs.lemmas.Nat.{pow_pos}
use Rattle.oemm_octree.specs.declared.points.Point.{Point}
use Rattle.oemm_octree.specs.declared.cells.Cell.{Cell}
use Rattle.oemm_octree.specs.Octree.{on_grid, from_low, place_at, is_between, cell_holds, cell_meets, root_cell, IsAtMost, IsInPart, IsOnGrid}

-- parts of k numbers each
in_part : (k n m : ℕ) → 0 < k → n / k ≡ m → (m * k ≤ n) × (n < (m + 1) * k)
in_part k n m some at = subst (λ (m : ℕ). (m * k ≤ n) × (n < (m + 1) * k)) at (
  div-mul-le_self n k,
  omega (arith, lt-div-mul-add {a = n} {b = k} some),
)

part_is : (k n m : ℕ) → 0 < k → m * k ≤ n → n < (m + 1) * k → n / k ≡ m
part_is k n m some low high =
    let least : m ≤ n / k = (le-div_iff_mul-le some).1 low in
    let most : n / k < m + 1 = (div-lt_iff_lt-mul some).1 high in
    omega arith

parts_ascend : (k n m : ℕ) → 0 < k → n ≤ m → n / k ≤ m / k
parts_ascend k n m some le = (le-div_iff_mul-le some).1 (omega (arith, div-mul-le_self n k))

-- coordinates
from_low_is : (n : ℤ) → on_grid n ≡ true → pos (from_low n) ≡ n +ℤ pos 32768
unfolding from_low
from_low_is (pos n) on = omega (arith, ints)
from_low_is (negsuc n) on = grind (arith, ints)

pub on_grid_between : (low n high : ℤ) → on_grid low ≡ true → on_grid high ≡ true → low ≤ℤ n → n ≤ℤ high
    → on_grid n ≡ true
on_grid_between low n high on_low on_high above below = grind (arith, ints)

-- the place of a coordinate
place_tells : (depth place : ℕ) (n : ℤ) → on_grid n ≡ true → place_at depth n ≡ place → IsInPart depth place n
unfolding place_at
place_tells depth place n on at =
    let same = from_low_is n on in
    let k = 2 ^ (16 - depth) in
    let parts = in_part k (from_low n) place (pow_pos (16 - depth)) at in
    (omega (arith, ints), omega (arith, ints))

place_from : (depth place : ℕ) (n : ℤ) → on_grid n ≡ true → IsInPart depth place n → place_at depth n ≡ place
unfolding place_at
place_from depth place n on inside =
    let same = from_low_is n on in
    part_is (2 ^ (16 - depth)) (from_low n) place (pow_pos (16 - depth)) (omega (arith, ints)) (omega (arith, ints))

-- three tests
three_parts : (a b c : Bool) → (a && b && c) ≡ true → (a ≡ true) × (b ≡ true) × (c ≡ true)
three_parts a b c h =
    let last = and_parts (a && b) c h in
    let first = and_parts a b last.0 in
    (first.0, first.1, last.1)

three_from : (a b c : Bool) → a ≡ true → b ≡ true → c ≡ true → (a && b && c) ≡ true
three_from a b c x y z = and_from (a && b) c (and_from a b x y) z

-- the test of an axis of a box
box_from : (low high : ℤ) → int_le low high ≡ true → low ≤ℤ high
box_from low high test = grind (arith, ints)

box_test : (low n high : ℤ) → low ≤ℤ n → n ≤ℤ high → int_le low high ≡ true
box_test low n high above below = grind (arith, ints)

-- a part between two coordinates has one of the coordinates from the one to the other
between_has : (depth place : ℕ) (low high : ℤ) → on_grid low ≡ true → on_grid high ≡ true
    → is_between depth low high place ≡ true
    → (n : ℤ) × (low ≤ℤ n) × (n ≤ℤ high) × (place_at depth n ≡ place)
unfolding is_between place_at
between_has depth place low high on_low on_high between =
    let k = 2 ^ (16 - depth) in
    let some : 0 < k = pow_pos (16 - depth) in
    let parts = three_parts (int_le low high) (leb (from_low low / k) place) (leb place (from_low high / k)) between in
    let le : low ≤ℤ high = box_from low high parts.0 in
    let least : from_low low / k ≤ place = leb-true (from_low low / k) place parts.1 in
    let most : place * k ≤ from_low high = (le-div_iff_mul-le some).0 (leb-true place (from_low high / k) parts.2) in
    let same_low = from_low_is low on_low in
    let same_high = from_low_is high on_high in
    elim (cases_lt (from_low low) (place * k)) [
      | inl below ↦
          let n = pos (place * k) -ℤ pos 32768 in
          let above : low ≤ℤ n = omega (arith, ints) in
          let under : n ≤ℤ high = omega (arith, ints) in
          let same = from_low_is n (on_grid_between low n high on_low on_high above under) in
          let at : from_low n ≡ place * k = omega (arith, ints) in
          (n, above, under, part_is k (from_low n) place some (omega arith) (omega arith))
      | inr above ↦ (
        low,
        omega (arith, ints),
        le,
        part_is k (from_low low) place some above
            ((div-lt_iff_lt-mul some).0 (omega arith)),
      )
    ]

has_between : (depth place : ℕ) (low n high : ℤ) → on_grid low ≡ true → on_grid high ≡ true → low ≤ℤ n
    → n ≤ℤ high → place_at depth n ≡ place → is_between depth low high place ≡ true
unfolding is_between place_at
has_between depth place low n high on_low on_high above below at =
    let k = 2 ^ (16 - depth) in
    let some : 0 < k = pow_pos (16 - depth) in
    let same_low = from_low_is low on_low in
    let same_high = from_low_is high on_high in
    let same = from_low_is n (on_grid_between low n high on_low on_high above below) in
    let least = parts_ascend k (from_low low) (from_low n) some (omega (arith, ints)) in
    let most = parts_ascend k (from_low n) (from_low high) some (omega (arith, ints)) in
    three_from (int_le low high) (leb (from_low low / k) place) (leb place (from_low high / k))
    (box_test low n high above below)
    (le-leb (from_low low / k) place (omega arith)) (le-leb place (from_low high / k) (omega arith))

-- cells
pub holds_at : (c : Cell) (p : Point) → place_at c.depth p.x ≡ c.x → place_at c.depth p.y ≡ c.y
    → place_at c.depth p.z ≡ c.z → cell_holds c p ≡ true
holds_at c p x y z =
    three_from (eqb (place_at c.depth p.x) c.x) (eqb (place_at c.depth p.y) c.y) (eqb (place_at c.depth p.z) c.z)
    (eq-eqb (place_at c.depth p.x) c.x x) (eq-eqb (place_at c.depth p.y) c.y y) (eq-eqb (place_at c.depth p.z) c.z z)

pub at_holds : (c : Cell) (p : Point) → cell_holds c p ≡ true
    → (place_at c.depth p.x ≡ c.x) × (place_at c.depth p.y ≡ c.y) × (place_at c.depth p.z ≡ c.z)
at_holds c p holds =
    let axes = three_parts (eqb (place_at c.depth p.x) c.x) (eqb (place_at c.depth p.y) c.y)
    (eqb (place_at c.depth p.z) c.z) holds in (
      eqb-true (place_at c.depth p.x) c.x axes.0,
      eqb-true (place_at c.depth p.y) c.y axes.1,
      eqb-true (place_at c.depth p.z) c.z axes.2,
    )

pub holds_tells : (c : Cell) (p : Point) → IsOnGrid p → cell_holds c p ≡ true
    → IsInPart c.depth c.x p.x × IsInPart c.depth c.y p.y × IsInPart c.depth c.z p.z
holds_tells c p on holds =
    let at = at_holds c p holds in (
      place_tells c.depth c.x p.x on.0 at.0,
      place_tells c.depth c.y p.y on.1 at.1,
      place_tells c.depth c.z p.z on.2 at.2,
    )

pub holds_from : (c : Cell) (p : Point) → IsOnGrid p
    → IsInPart c.depth c.x p.x × IsInPart c.depth c.y p.y × IsInPart c.depth c.z p.z → cell_holds c p ≡ true
holds_from c p on inside =
    holds_at c p (place_from c.depth c.x p.x on.0 inside.0) (place_from c.depth c.y p.y on.1 inside.1)
    (place_from c.depth c.z p.z on.2 inside.2)

pub meets_has : (c : Cell) (low high : Point) → IsOnGrid low → IsOnGrid high → cell_meets low high c ≡ true
    → (p : Point) × IsAtMost low p × IsAtMost p high × (cell_holds c p ≡ true)
meets_has c low high on_low on_high meets =
    let axes = three_parts (is_between c.depth low.x high.x c.x) (is_between c.depth low.y high.y c.y)
    (is_between c.depth low.z high.z c.z) meets in
    let x = between_has c.depth c.x low.x high.x on_low.0 on_high.0 axes.0 in
    let y = between_has c.depth c.y low.y high.y on_low.1 on_high.1 axes.1 in
    let z = between_has c.depth c.z low.z high.z on_low.2 on_high.2 axes.2 in
    let p : Point = record { x = x.0; y = y.0; z = z.0 } in
    (p, (x.1, y.1, z.1), (x.2, y.2, z.2), holds_at c p x.3 y.3 z.3)

pub has_meets : (c : Cell) (low high p : Point) → IsOnGrid low → IsOnGrid high → IsAtMost low p
    → IsAtMost p high → cell_holds c p ≡ true → cell_meets low high c ≡ true
has_meets c low high p on_low on_high above below holds =
    let at = at_holds c p holds in
    three_from (is_between c.depth low.x high.x c.x) (is_between c.depth low.y high.y c.y)
    (is_between c.depth low.z high.z c.z)
    (has_between c.depth c.x low.x p.x high.x on_low.0 on_high.0 above.0 below.0 at.0)
    (has_between c.depth c.y low.y p.y high.y on_low.1 on_high.1 above.1 below.1 at.1)
    (has_between c.depth c.z low.z p.z high.z on_low.2 on_high.2 above.2 below.2 at.2)

-- the cube has the points of the grid
whole_axis : (n : ℤ) → on_grid n ≡ true → IsInPart 0 0 n
whole_axis n on = let same = from_low_is n on in let parts = on_both n on in (omega (arith, ints), omega (arith, ints))
  where
    on_both : (n : ℤ) → on_grid n ≡ true → (negsuc 32767 ≤ℤ n) × (n ≤ℤ pos 32767)
    on_both n on = (grind (arith, ints), grind (arith, ints))

pub root_holds : (p : Point) → IsOnGrid p → cell_holds root_cell p ≡ true
root_holds p on = holds_from root_cell p on (whole_axis p.x on.0, whole_axis p.y on.1, whole_axis p.z on.2)
