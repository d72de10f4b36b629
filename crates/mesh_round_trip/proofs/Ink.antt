-- The bytes of numbers that are written.
use Rattle.std.proofs.Common.{◌≡◌, ℕ, suc, ◌^◌, ◌<◌, ◌≤◌, nat_lt, nat_le, Bool, true, false, ◌&&◌, ◌==◌, List, [], ◌∷◌, ◌++◌, length, refl, arith, ℤ, pos, negsuc, nat_abs, ne_eqb, ltb-true, leb-true}
use Rattle.std.specs.List.{AllByRecursion, list_all}
use Rattle.std.specs.Str.Parse.{AllDigits}
use Rattle.std.specs.Fmt.{decimal, signed_decimal}
use Rattle.std.proofs.lemmas.Fmt.{decimal_is_IsNumeral_wide, length-decimal-le_wide}
use Rattle.std.proofs.lemmas.Str.Parse.{digit_from_value}
use Rattle.std.proofs.lemmas.Int.{ints}
use Rattle.std.proofs.lemmas.Bool.Decides.{nat_tests}
use Rattle.oemm_octree.specs.Octree.{on_grid}

-- a byte that ends no line, parts no words, begins no comment and is no plus
abbrev pub IsInk : ℕ → Type 0
IsInk c = 44 < c

-- a short word of such bytes
pub record IsInked (word : List ℕ) : Type 0 where
  pub some : 0 < length word
  pub short : length word ≤ 20
  pub ink : AllByRecursion IsInk word

abbrev is_ink : ℕ → Bool
is_ink c = nat_lt 44 c

abbrev pub is_inked : List ℕ → Bool
is_inked word = nat_lt 0 (length word) && (nat_le (length word) 20 && list_all is_ink word)

both : (a b : Bool) → (a && b) ≡ true → (a ≡ true) × (b ≡ true)
both true b holds = (refl, holds)
both false b holds = absurd (cc holds)

ink_by_test : (word : List ℕ) → list_all is_ink word ≡ true → AllByRecursion IsInk word
ink_by_test [] test = tt
ink_by_test (c ∷ cs) test =
    let parts = both (is_ink c) (list_all is_ink cs) test in
    (ltb-true 44 c parts.0, ink_by_test cs parts.1)

pub inked_by_test : (word : List ℕ) → is_inked word ≡ true → IsInked word
inked_by_test word test =
    let parts = both (nat_lt 0 (length word)) (nat_le (length word) 20 && list_all is_ink word) test in
    let more = both (nat_le (length word) 20) (list_all is_ink word) parts.1 in
    record {
      some = ltb-true 0 (length word) parts.0;
      short = leb-true (length word) 20 more.0;
      ink = ink_by_test word more.1;
    }

-- words that pass the test, before any others
pub all_inked : (words more : List (List ℕ)) → list_all is_inked words ≡ true → AllByRecursion IsInked more → AllByRecursion IsInked (words ++ more)
all_inked [] more test inked = inked
all_inked (word ∷ words) more test inked =
    let parts = both (is_inked word) (list_all is_inked words) test in
    (inked_by_test word parts.0, all_inked words more parts.1 inked)

digits_ink : (ds : List ℕ) → AllDigits 10 ds → AllByRecursion IsInk ds
digits_ink [] digits = tt
digits_ink (c ∷ cs) digits = (omega (arith, digit_from_value c digits.0), digits_ink cs digits.1)

digits_no_point : (ds : List ℕ) → AllDigits 10 ds → AllByRecursion (λ c. (c == 46) ≡ false) ds
digits_no_point [] digits = tt
digits_no_point (c ∷ cs) digits = (ne_eqb c 46 (omega (arith, digit_from_value c digits.0)), digits_no_point cs digits.1)

short_decimal : (k n : ℕ) → 0 < k → n < 10 ^ k → n < 10 ^ 64 → k ≤ 19 → IsInked (decimal n)
short_decimal k n some fits small few = record {
  some = (decimal_is_IsNumeral_wide n small).0.0;
  short = omega (arith, length-decimal-le_wide k n some fits small);
  ink = digits_ink (decimal n) (decimal_is_IsNumeral_wide n small).0.1;
}

-- the decimal text of a number up to the greatest count
pub decimal_inked : (n : ℕ) → n ≤ 16777216 → IsInked (decimal n)
decimal_inked n few = short_decimal 8 n (omega arith) (omega arith) (omega arith) (omega arith)

-- a coordinate is small
pub grid_small : (z : ℤ) → on_grid z ≡ true → nat_abs z ≤ 32768
grid_small (pos n) grid = grind (arith, nat_tests, ints)
grid_small (negsuc n) grid = grind (arith, nat_tests, ints)

pub grid_low : (n : ℕ) → on_grid (pos n) ≡ true → n ≤ 32767
grid_low n grid = grind (arith, nat_tests, ints)

signed_inked : (z : ℤ) → nat_abs z ≤ 32768 → IsInked (signed_decimal z)
signed_inked (pos n) small = decimal_inked n (omega arith)
signed_inked (negsuc n) small =
    let digits : IsInked (decimal (suc n)) = short_decimal 5 (suc n) (omega arith) (omega arith) (omega arith) (omega arith) in
    let fits : length (decimal (suc n)) ≤ 5 = length-decimal-le_wide 5 (suc n) (omega arith) (omega arith) (omega arith) in
    record {
      some = omega arith;
      short = omega arith;
      ink = (omega arith, digits.ink);
    }

-- and so is its text
pub coordinate_inked : (z : ℤ) → on_grid z ≡ true → IsInked (signed_decimal z)
coordinate_inked z grid = signed_inked z (grid_small z grid)

-- in which no point stands
pub signed_no_point : (z : ℤ) → nat_abs z ≤ 32768 → AllByRecursion (λ c. (c == 46) ≡ false) (signed_decimal z)
signed_no_point (pos n) small = digits_no_point (decimal n) (decimal_is_IsNumeral_wide n (omega arith)).0.1
signed_no_point (negsuc n) small = (refl, digits_no_point (decimal (suc n)) (decimal_is_IsNumeral_wide (suc n) (omega arith)).0.1)
