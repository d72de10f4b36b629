-- The bytes of words that are written.
use Rattle.std.proofs.Common.{◌≡◌, ℕ, suc, ◌+◌, ◌^◌, ◌<◌, ◌≤◌, nat_lt, nat_le, Bool, true, false, ◌&&◌, List, [], ◌∷◌, length, refl, arith, ℤ, pos, negsuc, nat_abs, ltb-true, leb-true}
use Rattle.std.specs.List.{AllByRecursion, list_all}
use Rattle.std.specs.Str.Parse.{AllDigits}
use Rattle.std.specs.Fmt.{decimal, signed_decimal}
use Rattle.std.proofs.lemmas.Fmt.{decimal_is_IsNumeral_wide, length-decimal-le_wide}
use Rattle.std.proofs.lemmas.Str.Parse.{digit_from_value}
use Rattle.std.proofs.lemmas.Int.{ints}
use Rattle.std.proofs.lemmas.Bool.Decides.{nat_tests}
use Rattle.oemm_limits.specs.declared.TheConstants.{MOST_COST}
use Rattle.oemm_octree.specs.Octree.{on_grid}
use Rattle.edit_script.specs.Ranges.{IsCostBound}

-- a byte that ends no line, parts no words and begins no comment
abbrev pub IsInk : ℕ → Type 0
IsInk c = 44 < c

-- a word of such bytes, so many at most
pub record IsInked (most : ℕ) (word : List ℕ) : Type 0 where
  pub some : 0 < length word
  pub short : length word ≤ most
  pub ink : AllByRecursion IsInk word

abbrev is_ink : ℕ → Bool
is_ink c = nat_lt 44 c

abbrev pub is_inked : ℕ → List ℕ → Bool
is_inked most word = nat_lt 0 (length word) && (nat_le (length word) most && list_all is_ink word)

both : (a b : Bool) → (a && b) ≡ true → (a ≡ true) × (b ≡ true)
both true b holds = (refl, holds)
both false b holds = absurd (cc holds)

ink_by_test : (word : List ℕ) → list_all is_ink word ≡ true → AllByRecursion IsInk word
ink_by_test [] test = tt
ink_by_test (c ∷ cs) test =
    let parts = both (is_ink c) (list_all is_ink cs) test in
    (ltb-true 44 c parts.0, ink_by_test cs parts.1)

pub inked_by_test : (most : ℕ) (word : List ℕ) → is_inked most word ≡ true → IsInked most word
inked_by_test most word test =
    let parts = both (nat_lt 0 (length word)) (nat_le (length word) most && list_all is_ink word) test in
    let more = both (nat_le (length word) most) (list_all is_ink word) parts.1 in
    record {
      some = ltb-true 0 (length word) parts.0;
      short = leb-true (length word) most more.0;
      ink = ink_by_test word more.1;
    }

digits_ink : (ds : List ℕ) → AllDigits 10 ds → AllByRecursion IsInk ds
digits_ink [] digits = tt
digits_ink (c ∷ cs) digits = (omega (arith, digit_from_value c digits.0), digits_ink cs digits.1)

pub decimal_inked : (k n : ℕ) → 0 < k → n < 10 ^ k → n < 10 ^ 64 → IsInked k (decimal n)
decimal_inked k n some fits small = record {
  some = (decimal_is_IsNumeral_wide n small).0.0;
  short = length-decimal-le_wide k n some fits small;
  ink = digits_ink (decimal n) (decimal_is_IsNumeral_wide n small).0.1;
}

pub longer : (least most : ℕ) (word : List ℕ) → least ≤ most → IsInked least word → IsInked most word
longer least most word le inked = record { some = inked.some; short = omega (arith, inked.short); ink = inked.ink }

-- the decimal text of a name, or of anything less
pub name_inked : (n : ℕ) → n < 2 ^ 32 → IsInked 10 (decimal n)
name_inked n below = decimal_inked 10 n (omega arith) (omega arith) (omega arith)

-- a coordinate is small, and so is its text
pub grid_small : (z : ℤ) → on_grid z ≡ true → nat_abs z ≤ 32768
grid_small (pos n) grid = grind (arith, nat_tests, ints)
grid_small (negsuc n) grid = grind (arith, nat_tests, ints)

signed_inked : (z : ℤ) → nat_abs z ≤ 32768 → IsInked 10 (signed_decimal z)
signed_inked (pos n) small = name_inked n (omega arith)
signed_inked (negsuc n) small =
    let digits : IsInked 5 (decimal (suc n)) = decimal_inked 5 (suc n) (omega arith) (omega arith) (omega arith) in
    let few : length (decimal (suc n)) ≤ 5 = digits.short in
    record {
      some = omega arith;
      short = omega arith;
      ink = (omega arith, digits.ink);
    }

pub coordinate_inked : (z : ℤ) → on_grid z ≡ true → IsInked 10 (signed_decimal z)
coordinate_inked z grid = signed_inked z (grid_small z grid)

-- a bound of a cost
pub bound_below : (n : ℕ) → IsCostBound (pos n) → n ≤ MOST_COST
bound_below n bound = let most = bound.greatest in omega (arith, ints)

pub no_bound : (n : ℕ) → IsCostBound (negsuc n) → ⊥
no_bound n bound = let least = bound.least in omega (arith, ints)

pub bound_inked : (max : ℤ) → IsCostBound max → IsInked 40 (signed_decimal max)
bound_inked (pos n) bound =
    let below : n ≤ MOST_COST = bound_below n bound in
    decimal_inked 40 n (omega arith) (omega arith) (omega arith)
bound_inked (negsuc n) bound = absurd (no_bound n bound)
