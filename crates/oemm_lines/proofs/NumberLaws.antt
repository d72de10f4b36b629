use Rattle.std.proofs.Common.{◌≡◌, ℕ, zero, suc, ◌+◌, ◌-◌, ◌*◌, ◌^◌, min, ◌<◌, ◌≤◌, Bool, true, false, ◌&&◌, List, [], ◌∷◌, ◌++◌, length, get_or, take, refl, ap, sym, ◌∙◌, arith, Some, None, Option, option_map, MatchOption, ◌≢◌, ℤ, pos, negsuc, neg_ℤ, nat_abs, eq-eqb, ne_eqb}
use Rattle.std.specs.Char.{is_ascii_digit, digit_value}
use Rattle.std.specs.Str.{all_ascii_digits}
use Rattle.std.specs.Str.Parse.{digits_value}
use Rattle.std.specs.Fmt.{decimal, signed_decimal}
use Rattle.std.proofs.lemmas.Fmt.{decimal_is_IsNumeral_wide}
use Rattle.std.proofs.lemmas.Str.Parse.{numerals_by_value, tells_all_ascii_digits}
use Rattle.std.proofs.lemmas.Bool.{false≢true, true≢false}
use Rattle.std.proofs.lemmas.Bool.Decides.{nat_tests}
use Rattle.std.proofs.lemmas.Int.Digits.{digits_value_more}
use Rattle.std.proofs.lemmas.List.{take_more, take_all}
use Rattle.oemm_lines.specs.Numbers.{unsigned_of, integer_of, clamped_unsigned, held_back}

both : (a b : Bool) → (a && b) ≡ true → (a ≡ true) × (b ≡ true)
both true b holds = (refl, holds)
both false b holds = absurd (false≢true holds)

and_false : (b : Bool) → (b && false) ≡ false
and_false true = refl
and_false false = refl

-- no bytes are no number
pub unsigned_of-empty : (word : List ℕ) → length word ≡ 0 → unsigned_of word ≡ None
unfolding unsigned_of
unsigned_of-empty [] empty = refl
unsigned_of-empty (c ∷ cs) empty = absurd (omega arith)

-- the value of one or more digits
pub unsigned_of-digits : (word : List ℕ) → 0 < length word → all_ascii_digits word ≡ true → unsigned_of word ≡ Some (digits_value 10 word)
unfolding unsigned_of
unsigned_of-digits [] some digits = absurd (omega arith)
unsigned_of-digits (c ∷ cs) some digits = rw digits

-- another byte among the digits
pub unsigned_of-other : (word : List ℕ) → all_ascii_digits word ≡ false → unsigned_of word ≡ None
unfolding unsigned_of
unsigned_of-other [] other = refl
unsigned_of-other (c ∷ cs) other = rw other

-- digits with one more behind them
pub all_ascii_digits-push : (xs : List ℕ) (c : ℕ) → all_ascii_digits xs ≡ true → is_ascii_digit c ≡ true → all_ascii_digits (xs ++ c ∷ []) ≡ true
all_ascii_digits-push [] c digits digit = rw digit
all_ascii_digits-push (x ∷ xs) c digits digit =
    let parts = both (is_ascii_digit x) (all_ascii_digits xs) digits in
    rw (parts.0, all_ascii_digits-push xs c parts.1 digit)

-- a byte that is no digit
pub all_ascii_digits-other : (word : List ℕ) (i : ℕ) → i < length word → is_ascii_digit (get_or word i 0) ≡ false → all_ascii_digits word ≡ false
all_ascii_digits-other [] i within other = absurd (omega arith)
all_ascii_digits-other (c ∷ cs) zero within other = rw other
all_ascii_digits-other (c ∷ cs) (suc i) within other = rw (all_ascii_digits-other cs i (omega arith) other, and_false (is_ascii_digit c))

pub digit_value-ascii : (c : ℕ) → is_ascii_digit c ≡ true → digit_value c ≡ c - 48
digit_value-ascii c digit = grind (arith, nat_tests)

-- what is held back stays so with one more digit
pub clamped_unsigned-more : (n d : ℕ) → clamped_unsigned (clamped_unsigned n * 10 + d) ≡ clamped_unsigned (n * 10 + d)
clamped_unsigned-more n d = omega arith

-- one more digit at an index
pub all_ascii_digits-more : (word : List ℕ) (i : ℕ) → i < length word → all_ascii_digits (take i word) ≡ true → is_ascii_digit (get_or word i 0) ≡ true → all_ascii_digits (take (i + 1) word) ≡ true
all_ascii_digits-more word i within digits digit =
    ap all_ascii_digits (take_more word i 0 within) ∙ all_ascii_digits-push (take i word) (get_or word i 0) digits digit

-- the value held back, with one more digit at an index
pub clamped_unsigned-step : (word : List ℕ) (i value : ℕ) → i < length word → value ≡ clamped_unsigned (digits_value 10 (take i word)) → is_ascii_digit (get_or word i 0) ≡ true → clamped_unsigned (value * 10 + (get_or word i 0 - 48)) ≡ clamped_unsigned (digits_value 10 (take (i + 1) word))
clamped_unsigned-step word i value within held digit =
    ap (λ n. clamped_unsigned (n * 10 + (get_or word i 0 - 48))) held
    ∙ clamped_unsigned-more (digits_value 10 (take i word)) (get_or word i 0 - 48)
    ∙ ap clamped_unsigned (ap (λ d. digits_value 10 (take i word) * 10 + d) (sym (digit_value-ascii _ digit)) ∙ sym (digits_value_more 10 word i within))

-- the value of a word of which each byte was seen to be a digit
pub unsigned_of-all : (word : List ℕ) (i value : ℕ) → 0 < length word → length word ≤ i → all_ascii_digits (take i word) ≡ true → value ≡ clamped_unsigned (digits_value 10 (take i word)) → (n : ℕ) × (unsigned_of word ≡ Some n) × (value ≡ clamped_unsigned n)
unsigned_of-all word i value some all digits held =
    let same : take i word ≡ word = take_all i word all in
    (digits_value 10 word, unsigned_of-digits word some (ap all_ascii_digits (sym same) ∙ digits), held ∙ ap (λ (w : List ℕ). clamped_unsigned (digits_value 10 w)) same)

pub clamped_unsigned-all : (word : List ℕ) (i value : ℕ) → 0 < length word → length word ≤ i → all_ascii_digits (take i word) ≡ true → value ≡ clamped_unsigned (digits_value 10 (take i word)) → Some value ≡ option_map clamped_unsigned (unsigned_of word)
clamped_unsigned-all word i value some all digits held =
    let found = unsigned_of-all word i value some all digits held in
    ap (λ n. Some n) found.2 ∙ sym (ap (option_map clamped_unsigned) found.1)

-- no bytes are no number
pub integer_of-empty : (word : List ℕ) → length word ≡ 0 → integer_of word ≡ None
unfolding integer_of
integer_of-empty [] empty = refl
integer_of-empty (c ∷ cs) empty = absurd (omega arith)

-- digits behind a minus
pub integer_of-minus : (word : List ℕ) (c : ℕ) (cs : List ℕ) → word ≡ c ∷ cs → c ≡ 45 → integer_of word ≡ option_map (λ n. neg_ℤ (pos n)) (unsigned_of cs)
unfolding integer_of
integer_of-minus word c cs front minus = ap integer_of front ∙ rw (eq-eqb c 45 minus)

-- any other word
pub integer_of-plain : (word : List ℕ) (c : ℕ) (cs : List ℕ) → word ≡ c ∷ cs → c ≢ 45 → integer_of word ≡ option_map pos (unsigned_of word)
unfolding integer_of
integer_of-plain word c cs front other = ap integer_of front ∙ rw (ne_eqb c 45 other) (ap (λ w. option_map pos (unsigned_of w)) (sym front))

-- what is held back of a number, by cases
abbrev pub Holds : Option ℤ → Option ℤ → Type 0
Holds o r = MatchOption r (o ≡ None) (λ m. (z : ℤ) × (o ≡ Some z) × (m ≡ held_back z))

pub held_value : (o r : Option ℤ) → Holds o r → r ≡ option_map held_back o
held_value o None holds = sym (ap (option_map held_back) holds)
held_value o (Some m) holds = ap (λ z. Some z) holds.2 ∙ sym (ap (option_map held_back) holds.1)

pub held_plain : (n value : ℕ) → value ≡ clamped_unsigned n → pos (min value (2 ^ 62)) ≡ held_back (pos n)
held_plain n value held = ap pos (omega arith)

pub held_minus : (n value : ℕ) → value ≡ clamped_unsigned n → neg_ℤ (pos (min value (2 ^ 62))) ≡ held_back (neg_ℤ (pos n))
held_minus zero value held =
    let same : min value (2 ^ 62) ≡ 0 = omega arith in
    ap (λ m. neg_ℤ (pos m)) same
held_minus (suc n) value held =
    let same : min value (2 ^ 62) ≡ suc (min n (2 ^ 62 - 1)) = omega arith in
    ap (λ m. neg_ℤ (pos m)) same

-- the text of a number has digits alone, and their value is the number
decimal_digits : (n : ℕ) → n < 10 ^ 64 → all_ascii_digits (decimal n) ≡ true
decimal_digits n small = (numerals_by_value _ tells_all_ascii_digits).from (decimal n) (decimal_is_IsNumeral_wide n small).0.1

pub unsigned_of-decimal : (n : ℕ) → n < 10 ^ 64 → unsigned_of (decimal n) ≡ Some n
unsigned_of-decimal n small =
    let numeral = decimal_is_IsNumeral_wide n small in
    unsigned_of-digits (decimal n) numeral.0.0 (decimal_digits n small) ∙ ap (λ m. Some m) numeral.1

digit_no_minus : (c : ℕ) → is_ascii_digit c ≡ true → c ≢ 45
digit_no_minus c digit minus = true≢false (sym digit ∙ ap is_ascii_digit minus)

-- digits without a sign
integer_of-digits : (word : List ℕ) → all_ascii_digits word ≡ true → 0 < length word → integer_of word ≡ option_map pos (unsigned_of word)
integer_of-digits [] digits some = absurd (omega arith)
integer_of-digits (c ∷ cs) digits some =
    integer_of-plain (c ∷ cs) c cs refl (digit_no_minus c (both (is_ascii_digit c) (all_ascii_digits cs) digits).0)

pub integer_of-decimal : (z : ℤ) → nat_abs z < 10 ^ 64 → integer_of (signed_decimal z) ≡ Some z
integer_of-decimal (pos n) small =
    integer_of-digits (decimal n) (decimal_digits n small) (decimal_is_IsNumeral_wide n small).0.0
    ∙ ap (option_map pos) (unsigned_of-decimal n small)
integer_of-decimal (negsuc n) small =
    integer_of-minus _ 45 (decimal (suc n)) refl refl ∙ ap (option_map (λ m. neg_ℤ (pos m))) (unsigned_of-decimal (suc n) small)
