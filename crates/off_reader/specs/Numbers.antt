-- The numbers of an OFF mesh, as functions of their words.
use Rattle.std.specs.Prelude.{ℕ, ◌+◌, ◌==◌, ◌||◌, ◌&&◌, Bool, true, nat_lt, if◌then◌else◌, List, [], ◌∷◌, length, drop, Option, None, is_some, ℤ, pos}
use Rattle.std.specs.Option.{option_map}
use Rattle.std.specs.List.{list_all, before_first, after_first, position_or_len}
use Rattle.std.specs.Char.{is_ascii_digit}
use Rattle.oemm_lines.specs.Numbers.{unsigned_of, integer_of}

-- the number that a word writes with an optional sign and digits
unfoldable pub signed_of : List ℕ → Option ℤ
signed_of [] = None
signed_of (c ∷ cs) = if c == 43 then option_map pos (unsigned_of cs) else integer_of (c ∷ cs)

-- the bytes behind a sign, if one stands in front
abbrev pub behind_sign : List ℕ → List ℕ
behind_sign [] = []
behind_sign (c ∷ cs) = if c == 43 || c == 45 then cs else c ∷ cs

abbrev pub is_point : ℕ → Bool
is_point c = c == 46

abbrev pub is_zero : ℕ → Bool
is_zero c = c == 48

-- whether the byte is e or E
abbrev pub is_letter_e : ℕ → Bool
is_letter_e c = c == 101 || c == 69

-- what stands in front of the point and what stands behind it
abbrev pub before_point : List ℕ → List ℕ
before_point text = before_first is_point text

abbrev pub behind_point : List ℕ → List ℕ
behind_point text = after_first is_point text

-- the whole number that a word writes with an optional sign, digits and perhaps a point and zeros
unfoldable pub coordinate_in : List ℕ → Option ℤ
coordinate_in word = if list_all is_zero (behind_point word) then signed_of (before_point word) else None

-- what stands in front of the letter e, and what stands from that letter on
abbrev pub before_letter : List ℕ → List ℕ
before_letter text = before_first is_letter_e text

abbrev pub from_letter : List ℕ → List ℕ
from_letter text = drop (position_or_len is_letter_e text) text

-- whether these are digits, one or more, with at most one point among, before or behind them
unfoldable pub is_mantissa : List ℕ → Bool
is_mantissa text =
    list_all is_ascii_digit (before_point text) && list_all is_ascii_digit (behind_point text)
    && nat_lt 0 (length (before_point text) + length (behind_point text))

-- whether this is nothing, or a letter, an optional sign and digits
unfoldable pub is_exponent : List ℕ → Bool
is_exponent [] = true
is_exponent (letter ∷ digits) = is_some (signed_of digits)

-- whether a word writes a decimal number: an optional sign, digits with at most one point, and perhaps an exponent
unfoldable pub is_decimal : List ℕ → Bool
is_decimal word = is_mantissa (before_letter (behind_sign word)) && is_exponent (from_letter (behind_sign word))
