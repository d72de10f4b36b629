use Rattle.std.specs.Prelude.{ℕ, ◌-◌, ◌^◌, min, List, [], ◌∷◌, ◌==◌, if◌then◌else◌, Option, Some, None, ℤ, pos, negsuc, neg_ℤ}
use Rattle.std.specs.Option.{option_map}
use Rattle.std.specs.Str.{all_ascii_digits}
use Rattle.std.specs.Str.Parse.{digits_value}

-- the number that a word of one or more digits writes
unfoldable pub unsigned_of : List ℕ → Option ℕ
unsigned_of [] = None
unsigned_of (c ∷ cs) = if all_ascii_digits (c ∷ cs) then Some (digits_value 10 (c ∷ cs)) else None

-- the number that a word of an optional minus and digits writes
unfoldable pub integer_of : List ℕ → Option ℤ
integer_of [] = None
integer_of (c ∷ cs) =
    if c == 45 then option_map (λ n. neg_ℤ (pos n)) (unsigned_of cs) else option_map pos (unsigned_of (c ∷ cs))

-- a number as far as 2 ^ 127
abbrev pub clamped_unsigned : ℕ → ℕ
clamped_unsigned n = min n (2 ^ 127)

-- a number as far as 2 ^ 62 on both sides
abbrev pub held_back : ℤ → ℤ
held_back (pos n) = pos (min n (2 ^ 62))
held_back (negsuc n) = negsuc (min n (2 ^ 62 - 1))
