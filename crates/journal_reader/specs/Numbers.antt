-- Numbers in a line, each with a text behind it.
use Rattle.std.specs.Prelude.{ℕ, Bool, ◌==◌, ◌||◌, ◌&&◌, nat_le, bytes_eq, codes, ℤ, pos, neg_ℤ, List, length, take, drop, position, Option, Some, None, option_and_then, Result, Ok, Err, if◌then◌else◌}
use Rattle.std.specs.Fmt.{decimal}
use Rattle.std.specs.Option.{option_map_or}
use Rattle.oemm_lines.specs.Numbers.{unsigned_of}
use Rattle.oemm_octree.specs.Octree.{on_grid}
use Rattle.oemm_octree.specs.declared.points.Point.{Point}
use Rattle.byte_grammar.specs.Reader.{Reader, ◌>>=◌, done, unit}
use Rattle.journal_reader.specs.declared.numbers.TheConstants.{MOST_SIZE}

-- a space or a line feed
abbrev pub is_end : ℕ → Bool
is_end c = (c == 32) || (c == 10)

-- the number where it is at most the greatest one and its text is this word
abbrev pub written : ℕ → List ℕ → ℕ → Option ℕ
written most word n = if nat_le n most && bytes_eq (decimal n) word then Some n else None

-- the number up to the greatest one whose text is this word
unfoldable pub number_of : ℕ → List ℕ → Option ℕ
number_of most word = option_and_then (written most word) (unsigned_of word)

-- a value in front of the text, and the bytes behind that
abbrev pub in_front : {A : Type 0} → List ℕ → List ℕ → A → Result (A × List ℕ) ℕ
in_front text left x =
    if bytes_eq (take (length text) left) text then Ok (x, drop (length text) left) else Err (length left)

-- a number up to the greatest one, with the text behind it
unfoldable pub number_before : List ℕ → ℕ → Reader ℕ
number_before text most left =
    option_map_or (λ at. option_map_or (in_front text (drop at left)) (number_of most (take at left)) (Err (length left)))
    (position is_end left) (Err (length left))

-- the number below zero of this size, if it isn't zero
abbrev pub negated : ℕ → Reader ℤ
negated n left = if n == 0 then Err (length left) else Ok (neg_ℤ (pos n), left)

-- the same of a number below zero, whose minus isn't among these bytes
abbrev pub below_zero : List ℕ → ℕ → Reader ℤ
below_zero text most = number_before text most >>= negated

-- a number of an optional minus and digits, of at most the greatest size, with the text behind it
unfoldable pub signed_before : List ℕ → ℕ → Reader ℤ
signed_before text most left =
    if bytes_eq (take 1 left) (codes "-") then below_zero text most (drop 1 left)
    else (number_before text most >>= (λ n. done (pos n))) left

-- a coordinate of the grid, with the text behind it
unfoldable pub coordinate_before : List ℕ → Reader ℤ
coordinate_before text = unit on_grid (signed_before text MOST_SIZE)

-- a point of the grid, with the text behind it
unfoldable pub point_before : List ℕ → Reader Point
point_before text = do
  x ← coordinate_before (codes " ")
  y ← coordinate_before (codes " ")
  z ← coordinate_before text
  done (record { x = x; y = y; z = z })
