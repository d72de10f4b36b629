-- Reading values from the front of bytes.
use Rattle.std.specs.Prelude.{◌≤◌, ◌<◌, ℕ, zero, suc, ◌++◌, Bool, nat_lt, nat_le, ◌==◌, ◌&&◌, if◌then◌else◌, List, [], ◌∷◌, length, get_or, drop, ℤ, Result, Ok, Err}
use Rattle.std.specs.Int.{Width, cast_signed}
use Rattle.byteorder.specs.Endian.{little_number}

-- A reader gives a value and the bytes behind it, or how many bytes are left where it stops: before the first unit that
-- is cut off or breaks a rule.
abbrev pub Reader : Type 0 → Type 0
Reader A = List ℕ → Result (A × List ℕ) ℕ

abbrev pub done : {A : Type 0} → A → Reader A
done x left = Ok (x, left)

abbrev pub next : {A B : Type 0} → Result (A × List ℕ) ℕ → (A → Reader B) → Result (B × List ℕ) ℕ
next (Ok x) k = k x.0 x.1
next (Err left) k = Err left

-- one reader, and then the reader that its value gives
infixl 10 ◌>>=◌
abbrev pub ◌>>=◌ : {A B : Type 0} → Reader A → (A → Reader B) → Reader B
(p >>= k) left = next (p left) k

-- the number in n bytes, the lowest first
abbrev pub number : ℕ → Reader ℕ
number n left = if nat_lt (length left) n then Err (length left) else Ok (little_number n left, drop n left)

-- the signed number in n bytes, in two's complement
abbrev pub signed : Width → ℕ → Reader ℤ
signed w n left = next (number n left) (λ k. done (cast_signed w k))

abbrev pub kept : {A : Type 0} → (A → Bool) → ℕ → Result (A × List ℕ) ℕ → Result (A × List ℕ) ℕ
kept test before (Ok x) = if test x.0 then Ok x else Err before
kept test before (Err left) = Err before

-- a value that is one unit, and passes the test
abbrev pub unit : {A : Type 0} → (A → Bool) → Reader A → Reader A
unit test p left = kept test (length left) (p left)

unfoldable pub is_in : ℕ → ℕ → ℕ → Bool
is_in low high n = nat_le low n && nat_le n high

-- a number from low to high
abbrev pub number_in : ℕ → ℕ → ℕ → Reader ℕ
number_in low high n = unit (is_in low high) (number n)

-- n units more, each read by what stands before it in the list
unfoldable pub many : {A : Type 0} → (List A → Reader A) → ℕ → List A → Reader (List A)
many item zero before left = Ok (before, left)
many item (suc n) before left = next (item before left) (λ x. many item n (before ++ x ∷ []))

-- the reader of the row with this tag
abbrev pub choose : {A : Type 0} → ℕ → List (ℕ × Reader A) → Reader A
choose n [] left = Err (length left)
choose n (row ∷ rows) left = if n == row.0 then row.1 left else choose n rows left

-- what was read, where nothing is left behind it
abbrev pub ended : {A : Type 0} → A → List ℕ → Result A ℕ
ended x [] = Ok x
ended x (b ∷ left) = Err (length (b ∷ left))

abbrev pub last_of : {A : Type 0} → Result (A × List ℕ) ℕ → Result A ℕ
last_of (Ok x) = ended x.0 x.1
last_of (Err left) = Err left

-- all of the bytes
abbrev pub whole : {A : Type 0} → Reader A → List ℕ → Result A ℕ
whole p bytes = last_of (p bytes)

-- ---- what holds of bytes and of readers

abbrev pub IsBytes : List ℕ → Type 0
IsBytes bytes = (i : ℕ) → get_or bytes i 0 < 256

-- at most so many bytes are left
abbrev pub IsWithin : {A : Type 0} → ℕ → Result (A × List ℕ) ℕ → Type 0
IsWithin n (Ok x) = length x.1 ≤ n
IsWithin n (Err left) = left ≤ n
