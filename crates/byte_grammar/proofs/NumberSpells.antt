-- Numbers and their bytes.
use Rattle.std.proofs.Common.{◌≡◌, ℕ, zero, suc, ◌+◌, ◌*◌, ◌^◌, ◌<◌, ◌≤◌, ◌/◌, ◌%◌, Bool, true, false, ltb, List, [], ◌∷◌, ◌++◌, length, take, drop, Ok, ℤ, FitsSigned, refl, sym, ap, subst, ◌∙◌, arith}
use mir.Val.{bits}
use Rattle.std.specs.Int.{Width, w16, w32, w128, cast_signed, cast_unsigned, byte_at, bytes_low_first}
use Rattle.std.proofs.Math.Nat.{pow-succ', div-div-eq-div-mul}
use Rattle.std.proofs.Math.Facts.{Fits-of_z, sfits_to_z}
use Rattle.std.proofs.lemmas.Bool.{le-ltb, ltb-false}
use Rattle.std.proofs.lemmas.Int.{to_z-of_z, of_z-to_z}
use Rattle.std.proofs.lemmas.List.{drop_at, length-append, take-append-drop}
use Rattle.byteorder.specs.Endian.{little_number, little_bytes}
use Rattle.byteorder.specs.Numbers.{little_from-cons, little_from-lt, little_number-reads_back, length-bytes_low_first}
use Rattle.byte_grammar.specs.Reader.{done, next, number, signed, IsBytes}
use Rattle.byte_grammar.specs.Numbers.{u8_bytes, u16_bytes, u32_bytes, i16_bytes, i32_bytes, i128_bytes}
use Rattle.byte_grammar.proofs.Spells.{Spells, ok_is, next_ok}

-- a signed number that was found
pub signed_found : (w : Width) (n : ℕ) (bytes : List ℕ) (z : ℤ) (rest : List ℕ) → n ≤ length bytes
    → z ≡ cast_signed w (little_number n bytes) → rest ≡ drop n bytes
    → next (number n bytes) (λ (k : ℕ). done (cast_signed w k)) ≡ Ok (z, rest)
signed_found w n bytes z rest le is behind =
    let long : ltb (length bytes) n ≡ false = le-ltb _ _ le in
    rw (long, is, behind) refl

-- ---- the bytes of a number that was read

shifted : (j a m : ℕ) → a < 256 → byte_at (suc j) (a + 256 * m) ≡ byte_at j m
shifted zero a m h =
    let e : (a + 256 * m) / 256 ≡ m = omega arith in
    ap (λ (x : ℕ). x % 256) e
shifted (suc j) a m h =
    let e : (a + 256 * m) / 256 ≡ m = omega arith in
    ap (λ (p : ℕ). (a + 256 * m) / p % 256) (pow-succ' 256 (suc j))
    ∙ ap (λ (x : ℕ). x % 256) (sym (div-div-eq-div-mul (a + 256 * m) 256 (256 ^ suc j)))
    ∙ ap (λ (x : ℕ). x / 256 ^ suc j % 256) e

all_shifted : (n j a m : ℕ) → a < 256 → bytes_low_first (suc j) n (a + 256 * m) ≡ bytes_low_first j n m
all_shifted zero j a m h = refl
all_shifted (suc n) j a m h = rw (shifted j a m h, all_shifted n (suc j) a m h) refl

pub read_bytes : (n : ℕ) (xs : List ℕ) → IsBytes xs → n ≤ length xs → little_bytes n (little_number n xs) ≡ take n xs
read_bytes zero xs fits le = refl
read_bytes (suc n) [] fits le = absurd (omega arith)
read_bytes (suc n) (a ∷ xs) fits le =
    let small : a < 256 = fits 0 in
    let rest : IsBytes xs = λ i. fits (suc i) in
    let m = little_number n xs in
    let e : little_number (suc n) (a ∷ xs) ≡ a + 256 * m = ap (λ (r : ℕ). a + 256 * r) (little_from-cons 0 n a xs) in
    let first : (a + 256 * m) % 256 ≡ a = omega arith in
    let ih : little_bytes n m ≡ take n xs = read_bytes n xs rest (omega arith) in
    rw (e, first, all_shifted n 0 a m small, ih) refl

-- ---- readers of numbers

number_found : (n : ℕ) (left : List ℕ) (x : ℕ) (rest : List ℕ) → number n left ≡ Ok (x, rest)
    → (n ≤ length left) × (little_number n left ≡ x) × (drop n left ≡ rest)
number_found n left x rest e = tested (ltb (length left) n) refl where
  tested : (b : Bool) → ltb (length left) n ≡ b → (n ≤ length left) × (little_number n left ≡ x) × (drop n left ≡ rest)
  tested true h = absurd (cc (rw h at e))
  tested false h =
      let both = ok_is (little_number n left, drop n left) (x, rest) (rw h at e) in (ltb-false _ _ h, both.0, both.1)

pub Spells-number : (n : ℕ) → Spells (number n) (little_bytes n) (λ x. x < 256 ^ n)
Spells-number n = record {
  takes = λ left x rest fits e.
      let f = number_found n left x rest e in
      let bytes : little_bytes n x ≡ take n left = rw (← f.1) (read_bytes n left fits f.0) in
      (sym (take-append-drop n left) ∙ rw (bytes, f.2) refl, rw (← f.1) (little_from-lt 0 n left fits));
  again = λ x rest h.
      let len = length-bytes_low_first 0 n x in
      let long : ltb (length (little_bytes n x ++ rest)) n ≡ false =
      le-ltb _ _ (omega (arith, length-append (little_bytes n x) rest)) in
      rw (long, little_number-reads_back n x rest h, drop_at (little_bytes n x) rest n len) refl;
}

pub Spells-u8 : Spells (number 1) u8_bytes (λ x. x < 2 ^ 8)
unfolding u8_bytes
Spells-u8 = Spells-number 1

pub Spells-u16 : Spells (number 2) u16_bytes (λ x. x < 2 ^ 16)
unfolding u16_bytes
Spells-u16 = Spells-number 2

pub Spells-u32 : Spells (number 4) u32_bytes (λ x. x < 2 ^ 32)
unfolding u32_bytes
Spells-u32 = Spells-number 4

pub Spells-signed : (w : Width) (n : ℕ) → 2 ^ bits w ≡ 256 ^ n
    → Spells (signed w n) (λ z. little_bytes n (cast_unsigned w z)) (FitsSigned w)
Spells-signed w n wide = record {
  takes = λ left z rest fits e.
      let a = next_ok (number n left) (λ (k : ℕ). done (cast_signed w k)) (z, rest) e in
      let first = (Spells-number n).takes left a.0.0 a.0.1 fits a.1 in
      let small : a.0.0 < 2 ^ bits w = subst (λ (p : ℕ). a.0.0 < p) (sym wide) first.1 in
      let both = ok_is (cast_signed w a.0.0, a.0.1) (z, rest) a.2 in
      let same : cast_unsigned w z ≡ a.0.0 =
      ap (λ (y : ℤ). cast_unsigned w y) (sym both.0) ∙ of_z-to_z w a.0.0 small in (
        rw same (first.0 ∙ ap (λ (xs : List ℕ). little_bytes n a.0.0 ++ xs) both.1),
        subst (FitsSigned w) both.0 (sfits_to_z (record { fits = small })),
      );
  again = λ z rest h.
      let small : cast_unsigned w z < 256 ^ n = subst (λ (p : ℕ). cast_unsigned w z < p) wide (Fits-of_z h).fits in
      rw ((Spells-number n).again (cast_unsigned w z) rest small, to_z-of_z w z h) refl;
}

pub Spells-i16 : Spells (signed w16 2) i16_bytes (FitsSigned w16)
unfolding i16_bytes
Spells-i16 = Spells-signed w16 2 refl

pub Spells-i128 : Spells (signed w128 16) i128_bytes (FitsSigned w128)
unfolding i128_bytes
Spells-i128 = Spells-signed w128 16 refl

pub Spells-i32 : Spells (signed w32 4) i32_bytes (FitsSigned w32)
unfolding i32_bytes
Spells-i32 = Spells-signed w32 4 refl
