-- Numbers are read as they are written.
use Rattle.std.proofs.Common.{◌≡◌, ℕ, zero, suc, ◌^◌, ◌<◌, ◌≤◌, Bool, true, false, cond, ◌&&◌, ltb, leb, List, [], ◌∷◌, ◌++◌, length, take, drop, position, Option, Some, None, Ok, Err, bytes_eq, codes, ℤ, pos, negsuc, nat_abs, refl, sym, ap, subst, ◌∙◌, append_assoc, arith, length-append}
use Rattle.std.proofs.Math.Dec.{eqb-suc-zero}
use Rattle.std.proofs.lemmas.Bool.{and_parts, le-leb, leb-true, lt-ltb, ne_eqb}
use Rattle.std.proofs.lemmas.Fmt.{decimal_is_IsNumeral_wide}
use Rattle.std.proofs.lemmas.List.{drop_at, take-append-drop, take_at}
use Rattle.std.proofs.lemmas.Slice.Eq.{bytes_eq-Decides}
use Rattle.std.proofs.lemmas.Str.Parse.{digit_from_value}
use Rattle.std.specs.Fmt.{decimal, signed_decimal}
use Rattle.std.specs.List.{AllByRecursion, position_or_len}
use Rattle.std.specs.Option.{option_map_or}
use Rattle.std.specs.Str.Parse.{AllDigits}
use Rattle.oemm_lines.specs.Numbers.{unsigned_of}
use Rattle.oemm_lines.proofs.NumberLaws.{unsigned_of-decimal}
use Rattle.oemm_octree.specs.Octree.{on_grid}
use Rattle.byte_grammar.specs.Reader.{◌>>=◌, done, next}
use Rattle.byte_grammar.proofs.Spells.{Spells, Spells-unit, found, ok_is, next_ok}
use Rattle.journal_reader.specs.declared.numbers.TheConstants.{MOST_SIZE}
use Rattle.journal_reader.specs.Numbers.{is_end, written, number_of, in_front, number_before, negated, below_zero, signed_before, coordinate_before}

-- ---- where a word ends

-- no byte of it ends a word
abbrev pub IsWord : List ℕ → Type 0
IsWord word = AllByRecursion (λ c. is_end c ≡ false) word

digits_word : (ds : List ℕ) → AllDigits 10 ds → IsWord ds
digits_word [] digits = tt
digits_word (c ∷ cs) digits =
    let range = digit_from_value c digits.0 in
    (rw (ne_eqb c 32 (omega (arith, range)), ne_eqb c 10 (omega (arith, range))) refl, digits_word cs digits.1)

pub decimal_word : (n : ℕ) → n < 10 ^ 64 → IsWord (decimal n)
decimal_word n small = digits_word (decimal n) (decimal_is_IsNumeral_wide n small).0.1

placed_behind : (p : ℕ → Bool) (ds : List ℕ) (c : ℕ) (cs : List ℕ) → AllByRecursion (λ b. p b ≡ false) ds → p c ≡ true
    → position_or_len p (ds ++ c ∷ cs) ≡ length ds
placed_behind p [] c cs none ends = rw ends refl
placed_behind p (d ∷ ds) c cs none ends =
    let ih = placed_behind p ds c cs none.1 ends in rw none.0 (omega (arith, ih))

found_behind : (p : ℕ → Bool) (ds : List ℕ) (c : ℕ) (cs : List ℕ) → AllByRecursion (λ b. p b ≡ false) ds → p c ≡ true
    → position p (ds ++ c ∷ cs) ≡ Some (length ds)
found_behind p ds c cs none ends =
    let at = placed_behind p ds c cs none ends in
    let within : ltb (length ds) (length (ds ++ c ∷ cs)) ≡ true =
    lt-ltb _ _ (omega (arith, length-append ds (c ∷ cs))) in
    rw (at, within) refl

-- ---- a text behind a value

same_bytes : (xs : List ℕ) → bytes_eq xs xs ≡ true
same_bytes xs = (bytes_eq-Decides xs xs).1 refl

pub in_front_of : {A : Type 0} (text rest : List ℕ) (x : A) → in_front text (text ++ rest) x ≡ Ok (x, rest)
in_front_of text rest x =
    rw (take_at text rest (length text) refl, drop_at text rest (length text) refl, same_bytes text) refl

pub in_front_found : {A : Type 0} (text left : List ℕ) (x y : A) (rest : List ℕ) → in_front text left x ≡ Ok (y, rest)
    → (x ≡ y) × (left ≡ text ++ rest)
in_front_found {A = A} text left x y rest e = tested (bytes_eq (take (length text) left) text) refl e where
  tested : (b : Bool) → bytes_eq (take (length text) left) text ≡ b
      → cond b (found (x, drop (length text) left)) (Err (length left)) ≡ Ok (y, rest) → (x ≡ y) × (left ≡ text ++ rest)
  tested true is e =
      let both = ok_is (x, drop (length text) left) (y, rest) e in
      let front : take (length text) left ≡ text = (bytes_eq-Decides (take (length text) left) text).0 is in (
        both.0,
        sym (take-append-drop (length text) left) ∙ ap (λ (xs : List ℕ). xs ++ drop (length text) left) front
            ∙ ap (λ (xs : List ℕ). text ++ xs) both.1,
      )
  tested false is e = absurd cc

-- ---- whole numbers

pub number_of-decimal : (most n : ℕ) → n ≤ most → most < 10 ^ 64 → number_of most (decimal n) ≡ Some n
unfolding number_of
number_of-decimal most n le small =
    rw (unsigned_of-decimal n (omega arith), le-leb n most le, same_bytes (decimal n)) refl

number_of-found : (most n : ℕ) (word : List ℕ) → number_of most word ≡ Some n → (decimal n ≡ word) × (n ≤ most)
unfolding number_of
number_of-found most n word e = from (unsigned_of word) e where
  tested : (m : ℕ) (b : Bool) → (leb m most && bytes_eq (decimal m) word) ≡ b → cond b (Some m) None ≡ Some n
      → (decimal n ≡ word) × (n ≤ most)
  tested m true is e =
      let both = and_parts (leb m most) (bytes_eq (decimal m) word) is in
      let same : m ≡ n = cc in
      subst (λ (k : ℕ). (decimal k ≡ word) × (k ≤ most)) same
      ((bytes_eq-Decides (decimal m) word).0 both.1, leb-true m most both.0)
  tested m false is e = absurd cc

  from : (o : Option ℕ) → (elim o as (λ _. Option ℕ) [ Some m ↦ written most word m | None ↦ None ]) ≡ Some n
      → (decimal n ≡ word) × (n ≤ most)
  from None e = absurd cc
  from (Some m) e = tested m (leb m most && bytes_eq (decimal m) word) refl e

-- a number in front of what ends a word
number_stands : (text : List ℕ) (most n c : ℕ) (cs : List ℕ) → n ≤ most → most < 10 ^ 64 → is_end c ≡ true
    → number_before text most (decimal n ++ c ∷ cs) ≡ in_front text (c ∷ cs) n
unfolding number_before
number_stands text most n c cs le small ends =
    rw (found_behind is_end (decimal n) c cs (decimal_word n (omega arith)) ends)
    (rw (take_at (decimal n) (c ∷ cs) (length (decimal n)) refl, drop_at (decimal n) (c ∷ cs) (length (decimal n)) refl, number_of-decimal most n le small)
    refl)

pub number_found : (text : List ℕ) (most : ℕ) (left : List ℕ) (n : ℕ) (rest : List ℕ)
    → number_before text most left ≡ Ok (n, rest) → (left ≡ (decimal n ++ text) ++ rest) × (n ≤ most)
unfolding number_before
number_found text most left n rest e = placed (position is_end left) e where
  worded : (k : ℕ) (o : Option ℕ) → number_of most (take k left) ≡ o
      → option_map_or (in_front text (drop k left)) o (Err (length left)) ≡ Ok (n, rest)
      → (left ≡ (decimal n ++ text) ++ rest) × (n ≤ most)
  worded k None is e = absurd cc
  worded k (Some m) is e =
      let front = in_front_found text (drop k left) m n rest e in
      let word = number_of-found most m (take k left) is in
      let whole : left ≡ (decimal m ++ text) ++ rest =
      sym (take-append-drop k left) ∙ ap (λ (xs : List ℕ). xs ++ drop k left) (sym word.0)
      ∙ ap (λ (xs : List ℕ). decimal m ++ xs) front.1 ∙ sym (append_assoc (decimal m) text rest) in
      subst (λ (v : ℕ). (left ≡ (decimal v ++ text) ++ rest) × (v ≤ most)) front.0 (whole, word.1)

  placed : (o : Option ℕ)
      → option_map_or (λ k. option_map_or (in_front text (drop k left)) (number_of most (take k left)) (Err (length left))) o
      (Err (length left)) ≡ Ok (n, rest)
      → (left ≡ (decimal n ++ text) ++ rest) × (n ≤ most)
  placed None e = absurd cc
  placed (Some k) e = worded k (number_of most (take k left)) refl e

pub Spells-number : (c : ℕ) (cs : List ℕ) (most : ℕ) → is_end c ≡ true → most < 10 ^ 64
    → Spells (number_before (c ∷ cs) most) (λ n. decimal n ++ c ∷ cs) (λ n. n ≤ most)
Spells-number c cs most ends small = record {
  takes = λ left n rest fits e. number_found (c ∷ cs) most left n rest e;
  again = λ n rest le. rw (append_assoc (decimal n) (c ∷ cs) rest)
      (number_stands (c ∷ cs) most n c (cs ++ rest) le small ends ∙ in_front_of (c ∷ cs) rest n);
}

-- ---- signed numbers

no_minus : (ds : List ℕ) (c : ℕ) (cs : List ℕ) → 0 < length ds → AllDigits 10 ds
    → bytes_eq (take 1 (ds ++ c ∷ cs)) (codes "-") ≡ false
no_minus [] c cs some digits = absurd (omega arith)
no_minus (d ∷ ds) c cs some digits =
    let range = digit_from_value d digits.0 in rw (ne_eqb d 45 (omega (arith, range))) refl

carried : {A B : Type 0} (text left : List ℕ) (x : A) (f : A → B)
    → next (in_front text left x) (λ y. done (f y)) ≡ in_front text left (f x)
carried text left x f =
    elim (bytes_eq (take (length text) left) text)
    as (λ b. next (cond b (found (x, drop (length text) left)) (Err (length left))) (λ y. done (f y)) ≡ cond b (Ok (f x, drop (length text) left)) (Err (length left)))
    [ true ↦ refl | false ↦ refl ]

negated_is : (n : ℕ) (left : List ℕ) → negated (suc n) left ≡ Ok (negsuc n, left)
negated_is n left = rw (eqb-suc-zero n) refl

carried_below : (text left : List ℕ) (n : ℕ)
    → next (in_front text left (suc n)) negated ≡ in_front text left (negsuc n)
carried_below text left n =
    elim (bytes_eq (take (length text) left) text)
    as (λ b. next (cond b (found (suc n, drop (length text) left)) (Err (length left))) negated ≡ cond b (Ok (negsuc n, drop (length text) left)) (Err (length left)))
    [ true ↦ negated_is n (drop (length text) left) | false ↦ refl ]

pub signed_stands : (text : List ℕ) (most : ℕ) (z : ℤ) (c : ℕ) (cs : List ℕ) → nat_abs z ≤ most → most < 10 ^ 64
    → is_end c ≡ true → signed_before text most (signed_decimal z ++ c ∷ cs) ≡ in_front text (c ∷ cs) z
unfolding signed_before
signed_stands text most (pos n) c cs le small ends =
    let numeral = decimal_is_IsNumeral_wide n (omega arith) in
    rw (no_minus (decimal n) c cs numeral.0.0 numeral.0.1)
    (rw (number_stands text most n c cs le small ends) (carried text (c ∷ cs) n pos))
signed_stands text most (negsuc n) c cs le small ends =
    rw (number_stands text most (suc n) c cs le small ends) (carried_below text (c ∷ cs) n)

below_found : (text left : List ℕ) (most : ℕ) (z : ℤ) (rest : List ℕ) (n : ℕ) (behind : List ℕ)
    → number_before text most left ≡ Ok (n, behind) → negated n behind ≡ Ok (z, rest)
    → (45 ∷ left ≡ (signed_decimal z ++ text) ++ rest) × (nat_abs z ≤ most)
below_found text left most z rest zero behind is e = absurd cc
below_found text left most z rest (suc n) behind is e =
    let number = number_found text most left (suc n) behind is in
    let both : (negsuc n ≡ z) × (behind ≡ rest) = ok_is (negsuc n, behind) (z, rest) (sym (negated_is n behind) ∙ e) in
    subst (λ (y : ℤ). (45 ∷ left ≡ (signed_decimal y ++ text) ++ rest) × (nat_abs y ≤ most)) both.0
    (ap (λ (xs : List ℕ). 45 ∷ xs) (number.0 ∙ ap (λ (xs : List ℕ). (decimal (suc n) ++ text) ++ xs) both.1), number.1)

pub signed_found : (text : List ℕ) (most : ℕ) (left : List ℕ) (z : ℤ) (rest : List ℕ)
    → signed_before text most left ≡ Ok (z, rest) → (left ≡ (signed_decimal z ++ text) ++ rest) × (nat_abs z ≤ most)
unfolding signed_before
signed_found text most left z rest e = tested (bytes_eq (take 1 left) (codes "-")) refl e where
  tested : (b : Bool) → bytes_eq (take 1 left) (codes "-") ≡ b
      → cond b (below_zero text most (drop 1 left)) ((number_before text most >>= (λ n. done (pos n))) left) ≡ Ok (z, rest)
      → (left ≡ (signed_decimal z ++ text) ++ rest) × (nat_abs z ≤ most)
  tested true is e =
      let minus : take 1 left ≡ 45 ∷ [] = (bytes_eq-Decides (take 1 left) (codes "-")).0 is in
      let whole : 45 ∷ drop 1 left ≡ left = ap (λ (xs : List ℕ). xs ++ drop 1 left) (sym minus) ∙ take-append-drop 1 left in
      let a = next_ok (number_before text most (drop 1 left)) negated (z, rest) e in
      subst (λ (xs : List ℕ). (xs ≡ (signed_decimal z ++ text) ++ rest) × (nat_abs z ≤ most)) whole
      (below_found text (drop 1 left) most z rest a.0.0 a.0.1 a.1 a.2)
  tested false is e =
      let a = next_ok (number_before text most left) (λ n. done (pos n)) (z, rest) e in
      let number = number_found text most left a.0.0 a.0.1 a.1 in
      let both : (pos a.0.0 ≡ z) × (a.0.1 ≡ rest) = ok_is (pos a.0.0, a.0.1) (z, rest) a.2 in
      subst (λ (y : ℤ). (left ≡ (signed_decimal y ++ text) ++ rest) × (nat_abs y ≤ most)) both.0
      (number.0 ∙ ap (λ (xs : List ℕ). (decimal a.0.0 ++ text) ++ xs) both.1, number.1)

pub Spells-signed : (c : ℕ) (cs : List ℕ) (most : ℕ) → is_end c ≡ true → most < 10 ^ 64
    → Spells (signed_before (c ∷ cs) most) (λ z. signed_decimal z ++ c ∷ cs) (λ z. nat_abs z ≤ most)
Spells-signed c cs most ends small = record {
  takes = λ left z rest fits e. signed_found (c ∷ cs) most left z rest e;
  again = λ z rest le. rw (append_assoc (signed_decimal z) (c ∷ cs) rest)
      (signed_stands (c ∷ cs) most z c (cs ++ rest) le small ends ∙ in_front_of (c ∷ cs) rest z);
}

pub Spells-coordinate : (c : ℕ) (cs : List ℕ) → is_end c ≡ true
    → Spells (coordinate_before (c ∷ cs)) (λ z. signed_decimal z ++ c ∷ cs) (λ z. (nat_abs z ≤ MOST_SIZE) × (on_grid z ≡ true))
unfolding coordinate_before
Spells-coordinate c cs ends = Spells-unit (Spells-signed c cs MOST_SIZE ends (omega arith)) on_grid
