-- Where a reader stops.
use Rattle.std.proofs.Common.{◌≡◌, ℕ, zero, suc, ◌-◌, ◌≤◌, Bool, true, false, cond, ltb, List, [], ◌∷◌, ◌++◌, length, take, drop, Result, Ok, Err, refl, ap, subst, ◌∙◌, append_assoc, arith, length-append, length-drop}
use Rattle.std.specs.Int.{Width, cast_signed}
use Rattle.byteorder.specs.Endian.{little_number}
use Rattle.byte_grammar.proofs.NumberSpells.{Spells-number}
use Rattle.byte_grammar.specs.Reader.{Reader, ◌>>=◌, done, next, number, kept, unit, many, IsWithin, IsBytes, signed}
use Rattle.byte_grammar.proofs.Spells.{IsBytes-rest, IsBytes-take, IsBytes-append, Spells, found}

-- A reader stops within the bytes, and not before the place where it stopped, whatever stands behind that place.
pub record Places {A : Type 0} (read : Reader A) : Type 0 where
  pub within : (left : List ℕ) → IsBytes left → IsWithin (length left) (read left)
  pub first : (left : List ℕ) (n : ℕ) → IsBytes left → read left ≡ Err n → (tail : List ℕ) → IsBytes tail
      → IsWithin (length tail) (read (take (length left - n) left ++ tail))

at_start : (left tail : List ℕ) → take (length left - length left) left ++ tail ≡ tail
at_start left tail = let z : length left - length left ≡ 0 = omega arith in rw z refl

pub Places-done : {A : Type 0} (x : A) → Places (done x)
Places-done x = record {
  within = λ left fits. omega arith;
  first = λ left n fits e tail fit. absurd cc;
}

-- ---- one unit

kept_within : {A : Type 0} (test : A → Bool) (n : ℕ) (r : Result (A × List ℕ) ℕ)
    → ((x : A × List ℕ) → r ≡ Ok x → length x.1 ≤ n) → IsWithin n (kept test n r)
kept_within test n (Ok x) h = tested (test x.0) where
  tested : (b : Bool) → IsWithin n (cond b (Ok x) (Err n))
  tested true = h x refl
  tested false = omega arith
kept_within test n (Err m) h = omega arith

kept_stops : {A : Type 0} (test : A → Bool) (n m : ℕ) (r : Result (A × List ℕ) ℕ) → kept test n r ≡ Err m → n ≡ m
kept_stops {A = A} test n m (Ok x) e = tested (test x.0) e where
  tested : (b : Bool) → cond b (Ok x) (Err n) ≡ Err m → n ≡ m
  tested true h = absurd cc
  tested false h = cc
kept_stops test n m (Err k) e = cc

taken_within : {A : Type 0} {p : Reader A} {part : A → List ℕ} {P : A → Type 0} → Spells p part P
    → (left : List ℕ) → IsBytes left → (x : A × List ℕ) → p left ≡ Ok x → length x.1 ≤ length left
taken_within {part = part} s left fits x e =
    let t = (s.takes left x.0 x.1 fits e).0 in
    omega (arith, ap length t, length-append (part x.0) x.1)

-- a unit stops at its start
pub Places-unit : {A : Type 0} {p : Reader A} {part : A → List ℕ} {P : A → Type 0}
    → Spells p part P → (test : A → Bool) → Places (unit test p)
Places-unit {p = p} s test = record {
  within = λ left fits. kept_within test (length left) (p left) (taken_within s left fits);
  first = λ left n fits e tail fit.
      let at : length left ≡ n = kept_stops test (length left) n (p left) e in
      rw (← at, at_start left tail) (kept_within test (length tail) (p tail) (taken_within s tail fit));
}

number_within : (n : ℕ) (left : List ℕ) → IsWithin (length left) (number n left)
number_within n left = tested (ltb (length left) n) where
  tested : (b : Bool) → IsWithin (length left) (cond b (Err (length left)) (Ok (little_number n left, drop n left)))
  tested true = omega arith
  tested false = omega (arith, length-drop n left)

number_stops : (n : ℕ) (left : List ℕ) (m : ℕ) → number n left ≡ Err m → length left ≡ m
number_stops n left m e = tested (ltb (length left) n) e where
  tested : (b : Bool) → cond b (Err (length left)) (found (little_number n left, drop n left)) ≡ Err m → length left ≡ m
  tested true h = cc
  tested false h = absurd cc

pub Places-number : (n : ℕ) → Places (number n)
Places-number n = record {
  within = λ left fits. number_within n left;
  first = λ left m fits e tail fit.
      let at : length left ≡ m = number_stops n left m e in
      rw (← at, at_start left tail) (number_within n tail);
}

-- ---- one after another

take_behind : (a mid : List ℕ) (n : ℕ) → n ≤ length mid
    → take (length (a ++ mid) - n) (a ++ mid) ≡ a ++ take (length mid - n) mid
take_behind [] mid n le = refl
take_behind (b ∷ a) mid n le =
    let more : suc (length (a ++ mid)) - n ≡ suc (length (a ++ mid) - n) = omega (arith, length-append a mid) in
    rw (more, take_behind a mid n le) refl

within_more : {A : Type 0} (m n : ℕ) (r : Result (A × List ℕ) ℕ) → m ≤ n → IsWithin m r → IsWithin n r
within_more m n (Ok x) le h = omega arith
within_more m n (Err k) le h = omega arith

within_next : {A B : Type 0} (n : ℕ) (r : Result (A × List ℕ) ℕ) (k : A → Reader B) → IsWithin n r
    → ((x : A × List ℕ) → r ≡ Ok x → IsWithin (length x.1) (k x.0 x.1)) → IsWithin n (next r k)
within_next n (Ok x) k h inner = within_more (length x.1) n (k x.0 x.1) h (inner x refl)
within_next n (Err m) k h inner = h

pub Places-then : {A T : Type 0} {p : Reader A} {k : A → Reader T} {part : A → List ℕ} {P : A → Type 0}
    → Spells p part P → Places p → ((a : A) → P a → Places (k a)) → Places (p >>= k)
Places-then {A = A} {T = T} {p = p} {k = k} {part = part} {P = P} s at inner = record {
  within = λ left fits. whole left fits;
  first = λ left n fits e tail fit. go left n fits tail fit (p left) refl e;
} where
  whole : (left : List ℕ) → IsBytes left → IsWithin (length left) (next (p left) k)
  whole left fits =
      within_next (length left) (p left) k (at.within left fits) (λ x h.
      let t = s.takes left x.0 x.1 fits h in
      (inner x.0 t.1).within x.1 (IsBytes-rest left (part x.0) x.1 fits t.0))

  go : (left : List ℕ) (n : ℕ) → IsBytes left → (tail : List ℕ) → IsBytes tail → (r : Result (A × List ℕ) ℕ)
      → p left ≡ r → next r k ≡ Err n → IsWithin (length tail) (next (p (take (length left - n) left ++ tail)) k)
  go left n fits tail fit (Err m) h e =
      let same : p left ≡ Err n = h ∙ cc in
      let all : IsBytes (take (length left - n) left ++ tail) =
      IsBytes-append (take (length left - n) left) tail (IsBytes-take (length left - n) left fits) fit in
      within_next (length tail) (p (take (length left - n) left ++ tail)) k (at.first left n fits same tail fit)
      (λ x hx.
      let t = s.takes (take (length left - n) left ++ tail) x.0 x.1 all hx in
      (inner x.0 t.1).within x.1 (IsBytes-rest (take (length left - n) left ++ tail) (part x.0) x.1 all t.0))
  go left n fits tail fit (Ok x) h e =
      let t = s.takes left x.0 x.1 fits h in
      let mid = x.1 in
      let fits_mid = IsBytes-rest left (part x.0) mid fits t.0 in
      let le : n ≤ length mid = subst (IsWithin (length mid)) e ((inner x.0 t.1).within mid fits_mid) in
      let cut : take (length left - n) left ≡ part x.0 ++ take (length mid - n) mid =
      ap (λ (xs : List ℕ). take (length xs - n) xs) t.0 ∙ take_behind (part x.0) mid n le in
      let read : p (take (length left - n) left ++ tail) ≡ Ok (x.0, take (length mid - n) mid ++ tail) =
      ap (λ (xs : List ℕ). p (xs ++ tail)) cut ∙ ap p (append_assoc (part x.0) (take (length mid - n) mid) tail)
      ∙ s.again x.0 (take (length mid - n) mid ++ tail) t.1 in
      rw read ((inner x.0 t.1).first mid n fits_mid e tail fit)

pub Places-many : {A : Type 0} (item : List A → Reader A) (part : A → List ℕ) (Rule : List A → A → Type 0)
    → ((before : List A) → Spells (item before) part (Rule before)) → ((before : List A) → Places (item before))
    → (n : ℕ) (before : List A) → Places (many item n before)
unfolding many
Places-many item part Rule s at zero before = Places-done before
Places-many item part Rule s at (suc n) before =
    Places-then (s before) (at before) (λ x _. Places-many item part Rule s at n (before ++ x ∷ []))

-- a signed number
pub Places-signed : (w : Width) (n : ℕ) → Places (signed w n)
Places-signed w n = Places-then (Spells-number n) (Places-number n) (λ k _. Places-done (cast_signed w k))
