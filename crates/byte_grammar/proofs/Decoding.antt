-- What decoding answers, by what reading gives.
use Rattle.std.proofs.Common.{eqb, false, zero, suc, ◌≡◌, ℕ, ◌-◌, ◌<◌, ◌≤◌, List, [], ◌∷◌, ◌++◌, length, take, Result, Ok, Err, IfOk, refl, ap, subst, ◌∙◌, arith}
use Rattle.byte_grammar.specs.declared.fault.CodecFault.{CodecFault}
use Rattle.byte_grammar.specs.declared.fault.CodecFault.TheVariants as faults
use Rattle.byte_grammar.specs.declared.stop.Stop.{Stop}
use Rattle.byte_grammar.specs.declared.stop.Stop.TheVariants as stop
use Rattle.byte_grammar.specs.Reader.{Reader, ended, last_of, whole, IsWithin, IsBytes}
use Rattle.byte_grammar.specs.Calls.{Gives, ReadsWithin, Decodes, GivesIt, StopsFirst}
use Rattle.std.proofs.lemmas.List.{take_at, length-append}
use Rattle.byte_grammar.proofs.Variants.{Makes}
use Rattle.byte_grammar.proofs.Places.{Places}

pub whole_within : {A : Type 0} {p : Reader A} → Places p → (bytes : List ℕ) → IsBytes bytes
    → (n : ℕ) → whole p bytes ≡ Err n → n ≤ length bytes
whole_within {A = A} {p = p} s bytes fits n e = from (p bytes) (s.within bytes fits) e where
  at : (y : A) (rest : List ℕ) → length rest ≤ length bytes → ended y rest ≡ Err n → n ≤ length bytes
  at y [] le e = absurd cc
  at y (b ∷ bs) le e = let same : length (b ∷ bs) ≡ n = cc in omega arith

  from : (r : Result (A × List ℕ) ℕ) → IsWithin (length bytes) r → last_of r ≡ Err n → n ≤ length bytes
  from (Ok y) le e = at y.0 y.1 le e
  from (Err m) le e = let same : m ≡ n = cc in omega arith

-- whatever stands behind the place of a fault, reading does not stop before it
pub whole_first : {T W : Type 0} {make : T → W} {p : Reader W} {part : T → List ℕ} {P : T → Type 0}
    → Makes make p part P → Places p
    → (bytes : List ℕ) → IsBytes bytes → (n : ℕ) → whole p bytes ≡ Err n → (tail : List ℕ) → IsBytes tail
    → IsWithin (length tail) (p (take (length bytes - n) bytes ++ tail))
whole_first {W = W} {make = make} {p = p} {part = part} m s bytes fits n e tail fit = from (p bytes) refl e where
  at : (y : W) (rest : List ℕ) → p bytes ≡ Ok (y, rest) → ended y rest ≡ Err n
      → IsWithin (length tail) (p (take (length bytes - n) bytes ++ tail))
  at y [] h e = absurd cc
  at y (b ∷ bs) h e =
      let same : length (b ∷ bs) ≡ n = cc in
      let t = m.takes bytes y (b ∷ bs) fits h in
      let len : length (part t.parts) ≡ length bytes - n =
      omega (arith, ap length t.taken, length-append (part t.parts) (b ∷ bs)) in
      let front : take (length bytes - n) bytes ≡ part t.parts =
      ap (λ (xs : List ℕ). take (length bytes - n) xs) t.taken ∙ take_at (part t.parts) (b ∷ bs)
      (length bytes - n) len in
      rw (front, m.again t.parts tail t.rule) (omega arith)

  from : (r : Result (W × List ℕ) ℕ) → p bytes ≡ r → last_of r ≡ Err n
      → IsWithin (length tail) (p (take (length bytes - n) bytes ++ tail))
  from (Ok y) h e = at y.0 y.1 h e
  from (Err k) h e = s.first bytes n fits (h ∙ cc) tail fit

pub decoded_first : {X : Type 0} (read : Reader X) (bytes : List ℕ) (r : Result X CodecFault)
    → ((n : ℕ) → whole read bytes ≡ Err n → (tail : List ℕ) → IsBytes tail → IsWithin (length tail)
    (read (take (length bytes - n) bytes ++ tail)))
    → Decodes read bytes r → StopsFirst read bytes r
decoded_first read bytes (Ok x) first h = tt
decoded_first read bytes (Err faults.Memory) first h = tt
decoded_first read bytes (Err (faults.Bad at)) first h = λ tail fit.
    let is : length bytes - h.0 ≡ at = omega (arith, h.2) in
    subst (λ (k : ℕ). IsWithin (length tail) (read (take k bytes ++ tail))) is (first h.0 h.1 tail fit)

pub decoded_found : {X : Type 0} (read : Reader X) (bytes : List ℕ) (Q : X → Type 0) (r : Result X CodecFault)
    → ((x : X) → whole read bytes ≡ Ok x → Q x) → Decodes read bytes r → IfOk r Q
decoded_found read bytes Q (Ok x) takes h = takes x h
decoded_found read bytes Q (Err e) takes h = tt

pub decoded_only : {X : Type 0} (read : Reader X) (bytes : List ℕ) (y : X) (r : Result X CodecFault)
    → whole read bytes ≡ Ok y → Decodes read bytes r → GivesIt y r
decoded_only read bytes y (Ok x) again h = cc
decoded_only read bytes y (Err (faults.Bad at)) again h = absurd (cc (h.1))
decoded_only read bytes y (Err faults.Memory) again h = tt

-- what a call gives of all bytes leaves no more than there were
pub gives_within : {X Y : Type 0} (view : X → Y × List ℕ) (n : ℕ) (r : Result X Stop) (read : Result (Y × List ℕ) ℕ)
    → Gives view r read → IsWithin n read → ReadsWithin (λ x. length (view x).1) n r
gives_within view n (Ok x) read h w = rw h at w
gives_within view n (Err (stop.Bad k)) read h w = rw h at w
gives_within view n (Err stop.Memory) read h w = tt

pub whole_ended : {X : Type 0} (read : Reader X) (bytes : List ℕ) (x : X) (rest : List ℕ)
    → read bytes ≡ Ok (x, rest) → length rest ≡ 0 → whole read bytes ≡ Ok x
whole_ended read bytes x [] h none = rw h refl
whole_ended read bytes x (b ∷ rest) h none = absurd (omega arith)

pub whole_followed : {X : Type 0} (read : Reader X) (bytes : List ℕ) (x : X) (rest : List ℕ)
    → read bytes ≡ Ok (x, rest) → 0 < length rest → whole read bytes ≡ Err (length rest)
whole_followed read bytes x [] h some = absurd (omega arith)
whole_followed read bytes x (b ∷ rest) h some = rw h refl

pub whole_stopped : {X : Type 0} (read : Reader X) (bytes : List ℕ) (n : ℕ) → read bytes ≡ Err n
    → whole read bytes ≡ Err n
whole_stopped read bytes n h = rw h refl

pub not_none : (n : ℕ) → eqb n 0 ≡ false → 0 < n
not_none zero h = absurd cc
not_none (suc n) h = omega arith
