-- What can stand behind the lines of bytes that lie within the budget.
use Rattle.std.proofs.Common.{◌≡◌, ℕ, suc, ◌+◌, ◌≤◌, ◌&&◌, Bool, true, false, nat_lt, cond, List, [], ◌∷◌, length, Option, Some, None, ◌⊎◌, inl, inr, refl, ap, sym, ◌∙◌, arith, ◌==◌, if◌then◌else◌}
use Rattle.std.proofs.lemmas.Bool.Decides.{nat_tests}
use Rattle.oemm_limits.specs.declared.TheConstants.{MOST_LINE_BYTES, MOST_SCRIPT_BYTES}
use Rattle.oemm_lines.specs.declared.parts.LineFault.{LineFault}
use Rattle.oemm_lines.specs.declared.parts.LineFault.TheVariants.{TooLong, Bytes}
use Rattle.oemm_lines.specs.Stream.{Body, bodies, bodies_with, size_of, text_of, line_of, led_by, flow_from, told_lines}

-- how many bytes the lines have in all
sizes : List Body → ℕ
sizes [] = 0
sizes (b ∷ bs) = size_of b + sizes bs

one_more : (ended : Bool) (n : ℕ) → (if ended then suc n + 1 else suc n) ≡ (if ended then n + 1 else n) + 1
one_more true n = omega arith
one_more false n = omega arith

sizes-with : (c : ℕ) (bs : List Body) → sizes (bodies_with c bs) ≡ sizes bs + 1
unfolding sizes
sizes-with c [] = refl
sizes-with c (b ∷ bs) =
    let more : size_of (record { bytes = c ∷ b.bytes; ended = b.ended }) ≡ size_of b + 1 = one_more b.ended (length b.bytes) in
    omega (arith, more)

sizes-byte : (feed : Bool) (c : ℕ) (bs : List Body) → sizes (cond feed (record { bytes = []; ended = true } ∷ bs) (bodies_with c bs)) ≡ sizes bs + 1
unfolding sizes
sizes-byte true c bs = omega arith
sizes-byte false c bs = sizes-with c bs

sizes-bodies : (bytes : List ℕ) → sizes (bodies bytes) ≡ length bytes
unfolding bodies sizes
sizes-bodies [] = refl
sizes-bodies (c ∷ cs) = let rest = sizes-bodies cs in sizes-byte (c == 10) c (bodies cs) ∙ omega (arith, rest)

either_fault : (long past : Bool) (budget at : ℕ) → past ≡ false →
    (cond long (Some (TooLong at)) (cond past (Some (Bytes budget)) None) ≡ None)
    ⊎ (cond long (Some (TooLong at)) (cond past (Some (Bytes budget)) None) ≡ Some (TooLong at))
either_fault true past budget at h = inr refl
either_fault false past budget at h = inl (ap (λ (p : Bool). cond p (Some (Bytes budget)) None) h)

-- only a line that is too long
only_long : (budget at number : ℕ) (bs : List Body) (fault : LineFault) → at + sizes bs ≤ budget →
    (flow_from true budget at number bs).fault ≡ Some fault → (place : ℕ) × (fault ≡ TooLong place)
unfolding flow_from sizes
only_long budget at number [] fault within is = absurd (cc is)
only_long budget at number (b ∷ bs) fault within is =
    let past : nat_lt budget (at + size_of b) ≡ false = grind (arith, nat_tests) in
    let led : Option LineFault → Option LineFault =
    λ f. (led_by f (line_of true at number (text_of b)) (flow_from true budget (at + size_of b) (number + 1) bs)).fault in
    elim (either_fault (nat_lt MOST_LINE_BYTES (length b.bytes) && nat_lt (at + MOST_LINE_BYTES) budget) (nat_lt budget (at + size_of b)) budget at past) [
      | inl none ↦
          only_long budget (at + size_of b) (number + 1) bs fault (omega arith) (sym (ap led none) ∙ is)
      | inr long ↦ (let there = sym (ap led long) ∙ is in (at, cc))
    ]

-- of a script within its limit of bytes
pub only_too_long : (bytes : List ℕ) (fault : LineFault) → length bytes ≤ MOST_SCRIPT_BYTES →
    (told_lines true MOST_SCRIPT_BYTES 0 1 bytes).fault ≡ Some fault → (at : ℕ) × (fault ≡ TooLong at)
only_too_long bytes fault within is =
    only_long MOST_SCRIPT_BYTES 0 1 (bodies bytes) fault (omega (arith, sizes-bodies bytes)) is
