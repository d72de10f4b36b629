-- How bytes fall into lines, and what is wrong with the first of them.
use Rattle.std.proofs.Common.{◌≡◌, ◌≢◌, ℕ, ◌+◌, ◌<◌, ◌≤◌, Bool, true, false, List, [], ◌∷◌, ◌++◌, length, Some, None, refl, ap, sym, ◌∙◌, arith, if◌then◌else◌, ne_eqb}
use Rattle.std.specs.List.{All, AllByRecursion}
use Rattle.std.proofs.lemmas.List.Elements.{recursion_from_All}
use Rattle.std.proofs.lemmas.Bool.Decides.{nat_tests}
use Rattle.oemm_limits.specs.declared.TheConstants.{MOST_LINE_BYTES}
use Rattle.oemm_lines.specs.declared.parts.LineFault.{LineFault}
use Rattle.oemm_lines.specs.declared.parts.LineFault.TheVariants.{TooLong, Bytes}
use Rattle.oemm_lines.specs.Lines.{without_return}
use Rattle.oemm_lines.specs.Stream.{Body, bodies, bodies_with, size_of, text_of, line_fault, line_then, fault_alone, nothing_more, led_by, line_of, flow_from, told_lines}

bodies-none : bodies [] ≡ []
unfolding bodies
bodies-none = refl

bodies-feed : (cs : List ℕ) → bodies (10 ∷ cs) ≡ record { bytes = []; ended = true } ∷ bodies cs
unfolding bodies
bodies-feed cs = refl

bodies-byte : (c : ℕ) (cs : List ℕ) → c ≢ 10 → bodies (c ∷ cs) ≡ bodies_with c (bodies cs)
unfolding bodies
bodies-byte c cs other = rw (ne_eqb c 10 other)

-- a line that a line feed ends
bodies-ended : (body rest : List ℕ) → AllByRecursion (λ c. c ≢ 10) body → bodies (body ++ 10 ∷ rest) ≡ record { bytes = body; ended = true } ∷ bodies rest
bodies-ended [] rest other = bodies-feed rest
bodies-ended (c ∷ cs) rest other =
    bodies-byte c (cs ++ 10 ∷ rest) other.0 ∙ ap (bodies_with c) (bodies-ended cs rest other.1)

-- a last line that no line feed ends
bodies-last : (c : ℕ) (cs : List ℕ) → AllByRecursion (λ c. c ≢ 10) (c ∷ cs) → bodies (c ∷ cs) ≡ record { bytes = c ∷ cs; ended = false } ∷ []
bodies-last c [] other = bodies-byte c [] other.0 ∙ ap (bodies_with c) bodies-none
bodies-last c (d ∷ ds) other = bodies-byte c (d ∷ ds) other.0 ∙ ap (bodies_with c) (bodies-last d ds other.1)

-- a line that goes on
record Begins (front bytes : List ℕ) : Type 0 where
  body : Body
  rest : List Body
  is : bodies bytes ≡ body ∷ rest
  long : length front ≤ length body.bytes

begun_with : (c : ℕ) (front bytes : List ℕ) → c ≢ 10 → Begins front bytes → Begins (c ∷ front) (c ∷ bytes)
begun_with c front bytes other b = record {
  body = record { bytes = c ∷ b.body.bytes; ended = b.body.ended };
  rest = b.rest;
  is = bodies-byte c bytes other ∙ ap (bodies_with c) b.is;
  long = (let inner = b.long in omega arith);
}

begun_alone : (c : ℕ) (bytes : List ℕ) (bs : List Body) → c ≢ 10 → bodies bytes ≡ bs → Begins (c ∷ []) (c ∷ bytes)
begun_alone c bytes [] other is = record {
  body = record { bytes = c ∷ []; ended = false };
  rest = [];
  is = bodies-byte c bytes other ∙ ap (bodies_with c) is;
  long = omega arith;
}
begun_alone c bytes (b ∷ bs) other is = record {
  body = record { bytes = c ∷ b.bytes; ended = b.ended };
  rest = bs;
  is = bodies-byte c bytes other ∙ ap (bodies_with c) is;
  long = omega arith;
}

bodies-begin : (c : ℕ) (cs rest : List ℕ) → AllByRecursion (λ c. c ≢ 10) (c ∷ cs) → Begins (c ∷ cs) (c ∷ cs ++ rest)
bodies-begin c [] rest other = begun_alone c rest (bodies rest) other.0 refl
bodies-begin c (d ∷ ds) rest other = begun_with c (d ∷ ds) (d ∷ ds ++ rest) other.0 (bodies-begin d ds rest other.1)

-- the flow of no bytes
pub told_lines-none : (comments : Bool) (budget at number : ℕ) → told_lines comments budget at number [] ≡ nothing_more
unfolding bodies flow_from
told_lines-none comments budget at number = refl

-- the first line that is no fault
flow_from-line : (comments : Bool) (budget at number : ℕ) (b : Body) (bs : List Body) → line_fault budget at b ≡ None → flow_from comments budget at number (b ∷ bs) ≡ line_then (line_of comments at number (text_of b)) (flow_from comments budget (at + size_of b) (number + 1) bs)
unfolding flow_from
flow_from-line comments budget at number b bs none = ap (λ fault. led_by fault (line_of comments at number (text_of b)) (flow_from comments budget (at + size_of b) (number + 1) bs)) none

-- the first line that is a fault
flow_from-fault : (comments : Bool) (budget at number : ℕ) (b : Body) (bs : List Body) (fault : LineFault) → line_fault budget at b ≡ Some fault → flow_from comments budget at number (b ∷ bs) ≡ fault_alone fault
unfolding flow_from
flow_from-fault comments budget at number b bs fault some = ap (λ f. led_by f (line_of comments at number (text_of b)) (flow_from comments budget (at + size_of b) (number + 1) bs)) some

size_least : (ended : Bool) (bytes : List ℕ) → length bytes ≤ (if ended then length bytes + 1 else length bytes)
size_least true bytes = omega arith
size_least false bytes = omega arith

size_at_least : (b : Body) → length b.bytes ≤ size_of b
size_at_least b = size_least b.ended b.bytes

-- a line within its limits
within_limits : (budget at : ℕ) (b : Body) → length b.bytes ≤ MOST_LINE_BYTES → at + size_of b ≤ budget → line_fault budget at b ≡ None
within_limits budget at b short within = grind (arith, nat_tests)

-- a line of which a byte lies past the budget
past_budget : (budget at : ℕ) (b : Body) → budget ≤ at + MOST_LINE_BYTES → budget < at + size_of b → line_fault budget at b ≡ Some (Bytes budget)
past_budget budget at b low past = grind (arith, nat_tests)

-- a line whose line feed lies past the budget
feed_past : (budget at : ℕ) (b : Body) → length b.bytes ≤ MOST_LINE_BYTES → budget < at + size_of b → line_fault budget at b ≡ Some (Bytes budget)
feed_past budget at b short past = grind (arith, nat_tests)

-- a line that is too long
too_long_fault : (budget at : ℕ) (b : Body) → MOST_LINE_BYTES < length b.bytes → at + MOST_LINE_BYTES < budget → line_fault budget at b ≡ Some (TooLong at)
too_long_fault budget at b long within = grind (arith, nat_tests)

-- the flow of a line that a line feed ends
pub told_lines-ended : (comments : Bool) (budget at number : ℕ) (body rest : List ℕ) → AllByRecursion (λ c. c ≢ 10) body → length body ≤ MOST_LINE_BYTES → at + (length body + 1) ≤ budget → told_lines comments budget at number (body ++ 10 ∷ rest) ≡ line_then (line_of comments at number (without_return body)) (told_lines comments budget (at + (length body + 1)) (number + 1) rest)
told_lines-ended comments budget at number body rest dark short within =
    ap (flow_from comments budget at number) (bodies-ended body rest dark)
    ∙ flow_from-line comments budget at number (record { bytes = body; ended = true }) (bodies rest) (within_limits budget at (record { bytes = body; ended = true }) short within)

-- or whose line feed lies past the budget
pub told_lines-feed_past : (comments : Bool) (budget at number : ℕ) (body rest : List ℕ) → AllByRecursion (λ c. c ≢ 10) body → length body ≤ MOST_LINE_BYTES → budget < at + (length body + 1) → told_lines comments budget at number (body ++ 10 ∷ rest) ≡ fault_alone (Bytes budget)
told_lines-feed_past comments budget at number body rest dark short past =
    ap (flow_from comments budget at number) (bodies-ended body rest dark)
    ∙ flow_from-fault comments budget at number (record { bytes = body; ended = true }) (bodies rest) (Bytes budget) (feed_past budget at (record { bytes = body; ended = true }) short past)

-- the flow of a last line that no line feed ends
pub told_lines-last : (comments : Bool) (budget at number : ℕ) (body : List ℕ) → 0 < length body → AllByRecursion (λ c. c ≢ 10) body → length body ≤ MOST_LINE_BYTES → at + length body ≤ budget → told_lines comments budget at number body ≡ line_then (line_of comments at number body) (told_lines comments budget (at + length body) (number + 1) [])
told_lines-last comments budget at number [] some dark short within = absurd (omega arith)
told_lines-last comments budget at number (c ∷ cs) some dark short within =
    ap (flow_from comments budget at number) (bodies-last c cs dark)
    ∙ flow_from-line comments budget at number (record { bytes = c ∷ cs; ended = false }) [] (within_limits budget at (record { bytes = c ∷ cs; ended = false }) short within)
    ∙ ap (λ bs. line_then (line_of comments at number (c ∷ cs)) (flow_from comments budget (at + length (c ∷ cs)) (number + 1) bs)) (sym bodies-none)

-- the flow of a line that goes on behind these bytes, which are too long
pub told_lines-long : (comments : Bool) (budget at number : ℕ) (front rest : List ℕ) → AllByRecursion (λ c. c ≢ 10) front → MOST_LINE_BYTES < length front → at + MOST_LINE_BYTES < budget → told_lines comments budget at number (front ++ rest) ≡ fault_alone (TooLong at)
told_lines-long comments budget at number [] rest dark long within = absurd (omega arith)
told_lines-long comments budget at number (c ∷ cs) rest dark long within =
    let begun = bodies-begin c cs rest dark in
    ap (flow_from comments budget at number) begun.is
    ∙ flow_from-fault comments budget at number begun.body begun.rest (TooLong at) (too_long_fault budget at begun.body (omega (arith, begun.long)) within)

-- or which end past the budget
pub told_lines-past : (comments : Bool) (budget at number : ℕ) (front rest : List ℕ) → AllByRecursion (λ c. c ≢ 10) front → budget ≤ at + MOST_LINE_BYTES → budget < at + length front → at ≤ budget → told_lines comments budget at number (front ++ rest) ≡ fault_alone (Bytes budget)
told_lines-past comments budget at number [] rest dark low past within = absurd (omega arith)
told_lines-past comments budget at number (c ∷ cs) rest dark low past within =
    let begun = bodies-begin c cs rest dark in
    ap (flow_from comments budget at number) begun.is
    ∙ flow_from-fault comments budget at number begun.body begun.rest (Bytes budget) (past_budget budget at begun.body low (omega (arith, begun.long, size_at_least begun.body)))

some_bytes : (body : List ℕ) → body ≢ [] → 0 < length body
some_bytes [] some = absurd (some refl)
some_bytes (c ∷ cs) some = omega arith

-- the laws of these flows, with `All`
pub ended : (comments : Bool) (budget at number : ℕ) (body rest : List ℕ) → All (λ c. c ≢ 10) body → length body ≤ MOST_LINE_BYTES → at + (length body + 1) ≤ budget → told_lines comments budget at number (body ++ 10 ∷ rest) ≡ line_then (line_of comments at number (without_return body)) (told_lines comments budget (at + (length body + 1)) (number + 1) rest)
ended comments budget at number body rest dark = told_lines-ended comments budget at number body rest (recursion_from_All (λ c. c ≢ 10) body dark)

pub last : (comments : Bool) (budget at number : ℕ) (body : List ℕ) → body ≢ [] → All (λ c. c ≢ 10) body → length body ≤ MOST_LINE_BYTES → at + length body ≤ budget → told_lines comments budget at number body ≡ line_then (line_of comments at number body) nothing_more
last comments budget at number body some dark short within =
    told_lines-last comments budget at number body (some_bytes body some) (recursion_from_All (λ c. c ≢ 10) body dark) short within
    ∙ ap (line_then (line_of comments at number body)) (told_lines-none comments budget (at + length body) (number + 1))

pub too_long : (comments : Bool) (budget at number : ℕ) (front rest : List ℕ) → All (λ c. c ≢ 10) front → MOST_LINE_BYTES < length front → at + MOST_LINE_BYTES < budget → told_lines comments budget at number (front ++ rest) ≡ fault_alone (TooLong at)
too_long comments budget at number front rest dark = told_lines-long comments budget at number front rest (recursion_from_All (λ c. c ≢ 10) front dark)

pub past : (comments : Bool) (budget at number : ℕ) (front rest : List ℕ) → All (λ c. c ≢ 10) front → at ≤ budget → budget ≤ at + MOST_LINE_BYTES → budget < at + length front → told_lines comments budget at number (front ++ rest) ≡ fault_alone (Bytes budget)
past comments budget at number front rest dark order low over = told_lines-past comments budget at number front rest (recursion_from_All (λ c. c ≢ 10) front dark) low over order

pub end_past : (comments : Bool) (budget at number : ℕ) (body rest : List ℕ) → All (λ c. c ≢ 10) body → length body ≤ MOST_LINE_BYTES → budget < at + (length body + 1) → told_lines comments budget at number (body ++ 10 ∷ rest) ≡ fault_alone (Bytes budget)
end_past comments budget at number body rest dark = told_lines-feed_past comments budget at number body rest (recursion_from_All (λ c. c ≢ 10) body dark)
