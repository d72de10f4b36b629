-- How a feed goes on.
use Rattle.std.proofs.Common.{◌≡◌, ℕ, ◌+◌, ◌-◌, ◌<◌, ◌≤◌, Bool, true, false, ◌&&◌, nat_lt, min, List, [], ◌∷◌, ◌++◌, length, drop, Option, Some, None, IfSome, Result, Ok, Err, if◌then◌else◌, refl, ap, sym, ◌∙◌, append_assoc, append-nil, arith, length-append, length-drop}
use Rattle.std.specs.Option.{option_map}
use Rattle.std.proofs.lemmas.List.{drop-append-le, drop-drop}
use Rattle.std.proofs.lemmas.Bool.Decides.{nat_tests}
use Rattle.oemm_limits.specs.declared.TheConstants.{MOST_LINE_BYTES, MOST_MESH_BYTES}
use Rattle.fault_counts.specs.Told.{Told, Takes, IsAtEnd}
use Rattle.mesh_items.specs.declared.items.MeshFault.{MeshFault}
use Rattle.mesh_items.specs.declared.items.MeshFault.TheVariants.{Text, TooMany}
use Rattle.mesh_items.specs.declared.items.MeshWhy.TheVariants.{Cut}
use Rattle.oemm_limits.specs.declared.what.What.TheVariants.{MeshBytes}
use Rattle.oemm_lines.specs.declared.parts.LineFault.{LineFault}
use Rattle.oemm_lines.specs.declared.parts.LineFault.TheVariants.{Bytes}
use Rattle.oemm_lines.specs.declared.parts.LineFault.TheVariants as line
use Rattle.oemm_lines.specs.declared.parts.Line.{Line}
use Rattle.oemm_lines.specs.Stream.{Stream, Flow, Body, bodies, line_fault, led_by, flow_from, left_of, GivesNext, Says, StaysPut, flow_of, flow_left, flow_by, fault_alone, nothing_more, told_lines}
use Rattle.oemm_lines.proofs.FlowLaws.{told_lines-none}
use Rattle.mesh_items.specs.Faults.{fault_of}
use Rattle.ply_reader.specs.Body.{Rest, forward, passed}
use Rattle.ply_reader.specs.Feed.{Feed, rest_with, rest_left, failed, FailsBeyond, IsOpen}

-- a byte past the limit is needed
passed-past : (n : ℕ) (r : Rest) → MOST_MESH_BYTES < r.at + min n (length r.bytes) → passed n r ≡ Err (TooMany MeshBytes MOST_MESH_BYTES)
unfolding passed
passed-past n r past = grind (arith, nat_tests)

-- there are too few bytes
passed-cut : (n : ℕ) (r : Rest) → r.at + length r.bytes ≤ MOST_MESH_BYTES → length r.bytes < n → passed n r ≡ Err (Text (r.at + length r.bytes) Cut)
unfolding passed
passed-cut n r within few = grind (arith, nat_tests)

-- the bytes are there
pub passed-on : (n : ℕ) (r : Rest) → n ≤ length r.bytes → r.at + n ≤ MOST_MESH_BYTES → passed n r ≡ Ok (forward n r)
unfolding passed
passed-on n r there within = grind (arith, nat_tests)

-- where the limit is reached and a byte is left, no more can be passed than were taken
past_limit : (n at : ℕ) (ahead : List ℕ) (c : ℕ) (cs : List ℕ) → length ahead ≤ at → at ≡ MOST_MESH_BYTES → length ahead < n → passed n (rest_with (at - length ahead) ahead (c ∷ cs)) ≡ Err (TooMany MeshBytes MOST_MESH_BYTES)
past_limit n at ahead c cs within full more =
    let size = length-append ahead (c ∷ cs) in
    passed-past n (rest_with (at - length ahead) ahead (c ∷ cs)) (omega (arith, size))

none_is_some : {A : Type 0} {x : A} → None ≡ Some x → ⊥
none_is_some e = cc

some_is_some : {A : Type 0} {x y : A} → Some x ≡ Some y → x ≡ y
some_is_some e = cc

none_behind : {A : Type 0} {x : A} {xs : List A} → x ∷ xs ≡ [] → ⊥
none_behind e = cc

and_false : (b : Bool) → (b && false) ≡ false
and_false true = refl
and_false false = refl

-- a line that isn't too long can only lack bytes
bytes_alone : (long past : Bool) (at budget : ℕ) (fault : LineFault) → long ≡ false → (if long then Some (line.TooLong at) else if past then Some (Bytes budget) else None) ≡ Some fault → fault ≡ Bytes budget
bytes_alone true past at budget fault short is = absurd cc
bytes_alone false true at budget fault short is = cc
bytes_alone false false at budget fault short is = absurd cc

-- where the budget is reached, no line is too long
line_at_budget : (budget : ℕ) (b : Body) (fault : LineFault) → line_fault budget budget b ≡ Some fault → fault ≡ Bytes budget
line_at_budget budget b fault is =
    let short : nat_lt (budget + MOST_LINE_BYTES) budget ≡ false = grind (arith, nat_tests) in
    bytes_alone _ _ budget budget fault (ap (λ t. nat_lt MOST_LINE_BYTES (length b.bytes) && t) short ∙ and_false _) is

led_at_budget : (budget : ℕ) (l : Line) (f : Flow) (first : Option LineFault) (fault : LineFault) → ((e : LineFault) → first ≡ Some e → e ≡ Bytes budget) → led_by first l f ≡ fault_alone fault → fault ≡ Bytes budget
led_at_budget budget l f None fault bytes is = absurd (none_behind (ap (λ (g : Flow). g.lines) is))
led_at_budget budget l f (Some e) fault bytes is = some_is_some (ap (λ (g : Flow). g.fault) (sym is)) ∙ bytes e refl

flow_at_budget : (comments : Bool) (budget number : ℕ) (bs : List Body) (fault : LineFault) → flow_from comments budget budget number bs ≡ fault_alone fault → fault ≡ Bytes budget
unfolding flow_from
flow_at_budget comments budget number [] fault is = absurd (none_is_some (ap (λ (f : Flow). f.fault) is))
flow_at_budget comments budget number (b ∷ bs) fault is = led_at_budget budget _ _ (line_fault budget budget b) fault (line_at_budget budget b) is

told_at_budget : (comments : Bool) (budget at number : ℕ) (bytes : List ℕ) (fault : LineFault) → at ≡ budget → told_lines comments budget at number bytes ≡ fault_alone fault → fault ≡ Bytes budget
told_at_budget comments budget at number bytes fault full is =
    flow_at_budget comments budget number (bodies bytes) fault (ap (λ p. told_lines comments budget p number bytes) (sym full) ∙ is)

-- where the limit is reached and the lines show a fault, it is that of the bytes past the limit, and a byte is left
stream_at_budget : {S : Type 0} (s : Stream S) (bytes : List ℕ) (fault : LineFault) → s.fault ≡ None → s.at ≡ s.budget → flow_of s bytes ≡ fault_alone fault → fault ≡ Bytes s.budget
stream_at_budget s bytes fault calm full shows =
    told_at_budget s.comments s.budget s.at s.number bytes fault full (ap (λ f. flow_by f (told_lines s.comments s.budget s.at s.number bytes)) (sym calm) ∙ shows)

nothing_shows : {S : Type 0} (s : Stream S) (fault : LineFault) → s.fault ≡ None → flow_of s [] ≡ fault_alone fault → ⊥
nothing_shows s fault calm shows =
    let quiet : flow_of s [] ≡ nothing_more = ap (λ f. flow_by f (told_lines s.comments s.budget s.at s.number [])) calm ∙ told_lines-none s.comments s.budget s.at s.number in
    none_is_some (ap (λ (f : Flow). f.fault) (sym quiet ∙ shows))

limit_reached :
    {S : Type 0} (s : Stream S) (n : ℕ) (fault : LineFault) (ahead : List ℕ) (left : Told) → s.fault ≡ None → length ahead ≤ s.at → s.at ≡ MOST_MESH_BYTES → s.budget ≡ MOST_MESH_BYTES →
    length ahead < n → IfSome (option_map (flow_of s) left) (λ f. f ≡ fault_alone fault) →
    option_map (passed n) (option_map (rest_with (s.at - length ahead) ahead) left) ≡ option_map (failed (fault_of fault)) (option_map (rest_with (s.at - length ahead) ahead) left)
limit_reached s n fault ahead None calm within full budget more shows = refl
limit_reached s n fault ahead (Some []) calm within full budget more shows = absurd (nothing_shows s fault calm shows)
limit_reached s n fault ahead (Some (c ∷ cs)) calm within full budget more shows =
    let is : fault ≡ Bytes MOST_MESH_BYTES = stream_at_budget s (c ∷ cs) fault calm (full ∙ sym budget) shows ∙ ap Bytes budget in
    ap Some (past_limit n s.at ahead c cs within full more ∙ ap (λ f. Err (fault_of f)) (sym is))

-- and it is as it was behind the call
abbrev failing : MeshFault → Rest → Result Rest MeshFault
failing fault r = Err fault

kept_fault : {S : Type 0} (told : S → Told) (old new : Stream S) (ahead : List ℕ) (fault : MeshFault) → StaysPut told old new → option_map (failing fault) (rest_left told (record { stream = old; ahead = ahead })) ≡ option_map (failing fault) (rest_left told (record { stream = new; ahead = ahead }))
kept_fault told old new ahead fault stays =
    ap (λ at. option_map (failing fault) (option_map (rest_with (at - length ahead) ahead) (left_of told old))) (sym stays.place)
    ∙ ap (λ left. option_map (failing fault) (option_map (rest_with (new.at - length ahead) ahead) left)) (sym stays.left)

-- a fault of the line that would begin at the limit
pub beyond_limit :
    {S : Type 0} (told : S → Told) (old new : Stream S) (ahead : List ℕ) (fault : LineFault) →
    old.fault ≡ None → length ahead ≤ old.at → old.at ≡ MOST_MESH_BYTES → old.budget ≡ MOST_MESH_BYTES →
    GivesNext told old (Err fault) new → Says (flow_left told old) (Err fault) (flow_left told new) →
    FailsBeyond (length ahead) (rest_left told (record { stream = old; ahead = ahead })) (fault_of fault) (rest_left told (record { stream = new; ahead = ahead }))
beyond_limit told old new ahead line.Read calm within full budget gives says n more = tt
beyond_limit told old new ahead line.Memory calm within full budget gives says n more = tt
beyond_limit told old new ahead (line.TooLong at) calm within full budget gives says n more =
    limit_reached old n (line.TooLong at) ahead (left_of told old) calm within full budget more says.0 ∙ kept_fault told old new ahead _ gives.0
beyond_limit told old new ahead (line.Bytes taken) calm within full budget gives says n more =
    limit_reached old n (line.Bytes taken) ahead (left_of told old) calm within full budget more says.0 ∙ kept_fault told old new ahead _ gives.0

-- what is left is the same where a block was taken
refilled_over :
    (at n : ℕ) (now more : List ℕ) (new : Told) →
    option_map (rest_with at (now ++ more)) new ≡ option_map (rest_with at now) (option_map (λ rest. more ++ rest) new)
refilled_over at n now more None = refl
refilled_over at n now more (Some rest) = ap (λ bytes. Some (record { at = at; bytes = bytes })) (append_assoc now more rest)

pub refilled :
    {S : Type 0} (told : S → Told) (old new : Stream S) (now after more : List ℕ) (n : ℕ) →
    after ≡ now ++ more → new.at ≡ old.at + n → length more ≡ n → Takes (left_of told old) (left_of told new) more →
    rest_left told (record { stream = new; ahead = after }) ≡ rest_left told (record { stream = old; ahead = now })
refilled told old new now after more n grown place size taken =
    let longer = ap (λ (t : List ℕ). length t) grown ∙ length-append now more in
    let same : new.at - length after ≡ old.at - length now = omega (arith, longer) in
    ap (λ (bytes : List ℕ). option_map (rest_with (new.at - length after) bytes) (left_of told new)) grown
    ∙ ap (λ at. option_map (rest_with at (now ++ more)) (left_of told new)) same
    ∙ refilled_over (old.at - length now) n now more (left_of told new)
    ∙ ap (option_map (rest_with (old.at - length now) now)) (sym taken)

-- the source is at its end where more is needed
cut_over :
    (n at : ℕ) (ahead : List ℕ) (left : Told) → length ahead ≤ at → at ≤ MOST_MESH_BYTES → length ahead < n → IsAtEnd left →
    option_map (passed n) (option_map (rest_with (at - length ahead) ahead) left) ≡ option_map (failed (Text at Cut)) (option_map (rest_with (at - length ahead) ahead) left)
cut_over n at ahead None within limit more end = refl
cut_over n at ahead (Some rest) within limit more end =
    let size : length (ahead ++ rest) ≡ length ahead = ap (λ (t : List ℕ). length (ahead ++ t)) end ∙ ap length (append-nil ahead) in
    let place : at - length ahead + length (ahead ++ rest) ≡ at = omega (arith, size) in
    ap Some (passed-cut n (rest_with (at - length ahead) ahead rest) (omega (arith, size)) (omega (arith, size)) ∙ ap (λ p. Err (Text p Cut)) place)

pub cut_short :
    {S : Type 0} (told : S → Told) (f : Feed S) (old : Option Rest) (n : ℕ) →
    length f.ahead ≤ f.stream.at → f.stream.at ≤ MOST_MESH_BYTES → length f.ahead < n → IsAtEnd (left_of told f.stream) →
    rest_left told f ≡ old →
    option_map (passed n) old ≡ option_map (failed (Text f.stream.at Cut)) (rest_left told f)
cut_short told f old n within limit more end same =
    ap (option_map (passed n)) (sym same) ∙ cut_over n f.stream.at f.ahead (left_of told f.stream) within limit more end

-- what is left where the first bytes are let go
skipped_over :
    (k at : ℕ) (ahead : List ℕ) (left : Told) → k ≤ length ahead → length ahead ≤ at →
    option_map (rest_with (at - length (drop k ahead)) (drop k ahead)) left ≡ option_map (forward k) (option_map (rest_with (at - length ahead) ahead) left)
skipped_over k at ahead None there within = refl
skipped_over k at ahead (Some rest) there within =
    let size = length-drop k ahead in
    let place : at - length (drop k ahead) ≡ at - length ahead + k = omega (arith, size) in
    ap (λ p. Some (record { at = p; bytes = drop k ahead ++ rest })) place
    ∙ ap (λ (bytes : List ℕ). Some (record { at = at - length ahead + k; bytes = bytes })) (sym (drop-append-le k ahead rest there))

pub skipped_rest :
    {S : Type 0} (told : S → Told) (f : Feed S) (k : ℕ) → k ≤ length f.ahead → length f.ahead ≤ f.stream.at →
    rest_left told (record f { ahead = drop k f.ahead }) ≡ option_map (forward k) (rest_left told f)
skipped_rest told f k there within = skipped_over k f.stream.at f.ahead (left_of told f.stream) there within

within_over :
    (k at : ℕ) (ahead : List ℕ) (left : Told) → k ≤ length ahead → length ahead ≤ at → at ≤ MOST_MESH_BYTES →
    IfSome (option_map (rest_with (at - length ahead) ahead) left) (λ r. (r.at + k ≤ MOST_MESH_BYTES) × (k ≤ length r.bytes))
within_over k at ahead None there within limit = tt
within_over k at ahead (Some rest) there within limit =
    let size = length-append ahead rest in (omega arith, omega (arith, size))

pub skipped_within :
    {S : Type 0} (told : S → Told) (f : Feed S) (k : ℕ) → k ≤ length f.ahead → length f.ahead ≤ f.stream.at → IsOpen f →
    IfSome (rest_left told f) (λ r. (r.at + k ≤ MOST_MESH_BYTES) × (k ≤ length r.bytes))
skipped_within told f k there within open_still = within_over k f.stream.at f.ahead (left_of told f.stream) there within open_still.1

-- what can't be passed over can't be with more behind it
pub passed-more : (m n : ℕ) (r : Rest) (fault : MeshFault) → m ≤ n → passed m r ≡ Err fault → passed n r ≡ Err fault
unfolding passed
passed-more m n r fault few fails = grind (arith, nat_tests)

-- past the limit it makes no difference how many bytes are to be passed over
pub passed-capped : (n most : ℕ) (r : Rest) → MOST_MESH_BYTES < most → passed (min n most) r ≡ passed n r
unfolding passed
passed-capped n most r beyond = grind (arith, nat_tests)

-- passing over bytes that are there, and then the others
abbrev pub chosen : Bool → Bool → ℕ → Rest → Result Rest MeshFault
chosen over cut end r = if over then Err (TooMany MeshBytes MOST_MESH_BYTES) else if cut then Err (Text end Cut) else Ok r

pub passed-chosen : (n : ℕ) (r : Rest) → passed n r ≡ chosen (nat_lt MOST_MESH_BYTES (r.at + min n (length r.bytes))) (nat_lt (length r.bytes) n) (r.at + length r.bytes) (forward n r)
unfolding passed
passed-chosen n r = refl

nat_lt-shift : (m n k : ℕ) → k ≤ n → k ≤ m → nat_lt (m - k) (n - k) ≡ nat_lt m n
nat_lt-shift m n k few there = grind (arith, nat_tests)

pub passed-split : (k n : ℕ) (r : Rest) → k ≤ n → k ≤ length r.bytes → passed (n - k) (forward k r) ≡ passed n r
passed-split k n r few there =
    let size = length-drop k r.bytes in
    let over : r.at + k + min (n - k) (length (drop k r.bytes)) ≡ r.at + min n (length r.bytes) = omega (arith, size) in
    let end : r.at + k + length (drop k r.bytes) ≡ r.at + length r.bytes = omega (arith, size) in
    let place : r.at + k + (n - k) ≡ r.at + n = omega arith in
    let whole : k + (n - k) ≡ n = omega arith in
    let next = forward k r in
    passed-chosen (n - k) next
    ∙ ap (λ m. chosen (nat_lt MOST_MESH_BYTES m) (nat_lt (length next.bytes) (n - k)) (next.at + length next.bytes) (forward (n - k) next)) over
    ∙ ap (λ m. chosen (nat_lt MOST_MESH_BYTES (r.at + min n (length r.bytes))) (nat_lt m (n - k)) (next.at + length next.bytes) (forward (n - k) next)) size
    ∙ ap (λ b. chosen (nat_lt MOST_MESH_BYTES (r.at + min n (length r.bytes))) b (next.at + length next.bytes) (forward (n - k) next)) (nat_lt-shift (length r.bytes) n k few there)
    ∙ ap (λ m. chosen (nat_lt MOST_MESH_BYTES (r.at + min n (length r.bytes))) (nat_lt (length r.bytes) n) m (forward (n - k) next)) end
    ∙ ap (λ p. chosen (nat_lt MOST_MESH_BYTES (r.at + min n (length r.bytes))) (nat_lt (length r.bytes) n) (r.at + length r.bytes) (record { at = p; bytes = drop (n - k) (drop k r.bytes) })) place
    ∙ ap (λ (bytes : List ℕ). chosen (nat_lt MOST_MESH_BYTES (r.at + min n (length r.bytes))) (nat_lt (length r.bytes) n) (r.at + length r.bytes) (record { at = r.at + n; bytes = bytes })) (drop-drop (n - k) k r.bytes ∙ ap (λ m. drop m r.bytes) whole)
    ∙ sym (passed-chosen n r)

pub passed-none : (r : Rest) → r.at ≤ MOST_MESH_BYTES → passed 0 r ≡ Ok r
passed-none r limit = passed-on 0 r (omega arith) (omega arith) ∙ ap (λ p. Ok (record { at = p; bytes = r.bytes })) (let e : r.at + 0 ≡ r.at = omega arith in e)

pub pass_step : (left k : ℕ) (old new : Option Rest) → k ≤ left → new ≡ option_map (forward k) old → IfSome old (λ r. (r.at + k ≤ MOST_MESH_BYTES) × (k ≤ length r.bytes)) → option_map (passed (left - k)) new ≡ option_map (passed left) old
pass_step left k None new few moved within = ap (option_map (passed (left - k))) moved
pass_step left k (Some r) new few moved within = ap (option_map (passed (left - k))) moved ∙ ap Some (passed-split k left r few within.1)

done_over : (at : ℕ) (ahead : List ℕ) (left : Told) → at ≤ MOST_MESH_BYTES → option_map (passed 0) (option_map (rest_with (at - length ahead) ahead) left) ≡ option_map Ok (option_map (rest_with (at - length ahead) ahead) left)
done_over at ahead None limit = refl
done_over at ahead (Some rest) limit = ap Some (passed-none (rest_with (at - length ahead) ahead rest) (omega arith))

pub pass_done : {S : Type 0} (told : S → Told) (f : Feed S) (n : ℕ) → IsOpen f → n ≡ 0 → option_map (passed n) (rest_left told f) ≡ option_map Ok (rest_left told f)
pass_done told f n open_still none = ap (λ m. option_map (passed m) (rest_left told f)) none ∙ done_over f.stream.at f.ahead (left_of told f.stream) open_still.1
