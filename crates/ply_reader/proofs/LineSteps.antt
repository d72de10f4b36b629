-- The lines of a header, one behind another.
use Rattle.std.proofs.Common.{◌≡◌, ℕ, ◌+◌, ◌-◌, ◌⊎◌, inl, inr, true, false, List, [], ◌∷◌, ◌++◌, length, drop, length-append, append_assoc, Option, Some, None, Result, Ok, Err, IfOk, IfErr, refl, ap, sym, subst, ◌∙◌, arith}
use Rattle.std.specs.Option.{option_map}
use Rattle.std.specs.Result.{IsErrAnd}
use Rattle.std.proofs.lemmas.List.{drop_at}
use Rattle.fault_counts.specs.Told.{Told, IsAtEnd}
use Rattle.mesh_items.specs.declared.items.MeshFault.{MeshFault}
use Rattle.mesh_items.specs.declared.items.MeshFault.TheVariants.{Read, Text, TooMany, Memory}
use Rattle.mesh_items.specs.declared.items.MeshWhy.TheVariants.{Head}
use Rattle.mesh_items.specs.Reading.{Reading, fault_alone}
use Rattle.oemm_lines.specs.declared.parts.Line.{Line}
use Rattle.oemm_lines.specs.Stream.{Stream, Flow, line_then, left_of, left_with, flow_of, texts_of, GivesLine, IsLineEnd, IsDrained}
use Rattle.mesh_items.specs.Faults.{end_fault}
use Rattle.ply_header.specs.declared.layout.Layout.{Layout}
use Rattle.ply_header.specs.declared.layout.Header.{Header}
use Rattle.ply_header.specs.Results.{Answers}
use Rattle.ply_header.specs.Header.{nothing_declared, header_after, ends, layout_of}
use Rattle.ply_reader.specs.Body.{Rest, forward}
use Rattle.ply_reader.specs.Mesh.{counted, declared, end_size, behind_line, from_first, from_header, is_first, laid}
use Rattle.ply_reader.specs.Feed.{Feed, rest_with, rest_left}
use Rattle.ply_reader.specs.Reader.{Lined, lined, rest_of, first_of, header_of, only_fault, only_end, StopsLines, Ends}
use Rattle.ply_reader.proofs.StepLaws.{some_is}

-- what stands behind a line at the front
end_length : (end rest : List ℕ) → IsLineEnd end ⊎ (rest ≡ []) → (end ≡ []) ⊎ IsLineEnd end → end_size (end ++ rest) ≡ length end
end_length end rest (inl (inl e)) kind = rw e refl
end_length end rest (inl (inr e)) kind = rw e refl
end_length end rest (inr none) (inl e) = rw (e, none) refl
end_length end rest (inr none) (inr (inl e)) = rw e refl
end_length end rest (inr none) (inr (inr e)) = rw e refl

pub behind_line-at : (line : Line) (at : ℕ) (end rest : List ℕ) → IsLineEnd end ⊎ (rest ≡ []) → (end ≡ []) ⊎ IsLineEnd end → behind_line line (record { at = at; bytes = line.bytes ++ end ++ rest }) ≡ record { at = at + length (line.bytes ++ end); bytes = rest }
behind_line-at line at end rest stands kind =
    let whole = append_assoc line.bytes end rest in
    let back : drop (length line.bytes) (line.bytes ++ end ++ rest) ≡ end ++ rest = ap (drop (length line.bytes)) whole ∙ drop_at line.bytes (end ++ rest) (length line.bytes) refl in
    let size : length line.bytes + end_size (drop (length line.bytes) (line.bytes ++ end ++ rest)) ≡ length (line.bytes ++ end) =
    ap (λ (t : List ℕ). length line.bytes + end_size t) back ∙ ap (λ n. length line.bytes + n) (end_length end rest stands kind) ∙ sym (length-append line.bytes end) in
    ap (λ n. forward n (record { at = at; bytes = line.bytes ++ end ++ rest })) size
    ∙ ap (λ (t : List ℕ). record { at = at + length (line.bytes ++ end); bytes = t }) (drop_at (line.bytes ++ end) rest (length (line.bytes ++ end)) refl)

-- what a line that was given says of the bytes that it was given of
pub record Given {S : Type 0} (old : Stream S) (line : Line) (new : Stream S) (bytes rest : List ℕ) : Type 0 where
  pub lines : lined old bytes ≡ record { lines = line ∷ (lined new rest).lines; end = (lined new rest).end }
  pub behind : behind_line line (rest_of old bytes) ≡ rest_of new rest

drained : (ahead : List ℕ) (left : Told) (rest : List ℕ) → ahead ≡ [] → IsAtEnd left → left_with ahead left ≡ Some rest → rest ≡ []
drained ahead None rest nothing end left = absurd cc
drained ahead (Some t) rest nothing end left = sym (some_is left) ∙ ap (λ (a : List ℕ). a ++ t) nothing ∙ end

line_stands : {S : Type 0} (told : S → Told) (s : Stream S) (end rest : List ℕ) → left_of told s ≡ Some rest → IsLineEnd end ⊎ ((end ≡ []) × IsDrained told s) → IsLineEnd end ⊎ (rest ≡ [])
line_stands told s end rest left (inl e) = inl e
line_stands told s end rest left (inr d) = inr (drained s.ahead (told s.source) rest d.1.0 d.1.1 left)

line_kind : {S : Type 0} (told : S → Told) (s : Stream S) (end : List ℕ) → IsLineEnd end ⊎ ((end ≡ []) × IsDrained told s) → (end ≡ []) ⊎ IsLineEnd end
line_kind told s end (inl e) = inr e
line_kind told s end (inr d) = inl d.0

lined_over : Flow → ℕ → Lined
lined_over f size = record { lines = f.lines; end = end_fault size f.fault }

given_at : {S : Type 0} (told : S → Told) (old : Stream S) (line : Line) (new : Stream S) (g : GivesLine told old line new) (rest : List ℕ) → left_of told new ≡ Some rest → Given old line new (line.bytes ++ g.end ++ rest) rest
unfolding lined_over
given_at told old line new g rest left =
    let stands = line_stands told new g.end rest left g.ends in
    let first : flow_of old (line.bytes ++ g.end ++ rest) ≡ line_then line (flow_of new rest) = g.first rest stands in
    let parts = length-append (line.bytes ++ g.end) rest in
    let place = g.next_place in
    let size : old.at + length (line.bytes ++ g.end ++ rest) ≡ new.at + length rest = omega (arith, parts, place) in
    record {
      lines = ap (λ f. lined_over f (old.at + length (line.bytes ++ g.end ++ rest))) first ∙ ap (lined_over (line_then line (flow_of new rest))) size;
      behind = behind_line-at line old.at g.end rest stands (line_kind told new g.end g.ends)
          ∙ ap (λ at. record { at = at; bytes = rest }) (sym place);
    }

-- a reading over lines and what is left
abbrev pub over : {S : Type 0} → (Lined → Rest → Reading) → Stream S → List ℕ → Reading
over F s bytes = F (lined s bytes) (rest_of s bytes)

-- a line was given, and reading goes on behind it
step_over :
    {S : Type 0} (told : S → Told) (old : Stream S) (line : Line) (new : Stream S) (F H : Lined → Rest → Reading) (g : GivesLine told old line new) →
    ((q : Lined) (r : Rest) → F (record { lines = line ∷ q.lines; end = q.end }) r ≡ H q (behind_line line r)) →
    (left : Told) → left_of told new ≡ left →
    option_map (over F old) (left_of told old) ≡ option_map (over H new) left
step_over told old line new F H g goes None left = ap (option_map (over F old)) (g.taken ∙ ap (option_map (λ rest. line.bytes ++ g.end ++ rest)) left)
step_over told old line new F H g goes (Some rest) left =
    let here = given_at told old line new g rest left in
    ap (option_map (over F old)) (g.taken ∙ ap (option_map (λ rest. line.bytes ++ g.end ++ rest)) left)
    ∙ ap (λ q. Some (F q (rest_of old (line.bytes ++ g.end ++ rest)))) here.lines
    ∙ ap Some (goes (lined new rest) (rest_of old (line.bytes ++ g.end ++ rest)))
    ∙ ap (λ r. Some (H (lined new rest) r)) here.behind

step :
    {S : Type 0} (told : S → Told) (old : Stream S) (line : Line) (new : Stream S) (F H : Lined → Rest → Reading) → GivesLine told old line new →
    ((q : Lined) (r : Rest) → F (record { lines = line ∷ q.lines; end = q.end }) r ≡ H q (behind_line line r)) →
    option_map (over F old) (left_of told old) ≡ option_map (over H new) (left_of told new)
step told old line new F H g goes = step_over told old line new F H g goes (left_of told new) refl

-- the first line
first_goes : (line : Line) (q : Lined) (r : Rest) → is_first (texts_of line) ≡ true → from_first q.end (line ∷ q.lines) r ≡ from_header q.end q.lines nothing_declared (behind_line line r)
unfolding from_first
first_goes line q r is = rw is refl

first_stops : (line : Line) (q : Lined) (r : Rest) → is_first (texts_of line) ≡ false → from_first q.end (line ∷ q.lines) r ≡ fault_alone (Text line.at Head)
unfolding from_first
first_stops line q r is = rw is refl

pub first_next : {S : Type 0} (told : S → Told) (old : Stream S) (line : Line) (new : Stream S) → GivesLine told old line new → is_first (texts_of line) ≡ true → option_map (first_of old) (left_of told old) ≡ option_map (header_of nothing_declared new) (left_of told new)
first_next told old line new g is = step told old line new (λ q r. from_first q.end q.lines r) (λ q r. from_header q.end q.lines nothing_declared r) g (λ q r. first_goes line q r is)

pub first_fails : {S : Type 0} (told : S → Told) (old : Stream S) (line : Line) (new : Stream S) → GivesLine told old line new → is_first (texts_of line) ≡ false → option_map (first_of old) (left_of told old) ≡ option_map (only_fault (Text line.at Head)) (left_of told new)
first_fails told old line new g is = step told old line new (λ q r. from_first q.end q.lines r) (λ q r. fault_alone (Text line.at Head)) g (λ q r. first_stops line q r is)

-- a further line
abbrev pub goes_on : Result Header MeshFault → Lined → Rest → Reading
goes_on after q r = declared after (λ next. from_header q.end q.lines next r)

header_goes : (h : Header) (line : Line) (q : Lined) (r : Rest) → ends h (texts_of line) ≡ false → from_header q.end (line ∷ q.lines) h r ≡ goes_on (header_after h line.at (texts_of line)) q (behind_line line r)
unfolding from_header
header_goes h line q r is = rw is refl

header_stops : (h : Header) (line : Line) (q : Lined) (r : Rest) → ends h (texts_of line) ≡ true → from_header q.end (line ∷ q.lines) h r ≡ counted (layout_of h line.at (texts_of line)) (behind_line line r)
unfolding from_header
header_stops h line q r is = rw is refl

pub header_next : {S : Type 0} (told : S → Told) (old : Stream S) (h : Header) (line : Line) (new : Stream S) → GivesLine told old line new → ends h (texts_of line) ≡ false → option_map (header_of h old) (left_of told old) ≡ option_map (over (goes_on (header_after h line.at (texts_of line))) new) (left_of told new)
header_next told old h line new g is = step told old line new (λ q r. from_header q.end q.lines h r) (goes_on (header_after h line.at (texts_of line))) g (λ q r. header_goes h line q r is)

pub header_ends : {S : Type 0} (told : S → Told) (old : Stream S) (h : Header) (line : Line) (new : Stream S) → GivesLine told old line new → ends h (texts_of line) ≡ true → option_map (header_of h old) (left_of told old) ≡ option_map (over (λ q r. counted (layout_of h line.at (texts_of line)) r) new) (left_of told new)
header_ends told old h line new g is = step told old line new (λ q r. from_header q.end q.lines h r) (λ q r. counted (layout_of h line.at (texts_of line)) r) g (λ q r. header_stops h line q r is)

-- the header that was declared
pub header_on : {S : Type 0} (s : Stream S) (after : Result Header MeshFault) (h : Header) (left : Told) → after ≡ Ok h → option_map (over (goes_on after) s) left ≡ option_map (header_of h s) left
header_on s after h left is = ap (λ o. option_map (over (goes_on o) s) left) is

-- a fault that is answered
ends_over : {A : Type 0} (K : Result A MeshFault → List ℕ → Reading) (defined : Result A MeshFault) (fault : MeshFault) (old : Option Reading) (left : Told) → ((f : MeshFault) → K (Err f) ≡ only_fault f) → old ≡ option_map (K defined) left → defined ≡ Err fault → old ≡ option_map (only_fault fault) left
ends_over K defined fault old left faults same is = same ∙ ap (λ o. option_map (K o) left) is ∙ ap (λ f. option_map f left) (faults fault)

ends_is : (old : Option Reading) (fault : MeshFault) (left : Told) → old ≡ option_map (only_fault fault) left → Ends old fault left
ends_is old Read left is = tt
ends_is old Memory left is = tt
ends_is old (Text at why) left is = is
ends_is old (TooMany what count) left is = is

ends_answer : {A : Type 0} (K : Result A MeshFault → List ℕ → Reading) (defined : Result A MeshFault) (fault : MeshFault) (old : Option Reading) (left : Told) → ((f : MeshFault) → K (Err f) ≡ only_fault f) → old ≡ option_map (K defined) left → Answers defined (Err fault) → Ends old fault left
ends_answer K defined Read old left faults same answers = tt
ends_answer K defined Memory old left faults same answers = tt
ends_answer K defined (Text at why) old left faults same answers = ends_over K defined (Text at why) old left faults same answers
ends_answer K defined (TooMany what count) old left faults same answers = ends_over K defined (TooMany what count) old left faults same answers

pub after_ends : {S : Type 0} (s : Stream S) (after : Result Header MeshFault) (fault : MeshFault) (old : Option Reading) (left : Told) → old ≡ option_map (over (goes_on after) s) left → Answers after (Err fault) → Ends old fault left
after_ends s after fault old left same answers = ends_answer (λ o. over (goes_on o) s) after fault old left (λ f. refl) same answers

-- the result at the end of the header
pub layout_ends : {S : Type 0} (s : Stream S) (defined result : Result Layout MeshFault) (old : Option Reading) (left : Told) → old ≡ option_map (over (λ q r. counted defined r) s) left → result ≡ defined → IfErr result (λ fault. Ends old fault left)
layout_ends s defined (Ok l) old left same exact = tt
layout_ends s defined (Err fault) old left same exact = ends_is old fault left (ends_over (λ o. over (λ q r. counted o r) s) defined fault old left (λ f. refl) same (sym exact))

bare_over : (at at' : ℕ) (ahead : List ℕ) (left : Told) (l : Layout) → at ≡ at' → ahead ≡ [] → option_map (λ bytes. laid l (record { at = at; bytes = bytes })) left ≡ option_map (laid l) (option_map (rest_with (at' - length ahead) ahead) left)
bare_over at at' ahead None l same bare = refl
bare_over at at' ahead (Some bytes) l same bare =
    let place : at ≡ at' - length ahead = omega (arith, ap (λ (t : List ℕ). length t) bare) in
    ap (λ p. Some (laid l (record { at = p; bytes = bytes }))) place ∙ ap (λ (t : List ℕ). Some (laid l (record { at = at' - length ahead; bytes = t ++ bytes }))) (sym bare)

pub layout_told : {S : Type 0} (told : S → Told) (f : Feed S) (defined result : Result Layout MeshFault) (old : Option Reading) → f.ahead ≡ [] → old ≡ option_map (over (λ q r. counted defined r) f.stream) (left_of told f.stream) → result ≡ defined → IfOk result (λ l. old ≡ option_map (laid l) (rest_left told f))
layout_told told f defined (Ok l) old bare same exact =
    same ∙ ap (λ o. option_map (over (λ q r. counted o r) f.stream) (left_of told f.stream)) (sym exact) ∙ bare_over f.stream.at f.stream.at f.ahead (left_of told f.stream) l refl bare
layout_told told f defined (Err fault) old bare same exact = tt

-- where no line comes
stops_over : {S : Type 0} (read : Lined → Rest → Reading) (s : Stream S) (fault : MeshFault) (old new : Told) → ((r : Rest) → read (record { lines = []; end = fault }) r ≡ fault_alone fault) → option_map (lined s) old ≡ option_map (only_end fault) new → option_map (over read s) old ≡ option_map (only_fault fault) new
stops_over read s fault None None none same = refl
stops_over read s fault None (Some t) none same = absurd cc
stops_over read s fault (Some b) None none same = absurd cc
stops_over read s fault (Some b) (Some t) none same = ap (λ q. Some (read q (rest_of s b))) (some_is same) ∙ ap Some (none (rest_of s b))

stops_ends : {S : Type 0} (told : S → Told) (read : Lined → Rest → Reading) (old new : Stream S) (fault : MeshFault) → ((r : Rest) → read (record { lines = []; end = fault }) r ≡ fault_alone fault) → StopsLines told old fault new → Ends (option_map (over read old) (left_of told old)) fault (left_of told new)
stops_ends told read old new Read none stops = tt
stops_ends told read old new Memory none stops = tt
stops_ends told read old new (Text at why) none stops = stops_over read old (Text at why) (left_of told old) (left_of told new) none stops
stops_ends told read old new (TooMany what count) none stops = stops_over read old (TooMany what count) (left_of told old) (left_of told new) none stops

pub first_cut : {S : Type 0} (told : S → Told) (old new : Stream S) (fault : MeshFault) → StopsLines told old fault new → Ends (option_map (first_of old) (left_of told old)) fault (left_of told new)
unfolding from_first
first_cut told old new fault stops = stops_ends told (λ q r. from_first q.end q.lines r) old new fault (λ r. refl) stops

pub header_cut : {S : Type 0} (told : S → Told) (h : Header) (old new : Stream S) (fault : MeshFault) → StopsLines told old fault new → Ends (option_map (header_of h old) (left_of told old)) fault (left_of told new)
unfolding from_header
header_cut told h old new fault stops = stops_ends told (λ q r. from_header q.end q.lines h r) old new fault (λ r. refl) stops

-- the same fault of what is the same
pub ends_same : (old now : Option Reading) (fault : MeshFault) (left : Told) → now ≡ old → Ends now fault left → Ends old fault left
ends_same old now fault left same ends = subst (λ o. Ends o fault left) same ends

-- the fault that a call handed on
pub ends_failed : {A : Type 0} (result : Result A MeshFault) (fault : MeshFault) (old : Option Reading) (left : Told) → IsErrAnd result (λ e. e ≡ fault) → Ends old fault left → IfErr result (λ f. Ends old f left)
ends_failed (Ok x) fault old left is ends = absurd is
ends_failed (Err e) fault old left is ends = rw is ends
