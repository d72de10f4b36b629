-- What a call of a stream gives.
use Rattle.std.proofs.Common.{◌≡◌, ◌≢◌, ℕ, suc, ◌+◌, ◌-◌, ◌<◌, ◌≤◌, ◌⊎◌, inl, inr, Bool, true, false, List, [], ◌∷◌, ◌++◌, length, get_or, take, drop, Option, Some, None, IfSome, Result, Ok, Err, OnErr, refl, ap, sym, subst, ◌∙◌, append_assoc, append-nil, arith, ◌==◌, length-append, drop-cons, add-one}
use Rattle.std.specs.Option.{option_map}
use Rattle.std.specs.Result.{result_err}
use Rattle.std.specs.List.{AllByRecursion}
use Rattle.std.proofs.lemmas.Bool.Decides.{eqb_tells}
use Rattle.std.proofs.lemmas.List.{take-append-drop, length-take-le, get_or-take, drop_all}
use Rattle.oemm_limits.specs.declared.TheConstants.{MOST_LINE_BYTES}
use Rattle.fault_counts.specs.Told.{Told, Takes, TakesSome, IsAtEnd}
use Rattle.fault_counts.proofs.InRow.{takes_more}
use Rattle.oemm_lines.specs.declared.parts.Line.{Line}
use Rattle.oemm_lines.specs.declared.parts.LineFault.{LineFault}
use Rattle.oemm_lines.specs.declared.parts.LineFault.TheVariants.{Read, TooLong, Bytes, Memory}
use Rattle.oemm_lines.specs.Lines.{without_return}
use Rattle.oemm_lines.specs.Stream.{Flow, line_then, fault_alone, nothing_more, told_lines, line_of, Stream, left_with, left_of, end_of, flow_by, flow_of, flow_left, IsLineEnd, GivesLine, StaysPut, GivesNext, GivesRaw, Says}
use Rattle.oemm_lines.specs.Lines.{HasNoFeed}
use Rattle.oemm_lines.proofs.LineLaws.{no_feed}
use Rattle.oemm_lines.proofs.WordPlaces.{word_texts, words_within}
use Rattle.oemm_lines.proofs.FlowLaws.{told_lines-none, told_lines-ended, told_lines-feed_past, told_lines-last, told_lines-long, told_lines-past}

-- what was cut from a line
record Cut (body : List ℕ) : Type 0 where
  end : List ℕ
  ends : IsLineEnd end
  whole : without_return body ++ end ≡ body ++ 10 ∷ []

cut_more : (c : ℕ) (d : ℕ) (ds : List ℕ) → Cut (d ∷ ds) → Cut (c ∷ d ∷ ds)
cut_more c d ds cut = record { end = cut.end; ends = cut.ends; whole = ap (λ t. c ∷ t) cut.whole }

cut_one : (c : ℕ) → (((c == 13) ≡ true) × (c ≡ 13)) ⊎ (((c == 13) ≡ false) × (c ≢ 13)) → Cut (c ∷ [])
cut_one c (inl h) = record { end = 13 ∷ 10 ∷ []; ends = inr refl; whole = rw h.0 (ap (λ d. d ∷ 10 ∷ []) (sym h.1)) }
cut_one c (inr h) = record { end = 10 ∷ []; ends = inl refl; whole = rw h.0 refl }

cut_of : (body : List ℕ) → Cut body
cut_of [] = record { end = 10 ∷ []; ends = inl refl; whole = refl }
cut_of (c ∷ []) = cut_one c (eqb_tells c 13)
cut_of (c ∷ d ∷ ds) = cut_more c d ds (cut_of (d ∷ ds))

-- the bytes that are left without those at the front of the ones read ahead
pub left_behind : (front back : List ℕ) (left : Told) → left_with (front ++ back) left ≡ option_map (λ rest. front ++ rest) (left_with back left)
left_behind front back None = refl
left_behind front back (Some rest) = ap Some (append_assoc front back rest)

-- the first bytes and the line feed behind them
feed_split : (bytes : List ℕ) (n : ℕ) → n < length bytes → get_or bytes n 0 ≡ 10 → bytes ≡ (take n bytes ++ 10 ∷ []) ++ drop (n + 1) bytes
feed_split bytes n within found =
    sym (take-append-drop n bytes)
    ∙ ap (λ (t : List ℕ). take n bytes ++ t) (drop-cons bytes n 0 within ∙ ap (λ c. c ∷ drop (suc n) bytes) found)
    ∙ ap (λ m. take n bytes ++ 10 ∷ drop m bytes) (sym (add-one n))
    ∙ sym (append_assoc (take n bytes) (10 ∷ []) (drop (n + 1) bytes))

pub front_is_dark : (bytes : List ℕ) (n : ℕ) → n ≤ length bytes → HasNoFeed bytes n → AllByRecursion (λ c. c ≢ 10) (take n bytes)
front_is_dark bytes n within none =
    let size : length (take n bytes) ≡ n = length-take-le n bytes within in
    no_feed (take n bytes) (λ k h e. none k (omega arith) (sym (get_or-take n bytes k 0 (omega arith)) ∙ e))

at_end_behind : (back : List ℕ) (left : Told) → back ≡ [] → IsAtEnd left → IsAtEnd (left_with back left)
at_end_behind back None nothing end = tt
at_end_behind back (Some rest) nothing end = ap (λ (t : List ℕ). t ++ rest) nothing ∙ end

last_split : (bytes back : List ℕ) → back ≡ [] → bytes ≡ bytes ++ [] ++ back
last_split bytes back nothing = sym (ap (λ (t : List ℕ). bytes ++ [] ++ t) nothing ∙ append-nil (bytes ++ []) ∙ append-nil bytes)

no_end : (rest : List ℕ) → IsLineEnd [] ⊎ (rest ≡ []) → rest ≡ []
no_end rest (inl (inl e)) = cc
no_end rest (inl (inr e)) = cc
no_end rest (inr e) = e

-- the stream behind a line of so many bytes
abbrev pub behind_feed : {S : Type 0} → Stream S → S → List ℕ → ℕ → Stream S
behind_feed old source ahead size = record {
  source = source;
  ahead = drop size ahead;
  at = old.at + size;
  number = old.number + 1;
  budget = old.budget;
  comments = old.comments;
  fault = None;
}

abbrev pub passed : {S : Type 0} → Stream S → S → List ℕ → ℕ → Stream S
passed old source ahead size = record {
  source = source;
  ahead = drop size ahead;
  at = old.at + size;
  number = old.number + 1;
  budget = old.budget;
  comments = old.comments;
  fault = old.fault;
}

passed_calm : {S : Type 0} (old : Stream S) (source : S) (ahead : List ℕ) (size : ℕ) → old.fault ≡ None → passed old source ahead size ≡ behind_feed old source ahead size
passed_calm old source ahead size calm = cc

-- the stream once a line feed was found
feed_given :
    {S : Type 0} (told : S → Told) (old : Stream S) (source : S) (ahead : List ℕ) (n : ℕ) →
    old.fault ≡ None → left_of told old ≡ left_with ahead (told source) → n ≤ MOST_LINE_BYTES → n < length ahead → HasNoFeed ahead n →
    get_or ahead n 0 ≡ 10 → old.at + (n + 1) ≤ old.budget →
    GivesLine told old (line_of old.comments old.at old.number (without_return (take n ahead))) (behind_feed old source ahead (n + 1))
feed_given told old source ahead n calm left short within none found fits =
    let cut = cut_of (take n ahead) in
    let size : length (take n ahead) ≡ n = length-take-le n ahead (omega arith) in
    record {
      end = cut.end;
      ends = inl cut.ends;
      taken = left ∙ ap (λ (t : List ℕ). left_with t (told source)) (feed_split ahead n within found)
          ∙ left_behind (take n ahead ++ 10 ∷ []) (drop (n + 1) ahead) (told source)
          ∙ ap (λ (t : List ℕ). option_map (λ (rest : List ℕ). t ++ rest) (left_with (drop (n + 1) ahead) (told source))) (sym cut.whole);
      first = λ rest ended.
          ap (λ fault. flow_by fault (told_lines old.comments old.budget old.at old.number (without_return (take n ahead) ++ cut.end ++ rest))) calm
          ∙ ap (told_lines old.comments old.budget old.at old.number) (ap (λ (t : List ℕ). t ++ rest) cut.whole ∙ append_assoc (take n ahead) (10 ∷ []) rest)
          ∙ told_lines-ended old.comments old.budget old.at old.number (take n ahead) rest (front_is_dark ahead n (omega arith) none) (omega arith) (omega arith)
          ∙ ap (λ m. line_then (line_of old.comments old.at old.number (without_return (take n ahead))) (told_lines old.comments old.budget (old.at + (m + 1)) (old.number + 1) rest)) size;
      place = refl;
      count = refl;
      words = refl;
      places = words_within old.comments (without_return (take n ahead));
      texts = word_texts old.comments (without_return (take n ahead));
      next_place = omega (arith, size, ap length cut.whole, length-append (take n ahead) (10 ∷ []));
      next_count = refl;
      rises = omega arith;
      within = fits;
    }

-- the stream once its last line was found
last_given :
    {S : Type 0} (told : S → Told) (old : Stream S) (source : S) (ahead : List ℕ) (n : ℕ) →
    old.fault ≡ None → left_of told old ≡ left_with ahead (told source) → n ≤ MOST_LINE_BYTES → n ≡ length ahead → HasNoFeed ahead n →
    IsAtEnd (told source) → 0 < n → old.at + n ≤ old.budget →
    GivesLine told old (line_of old.comments old.at old.number ahead) (behind_feed old source ahead n)
last_given told old source ahead n calm left short whole none end some fits =
    let nothing : drop n ahead ≡ [] = drop_all n ahead (omega arith) in
    let dark : AllByRecursion (λ c. c ≢ 10) ahead = no_feed ahead (λ k h. none k (omega arith)) in
    record {
      end = [];
      ends = inr (refl, (nothing, end));
      taken = left ∙ ap (λ (t : List ℕ). left_with t (told source)) (last_split ahead (drop n ahead) nothing)
          ∙ left_behind (ahead ++ []) (drop n ahead) (told source);
      first = λ rest ended.
          let gone : rest ≡ [] = no_end rest ended in
          ap (λ fault. flow_by fault (told_lines old.comments old.budget old.at old.number (ahead ++ [] ++ rest))) calm
          ∙ ap (told_lines old.comments old.budget old.at old.number) (sym (last_split ahead rest gone))
          ∙ told_lines-last old.comments old.budget old.at old.number ahead (omega arith) dark (omega arith) (omega arith)
          ∙ ap (λ m. line_then (line_of old.comments old.at old.number ahead) (told_lines old.comments old.budget (old.at + m) (old.number + 1) [])) (sym whole)
          ∙ ap (λ (t : List ℕ). line_then (line_of old.comments old.at old.number ahead) (told_lines old.comments old.budget (old.at + n) (old.number + 1) t)) (sym gone);
      place = refl;
      count = refl;
      words = refl;
      places = words_within old.comments ahead;
      texts = word_texts old.comments ahead;
      next_place = omega (arith, length-append ahead []);
      next_count = refl;
      rises = omega arith;
      within = fits;
    }

-- the same for values that are equal to these
gives_equal :
    {S : Type 0} (told : S → Told) (old new next : Stream S) (line : Line) (bytes text : List ℕ) →
    GivesLine told old (line_of old.comments old.at old.number text) next → line ≡ line_of old.comments old.at old.number bytes → bytes ≡ text → new ≡ next →
    GivesLine told old line new
gives_equal told old new next line bytes text gives line_is same new_is =
    subst (λ l. GivesLine told old l new) (sym (line_is ∙ ap (line_of old.comments old.at old.number) same))
    (subst (λ s. GivesLine told old (line_of old.comments old.at old.number text) s) (sym new_is) gives)

pub gives_feed :
    {S : Type 0} (told : S → Told) (old new : Stream S) (source : S) (ahead lent bytes : List ℕ) (n : ℕ) (line : Line) →
    old.fault ≡ None → left_of told old ≡ left_with ahead (told source) → n ≤ MOST_LINE_BYTES → n < length ahead → HasNoFeed ahead n →
    get_or ahead n 0 ≡ 10 → old.at + (n + 1) ≤ old.budget → lent ≡ ahead → bytes ≡ without_return (take n lent) →
    line ≡ line_of old.comments old.at old.number bytes → new ≡ passed old source ahead (n + 1) →
    GivesLine told old line new
gives_feed told old new source ahead lent bytes n line calm left short within none found fits same text line_is new_is =
    gives_equal told old new (behind_feed old source ahead (n + 1)) line bytes (without_return (take n ahead))
    (feed_given told old source ahead n calm left short within none found fits)
    line_is (text ∙ ap (λ (t : List ℕ). without_return (take n t)) same) (new_is ∙ passed_calm old source ahead (n + 1) calm)

pub gives_last :
    {S : Type 0} (told : S → Told) (old new : Stream S) (source : S) (ahead bytes : List ℕ) (n : ℕ) (line : Line) →
    old.fault ≡ None → left_of told old ≡ left_with ahead (told source) → n ≤ MOST_LINE_BYTES → n ≡ length ahead → HasNoFeed ahead n →
    IsAtEnd (told source) → 0 < n → old.at + n ≤ old.budget → bytes ≡ ahead →
    line ≡ line_of old.comments old.at old.number bytes → new ≡ passed old source ahead n →
    GivesLine told old line new
gives_last told old new source ahead bytes n line calm left short whole none end some fits same line_is new_is =
    gives_equal told old new (behind_feed old source ahead n) line bytes ahead
    (last_given told old source ahead n calm left short whole none end some fits)
    line_is same (new_is ∙ passed_calm old source ahead n calm)

-- what follows a line is what may follow it
may_follow : (end ahead : List ℕ) (left : Told) → IsLineEnd end ⊎ ((end ≡ []) × ((ahead ≡ []) × IsAtEnd left)) → IfSome (left_with ahead left) (λ rest. IsLineEnd end ⊎ (rest ≡ []))
may_follow end ahead None ends = tt
may_follow end ahead (Some rest) (inl e) = inl e
may_follow end ahead (Some rest) (inr e) = inr (at_end_behind ahead (Some rest) e.1.0 e.1.1)

says_by : (f g : List ℕ → Flow) (line : Line) (taken : List ℕ) (P : List ℕ → Type 0) (old new : Told) → Takes old new taken → ((rest : List ℕ) → P rest → f (taken ++ rest) ≡ line_then line (g rest)) → IfSome new P → option_map f old ≡ option_map (line_then line) (option_map g new)
says_by f g line taken P old None takes first follows = ap (option_map f) takes
says_by f g line taken P old (Some rest) takes first follows = ap (option_map f) takes ∙ ap Some (first rest follows)

-- a line that was given is the first of what the stream had still to say
pub says_line : {S : Type 0} (told : S → Told) (old new : Stream S) (line : Line) → GivesLine told old line new → flow_left told old ≡ option_map (line_then line) (flow_left told new)
says_line told old new line g =
    says_by (flow_of old) (flow_of new) line (line.bytes ++ g.end) (λ rest. IsLineEnd g.end ⊎ (rest ≡ [])) (left_of told old) (left_of told new) g.taken g.first
    (may_follow g.end new.ahead (told new.source) g.ends)

sizes_by : (at next : ℕ) (taken : List ℕ) (old new : Told) → Takes old new taken → next ≡ at + length taken → option_map (λ rest. next + length rest) new ≡ option_map (λ rest. at + length rest) old
sizes_by at next taken old None takes place = sym (ap (option_map (λ rest. at + length rest)) takes)
sizes_by at next taken old (Some rest) takes place =
    let size : next + length rest ≡ at + length (taken ++ rest) = omega (arith, length-append taken rest) in
    ap Some size ∙ sym (ap (option_map (λ t. at + length t)) takes)

-- and there are as many bytes in all as before
pub same_end : {S : Type 0} (told : S → Told) (old new : Stream S) (taken : List ℕ) → Takes (left_of told old) (left_of told new) taken → new.at ≡ old.at + length taken → end_of told new ≡ end_of told old
same_end told old new taken takes place = sizes_by old.at new.at taken (left_of told old) (left_of told new) takes place

fault_by : (f : List ℕ → Flow) (fault : LineFault) (ahead : List ℕ) (left : Told) → ((rest : List ℕ) → f (ahead ++ rest) ≡ fault_alone fault) → IfSome (option_map f (left_with ahead left)) (λ flow. flow ≡ fault_alone fault)
fault_by f fault ahead None is = tt
fault_by f fault ahead (Some rest) is = is rest

end_by : (f : List ℕ → Flow) (left : Told) → IsAtEnd left → f [] ≡ nothing_more → IfSome (option_map f left) (λ flow. flow ≡ nothing_more)
end_by f None end is = tt
end_by f (Some rest) end is = ap f end ∙ is

-- a line feed past the budget was read ahead
pub shows_feed_past : (comments : Bool) (budget at number : ℕ) (ahead rest : List ℕ) (n : ℕ) → n ≤ MOST_LINE_BYTES → n < length ahead → HasNoFeed ahead n → get_or ahead n 0 ≡ 10 → budget < at + (n + 1) → told_lines comments budget at number (ahead ++ rest) ≡ fault_alone (Bytes budget)
shows_feed_past comments budget at number ahead rest n short within none found past =
    let size : length (take n ahead) ≡ n = length-take-le n ahead (omega arith) in
    ap (told_lines comments budget at number)
    (ap (λ (t : List ℕ). t ++ rest) (feed_split ahead n within found) ∙ append_assoc (take n ahead ++ 10 ∷ []) (drop (n + 1) ahead) rest
    ∙ append_assoc (take n ahead) (10 ∷ []) (drop (n + 1) ahead ++ rest))
    ∙ told_lines-feed_past comments budget at number (take n ahead) (drop (n + 1) ahead ++ rest) (front_is_dark ahead n (omega arith) none) (omega arith) (omega arith)

long_split : (ahead rest : List ℕ) (n : ℕ) → ahead ++ rest ≡ take n ahead ++ (drop n ahead ++ rest)
long_split ahead rest n = ap (λ (t : List ℕ). t ++ rest) (sym (take-append-drop n ahead)) ∙ append_assoc (take n ahead) (drop n ahead) rest

-- too many bytes without a line feed were read ahead
pub shows_long : (comments : Bool) (budget at number : ℕ) (ahead rest : List ℕ) (limit : ℕ) → limit < length ahead → HasNoFeed ahead (limit + 1) → limit ≡ MOST_LINE_BYTES → at + MOST_LINE_BYTES < budget → told_lines comments budget at number (ahead ++ rest) ≡ fault_alone (TooLong at)
shows_long comments budget at number ahead rest limit within none long fits =
    let size : length (take (limit + 1) ahead) ≡ limit + 1 = length-take-le (limit + 1) ahead (omega arith) in
    ap (told_lines comments budget at number) (long_split ahead rest (limit + 1))
    ∙ told_lines-long comments budget at number (take (limit + 1) ahead) (drop (limit + 1) ahead ++ rest) (front_is_dark ahead (limit + 1) (omega arith) none) (omega arith) fits

-- or they reach past the budget
pub shows_past : (comments : Bool) (budget at number : ℕ) (ahead rest : List ℕ) (limit : ℕ) → limit < length ahead → HasNoFeed ahead (limit + 1) → at ≤ budget → budget - at ≤ MOST_LINE_BYTES → limit ≡ budget - at → told_lines comments budget at number (ahead ++ rest) ≡ fault_alone (Bytes budget)
shows_past comments budget at number ahead rest limit within none order low same =
    let size : length (take (limit + 1) ahead) ≡ limit + 1 = length-take-le (limit + 1) ahead (omega arith) in
    ap (told_lines comments budget at number) (long_split ahead rest (limit + 1))
    ∙ told_lines-past comments budget at number (take (limit + 1) ahead) (drop (limit + 1) ahead ++ rest) (front_is_dark ahead (limit + 1) (omega arith) none) (omega arith) (omega arith) order

-- what is left is the fault that was shown
flow_of-put : {S : Type 0} (old new : Stream S) (bytes : List ℕ) → old.fault ≡ None → new.at ≡ old.at → new.number ≡ old.number → new.budget ≡ old.budget → new.comments ≡ old.comments → flow_of old bytes ≡ told_lines new.comments new.budget new.at new.number bytes
flow_of-put old new bytes calm at number budget comments = rw (calm, at, number, budget, comments) refl

same_by : (f g : List ℕ → Flow) (new old : Told) (flow : Flow) → new ≡ old → ((bytes : List ℕ) → f bytes ≡ flow) → IfSome (option_map g old) (λ x. x ≡ flow) → option_map f new ≡ option_map g old
same_by f g new None flow same is one = ap (option_map f) same
same_by f g new (Some bytes) flow same is one = ap (option_map f) same ∙ ap Some (is bytes ∙ sym one)

map_same : (f g : List ℕ → Flow) (new old : Told) → new ≡ old → ((bytes : List ℕ) → f bytes ≡ g bytes) → option_map f new ≡ option_map g old
map_same f g new None same is = ap (option_map f) same
map_same f g new (Some bytes) same is = ap (option_map f) same ∙ ap Some (is bytes)

shown : {S : Type 0} (told : S → Told) (old new : Stream S) (fault : LineFault) → old.fault ≡ None → StaysPut told old new → (new.budget ≡ old.budget) × (new.comments ≡ old.comments) → new.fault ≡ Some fault → ((rest : List ℕ) → told_lines new.comments new.budget new.at new.number (new.ahead ++ rest) ≡ fault_alone fault) → IfSome (flow_left told old) (λ f. f ≡ fault_alone fault) × (flow_left told new ≡ flow_left told old)
shown told old new fault calm put same stands shows = (
  (let P : Told → Type 0 = λ left. IfSome (option_map (flow_of old) left) (λ f. f ≡ fault_alone fault) in
      subst P put.left (fault_by (flow_of old) fault new.ahead (told new.source) (λ rest. flow_of-put old new (new.ahead ++ rest) calm put.place put.count same.0 same.1 ∙ shows rest))),
  same_by (flow_of new) (flow_of old) (left_of told new) (left_of told old) (fault_alone fault) put.left
      (λ bytes. ap (λ f. flow_by f (told_lines new.comments new.budget new.at new.number bytes)) stands)
      (let P : Told → Type 0 = λ left. IfSome (option_map (flow_of old) left) (λ f. f ≡ fault_alone fault) in
      subst P put.left (fault_by (flow_of old) fault new.ahead (told new.source) (λ rest. flow_of-put old new (new.ahead ++ rest) calm put.place put.count same.0 same.1 ∙ shows rest))),
)

-- what a call did is what was said to come
pub says_next : {S : Type 0} (told : S → Told) (old new : Stream S) (result : Result (Option Line) LineFault) → old.fault ≡ None → (new.budget ≡ old.budget) × (new.comments ≡ old.comments) → new.fault ≡ result_err result → GivesNext told old result new → Says (flow_left told old) result (flow_left told new)
says_next told old new (Ok (Some line)) calm same stands gives = says_line told old new line gives
says_next told old new (Ok None) calm same stands gives =
    let put = gives.1 in (
      end_by (flow_of old) (left_of told old) (subst IsAtEnd put.left (at_end_behind new.ahead (told new.source) gives.0.0 gives.0.1))
          (ap (λ f. flow_by f (told_lines old.comments old.budget old.at old.number [])) calm ∙ told_lines-none old.comments old.budget old.at old.number),
      map_same (flow_of new) (flow_of old) (left_of told new) (left_of told old) put.left
          (λ bytes. ap (λ f. flow_by f (told_lines new.comments new.budget new.at new.number bytes)) stands
          ∙ sym (flow_of-put old new bytes calm put.place put.count same.0 same.1)),
    )
says_next told old new (Err Read) calm same stands gives = tt
says_next told old new (Err Memory) calm same stands gives = tt
says_next told old new (Err (TooLong at)) calm same stands gives = shown told old new (TooLong at) calm gives.0 same stands (gives.1 calm)
says_next told old new (Err (Bytes taken)) calm same stands gives = shown told old new (Bytes taken) calm gives.0 same stands (gives.1 calm)

-- further bytes were taken from those that were read ahead
pub filled_more : (all old : Told) (before now ahead bytes after : List ℕ) (n : ℕ) (left : Told) → Takes all old before → old ≡ left_with ahead left → now ≡ before ++ take n bytes → bytes ≡ ahead → after ≡ drop n ahead → Takes all (left_with after left) now
filled_more all old before now ahead bytes after n left taken same copied lent rest =
    let here : old ≡ option_map (λ rest. take n ahead ++ rest) (left_with (drop n ahead) left) =
    same ∙ ap (λ (t : List ℕ). left_with t left) (sym (take-append-drop n ahead)) ∙ left_behind (take n ahead) (drop n ahead) left in
    let is : now ≡ before ++ take n ahead = copied ∙ ap (λ (t : List ℕ). before ++ take n t) lent in
    takes_more all old (left_with (drop n ahead) left) before (take n ahead) taken here
    ∙ ap (λ (t : List ℕ). option_map (λ (r : List ℕ). t ++ r) (left_with (drop n ahead) left)) (sym is)
    ∙ ap (λ (t : List ℕ). option_map (λ (r : List ℕ). now ++ r) (left_with t left)) (sym rest)

-- whatever a call answers behind bytes that were taken, they are lost
pub lost_more : {T E : Type 0} (all old left : Told) (taken : List ℕ) (result : Result T E) → Takes all old taken → old ≡ left → OnErr result (TakesSome all left)
lost_more all old left taken (Ok x) took same = tt
lost_more all old left taken (Err fault) took same = (taken, took ∙ ap (option_map (λ rest. taken ++ rest)) same)

sizes_same : (at next : ℕ) (new old : Told) → new ≡ old → next ≡ at → option_map (λ rest. next + length rest) new ≡ option_map (λ rest. at + length rest) old
sizes_same at next new old left place =
    ap (λ n. option_map (λ rest. n + length rest) new) place ∙ ap (option_map (λ rest. at + length rest)) left

-- the bytes in all are as many as before
pub size_next : {S : Type 0} (told : S → Told) (old new : Stream S) (next : Option Line) → GivesNext told old (Ok next) new → end_of told new ≡ end_of told old
size_next told old new (Some line) gives = same_end told old new (line.bytes ++ gives.end) gives.taken gives.next_place
size_next told old new None gives = sizes_same old.at new.at (left_of told new) (left_of told old) gives.1.left gives.1.place

pub size_raw : {S : Type 0} (told : S → Told) (old new : Stream S) (buf : List ℕ) (n : ℕ) → GivesRaw told old buf n new → end_of told new ≡ end_of told old
size_raw told old new buf n gives =
    let size : length (take n buf) ≡ n = length-take-le n buf gives.fits in
    let place : new.at ≡ old.at + length (take n buf) = omega (arith, gives.next_place) in
    same_end told old new (take n buf) gives.taken place
