-- What a source says line by line, as a function of its bytes, and a stream of its lines.
use Rattle.std.specs.Prelude.{◌≡◌, ℕ, ◌+◌, ◌*◌, ◌<◌, ◌≤◌, nat_lt, Bool, true, false, ◌&&◌, ◌==◌, if◌then◌else◌, ◌⊎◌, List, [], ◌∷◌, ◌++◌, length, take, min, slice_range, map, All, Option, Some, None, IfSome, Result, Ok, Err, ⊤}
use Rattle.std.specs.Option.{option_map}
use Rattle.std.specs.List.{before_first}
use Rattle.oemm_io.specs.declared.flows.TheConstants.{BLOCK}
use Rattle.oemm_limits.specs.declared.TheConstants.{MOST_LINE_BYTES}
use Rattle.fault_counts.specs.Counts.{TellsFailure}
use Rattle.fault_counts.specs.Told.{Told, Takes, TakesSome, IsAtEnd}
use Rattle.oemm_lines.specs.Words.{is_blank, begins_with_word, words_of}
use Rattle.oemm_lines.specs.Lines.{without_return, HasNoFeed}
use Rattle.oemm_lines.specs.declared.parts.Word.{Word}
use Rattle.oemm_lines.specs.declared.parts.Line.{Line}
use Rattle.oemm_lines.specs.declared.parts.LineFault.{LineFault}
use Rattle.oemm_lines.specs.declared.parts.LineFault.TheVariants.{Read, TooLong, Bytes, Memory}

-- the bytes up to a line feed or the end, and whether a line feed ends them
pub record Body : Type 0 where
  pub bytes : List ℕ
  pub ended : Bool

-- the bodies with a byte put before the first
abbrev pub bodies_with : ℕ → List Body → List Body
bodies_with c [] = record { bytes = c ∷ []; ended = false } ∷ []
bodies_with c (b ∷ bs) = record { bytes = c ∷ b.bytes; ended = b.ended } ∷ bs

-- the bytes cut at each line feed; nothing stands behind the last line feed
unfoldable pub bodies : List ℕ → List Body
bodies [] = []
bodies (c ∷ cs) = if c == 10 then record { bytes = []; ended = true } ∷ bodies cs else bodies_with c (bodies cs)

-- the number of bytes together with the line feed
abbrev pub size_of : Body → ℕ
size_of b = if b.ended then length b.bytes + 1 else length b.bytes

-- the bytes of the line: without the carriage return right before its line feed
abbrev pub text_of : Body → List ℕ
text_of b = if b.ended then without_return b.bytes else b.bytes

-- the bytes before the comment, where there are comments
abbrev pub uncommented : Bool → List ℕ → List ℕ
uncommented comments bytes = if comments then before_first (λ c. c == 35) bytes else bytes

-- the words with the first of them begun at this place
abbrev pub begun_at : ℕ → List Word → List Word
begun_at at [] = []
begun_at at (w ∷ ws) = record { from = at; to = w.to } ∷ ws

-- the words of bytes of which the first stands at this place: their longest parts without blanks
unfoldable pub words_from : ℕ → List ℕ → List Word
words_from at [] = []
words_from at (c ∷ cs) =
    if is_blank c
    then words_from (at + 1) cs
    else (if begins_with_word cs then begun_at at (words_from (at + 1) cs) else record { from = at; to = at + 1 } ∷ words_from (at + 1) cs)

-- the words of a line's bytes
abbrev pub words_in : Bool → List ℕ → List Word
words_in comments bytes = words_from 0 (uncommented comments bytes)

-- the bytes of a word
abbrev pub word_in : List ℕ → Word → List ℕ
word_in bytes w = slice_range bytes w.from w.to

-- a word has a byte, and lies in the bytes
abbrev pub IsWordIn : List ℕ → Word → Type 0
IsWordIn bytes w = (w.from < w.to) × (w.to ≤ length bytes)

-- the bytes of each word of a line, and that all of them lie in it
abbrev pub texts_of : Line → List (List ℕ)
texts_of l = map (word_in l.bytes) l.words

abbrev pub IsPlaced : Line → Type 0
IsPlaced l = All (IsWordIn l.bytes) l.words

-- what is wrong with a line at this place: the part of it that is too long lies within the budget, or a byte of it lies past that
abbrev pub line_fault : ℕ → ℕ → Body → Option LineFault
line_fault budget at b =
    if nat_lt MOST_LINE_BYTES (length b.bytes) && nat_lt (at + MOST_LINE_BYTES) budget then Some (TooLong at)
    else if nat_lt budget (at + size_of b) then Some (Bytes budget)
    else None

-- the lines to come, and the fault that stands behind them, if one does
pub record Flow : Type 0 where
  pub lines : List Line
  pub fault : Option LineFault

abbrev pub line_then : Line → Flow → Flow
line_then line f = record { lines = line ∷ f.lines; fault = f.fault }

abbrev pub fault_alone : LineFault → Flow
fault_alone fault = record { lines = []; fault = Some fault }

abbrev pub nothing_more : Flow
nothing_more = record { lines = []; fault = None }

-- the line before the flow, or the fault in the place of both
abbrev pub led_by : Option LineFault → Line → Flow → Flow
led_by None line f = line_then line f
led_by (Some fault) line f = fault_alone fault

-- the line that has these bytes
abbrev pub line_of : Bool → ℕ → ℕ → List ℕ → Line
line_of comments at number bytes =
    record { at = at; number = number; bytes = bytes; words = words_in comments bytes }

-- the lines of bodies, the first of them at this place and under this number
unfoldable pub flow_from : Bool → ℕ → ℕ → ℕ → List Body → Flow
flow_from comments budget at number [] = nothing_more
flow_from comments budget at number (b ∷ bs) =
    led_by (line_fault budget at b) (line_of comments at number (text_of b))
    (flow_from comments budget (at + size_of b) (number + 1) bs)

-- what bytes say that stand at this place of a source, of which no byte past the budget is wanted
abbrev pub told_lines : Bool → ℕ → ℕ → ℕ → List ℕ → Flow
told_lines comments budget at number bytes = flow_from comments budget at number (bodies bytes)

-- the greatest number of bytes that are read ahead
abbrev pub most_ahead : ℕ
most_ahead = 2 * BLOCK

-- a source, the bytes of it that were read ahead, how many bytes were given before them, the number of the next line,
-- and the fault that was answered
pub record Stream (S : Type 0) : Type 0 where
  pub source : S
  pub ahead : List ℕ
  pub at : ℕ
  pub number : ℕ
  pub budget : ℕ
  pub comments : Bool
  pub fault : Option LineFault

-- the stream of a source of which nothing was asked for yet
abbrev pub fresh_stream : {S : Type 0} → ℕ → Bool → S → Stream S
fresh_stream budget comments source =
    record { source = source; ahead = []; at = 0; number = 1; budget = budget; comments = comments; fault = None }

-- the bytes that are left, where the source tells them
abbrev pub left_with : List ℕ → Told → Told
left_with ahead left = option_map (λ rest. ahead ++ rest) left

abbrev pub left_of : {S : Type 0} → (S → Told) → Stream S → Told
left_of told s = left_with s.ahead (told s.source)

-- how many bytes there are in all
abbrev pub end_of : {S : Type 0} → (S → Told) → Stream S → Option ℕ
end_of told s = option_map (λ rest. s.at + length rest) (left_of told s)

-- what the stream says where these bytes are left: behind a fault it is that fault again
abbrev pub flow_by : Option LineFault → Flow → Flow
flow_by None f = f
flow_by (Some fault) f = fault_alone fault

abbrev pub flow_of : {S : Type 0} → Stream S → List ℕ → Flow
flow_of s bytes = flow_by s.fault (told_lines s.comments s.budget s.at s.number bytes)

-- what the stream has still to say, where the source tells its bytes
abbrev pub flow_left : {S : Type 0} → (S → Told) → Stream S → Option Flow
flow_left told s = option_map (flow_of s) (left_of told s)

-- what a call did with the source of a stream: some bytes were taken from its front, and its failure was told as this
-- fault and as nothing else
pub record UsesSource {S T E : Type 0} (left : S → Told) (faults : S → ℕ) (failed : E) (old new : Stream S)
    (result : Result T E) : Type 0 where
  pub source : TakesSome (left old.source) (left new.source)
  pub cause : TellsFailure failed (faults old.source) (faults new.source) result

-- nothing that was read ahead is left, and the source is at its end
abbrev pub IsDrained : {S : Type 0} → (S → Told) → Stream S → Type 0
IsDrained told s = (s.ahead ≡ []) × IsAtEnd (told s.source)

-- what ends a line
abbrev pub IsLineEnd : List ℕ → Type 0
IsLineEnd end = (end ≡ 10 ∷ []) ⊎ (end ≡ 13 ∷ 10 ∷ [])

-- a line was given: its bytes were taken and what ends it, which is nothing at the end of the source alone; whatever
-- follows these bytes, the line is what they say, and behind it stands what follows
pub record GivesLine {S : Type 0} (told : S → Told) (old : Stream S) (line : Line) (new : Stream S) : Type 0 where
  pub end : List ℕ
  pub ends : IsLineEnd end ⊎ ((end ≡ []) × IsDrained told new)
  pub taken : Takes (left_of told old) (left_of told new) (line.bytes ++ end)
  pub first : (rest : List ℕ) → IsLineEnd end ⊎ (rest ≡ []) → flow_of old (line.bytes ++ end ++ rest) ≡ line_then line (flow_of new rest)
  pub place : line.at ≡ old.at
  pub count : line.number ≡ old.number
  pub words : line.words ≡ words_in old.comments line.bytes
  pub places : IsPlaced line
  pub texts : texts_of line ≡ words_of (uncommented old.comments line.bytes)
  pub next_place : new.at ≡ old.at + length (line.bytes ++ end)
  pub next_count : new.number ≡ old.number + 1
  pub rises : old.at < new.at
  pub within : new.at ≤ new.budget

-- nothing was given and nothing has changed but that the source was asked
pub record StaysPut {S : Type 0} (told : S → Told) (old new : Stream S) : Type 0 where
  pub left : left_of told new ≡ left_of told old
  pub place : new.at ≡ old.at
  pub count : new.number ≡ old.number

-- what is said to come next, by what a call answered
abbrev pub SaysFault : Option Flow → LineFault → Option Flow → Type 0
SaysFault old Read new = ⊤
SaysFault old Memory new = ⊤
SaysFault old (TooLong at) new = IfSome old (λ f. f ≡ fault_alone (TooLong at)) × (new ≡ old)
SaysFault old (Bytes taken) new = IfSome old (λ f. f ≡ fault_alone (Bytes taken)) × (new ≡ old)

abbrev pub Says : Option Flow → Result (Option Line) LineFault → Option Flow → Type 0
Says old (Ok (Some line)) new = old ≡ option_map (line_then line) new
Says old (Ok None) new = IfSome old (λ f. f ≡ nothing_more) × (new ≡ old)
Says old (Err fault) new = SaysFault old fault new

-- the bytes that were read ahead show the fault, whatever follows them: the source was asked only where they show
-- neither where the line ends nor that it is too long
abbrev pub Shows : {S : Type 0} → Stream S → LineFault → Type 0
Shows s Read = HasNoFeed s.ahead (length s.ahead) × (length s.ahead ≤ MOST_LINE_BYTES) × (s.at + length s.ahead ≤ s.budget)
Shows s Memory = ⊤
Shows s (TooLong at) = (rest : List ℕ) → told_lines s.comments s.budget s.at s.number (s.ahead ++ rest) ≡ fault_alone (TooLong at)
Shows s (Bytes taken) = (rest : List ℕ) → told_lines s.comments s.budget s.at s.number (s.ahead ++ rest) ≡ fault_alone (Bytes taken)

-- what a call of next did, by what it answered
abbrev pub GivesNext : {S : Type 0} → (S → Told) → Stream S → Result (Option Line) LineFault → Stream S → Type 0
GivesNext told old (Ok (Some line)) new = GivesLine told old line new
GivesNext told old (Ok None) new = IsDrained told new × StaysPut told old new
GivesNext told old (Err fault) new = StaysPut told old new × (old.fault ≡ None → Shows new fault)

-- so many bytes were given, the front of a buffer, and fewer than it has room for at the end of the source alone
pub record GivesRaw {S : Type 0} (told : S → Told) (old : Stream S) (buf : List ℕ) (n : ℕ) (new : Stream S) : Type 0 where
  pub fits : n ≤ length buf
  pub taken : Takes (left_of told old) (left_of told new) (take n buf)
  pub whole : n < length buf → IsDrained told new
  pub next_place : new.at ≡ old.at + n
  pub same_count : new.number ≡ old.number
  pub within : new.at ≤ new.budget

-- nothing was given: some bytes may be lost, and how far the stream has come is as it was
pub record GivesNoRaw {S : Type 0} (told : S → Told) (old new : Stream S) : Type 0 where
  pub lost : TakesSome (left_of told old) (left_of told new)
  pub same_place : new.at ≡ old.at
  pub same_count : new.number ≡ old.number

-- of so many bytes one lies past the budget
abbrev pub NeedsPast : {S : Type 0} → (S → Told) → Stream S → ℕ → Type 0
NeedsPast told s size = IfSome (left_of told s) (λ rest. s.budget < s.at + min size (length rest))

-- why a call of raw gave nothing: the source was asked only for more than was read ahead
abbrev pub RawFault : {S : Type 0} → (S → Told) → Stream S → ℕ → LineFault → Type 0
RawFault told old size Read = length old.ahead < size
RawFault told old size (TooLong at) = ⊥
RawFault told old size (Bytes taken) = (taken ≡ old.budget) × (old.budget < old.at + size) × NeedsPast told old size
RawFault told old size Memory = ⊥

-- what a call of raw did, by what it answered
abbrev pub RawGives : {S : Type 0} → (S → Told) → Stream S → List ℕ → Result ℕ LineFault → Stream S → Type 0
RawGives told old buf (Ok n) new = GivesRaw told old buf n new
RawGives told old buf (Err fault) new =
    GivesNoRaw told old new × (old.fault ≡ None → RawFault told old (length buf) fault)
