-- The texts of journals, and the line in which another text goes wrong.
use Rattle.std.specs.Prelude.{◌≡◌, ℕ, ◌+◌, ◌^◌, ◌<◌, ◌≤◌, Bool, true, false, ◌==◌, List, [], ◌∷◌, ◌++◌, length, take, Result, Ok, Err}
use Rattle.std.specs.List.{AllByRecursion, flat_map, slice_split}
use Rattle.oemm_limits.specs.declared.TheConstants.{LAST_LANE, MOST_EDITS}
use Rattle.oemm_octree.specs.Octree.{IsOnGrid}
use Rattle.mesh_data.specs.declared.edits.Edit.{Edit}
use Rattle.mesh_data.specs.declared.edits.Edit.TheVariants.{Move, Collapse, Flip, Simplify}
use Rattle.mesh_data.specs.declared.edits.Entry.{Entry}
use Rattle.mesh_data.specs.declared.edits.Reply.{Reply}
use Rattle.mesh_data.specs.declared.edits.Reply.TheVariants.{Unheld, Frozen, Same, Apart, Border, Link, Closed, Folds, Dear, Edge, Outside, Done, DoneAt, Simplified}
use Rattle.mesh_data.specs.declared.edits.Step.{Step}
use Rattle.leaf_codec.specs.Edits.{is_edit}
use Rattle.leaf_codec.specs.Entries.{is_box}
use Rattle.leaf_codec.specs.Replies.{is_reply, may_answer}
use Rattle.commit_journal.specs.Text.{journal_text}
use Rattle.journal_reader.specs.declared.fault.JournalFault.{JournalFault}
use Rattle.journal_reader.specs.declared.fault.JournalFault.TheVariants.{Syntax, Memory}

-- ---- what a journal can tell

-- each number fits its type
abbrev pub EditFits : Edit → Type 0
EditFits (Move v to) = (v < 2 ^ 32) × IsOnGrid to
EditFits (Collapse u v max) = (u < 2 ^ 32) × (v < 2 ^ 32)
EditFits (Flip a b) = (a < 2 ^ 32) × (b < 2 ^ 32)
EditFits (Simplify max target) = target < 2 ^ 32

abbrev pub StepFits : Step → Type 0
StepFits s = (s.u < 2 ^ 32) × (s.v < 2 ^ 32)

abbrev pub ReplyFits : Reply → Type 0
ReplyFits (Unheld v) = v < 2 ^ 32
ReplyFits (Frozen v) = v < 2 ^ 32
ReplyFits (Link w) = w < 2 ^ 32
ReplyFits (Folds t) = (t.a < 2 ^ 32) × (t.b < 2 ^ 32) × (t.c < 2 ^ 32)
ReplyFits (Edge c d) = (c < 2 ^ 32) × (d < 2 ^ 32)
ReplyFits (Simplified steps left) = AllByRecursion StepFits steps × (left < 2 ^ 32)
ReplyFits Same = Unit {0}
ReplyFits Apart = Unit {0}
ReplyFits Border = Unit {0}
ReplyFits Closed = Unit {0}
ReplyFits (Dear cost) = Unit {0}
ReplyFits Outside = Unit {0}
ReplyFits Done = Unit {0}
ReplyFits (DoneAt cost) = Unit {0}

-- an edit within its ranges
abbrev pub IsEdit : Edit → Type 0
IsEdit e = EditFits e × (is_edit e ≡ true)

-- a reply within its ranges that the edit can have
abbrev pub IsReplyTo : Edit → Reply → Type 0
IsReplyTo e r = ReplyFits r × (may_answer e r ≡ true) × (is_reply r ≡ true)

-- each edit has its reply
abbrev pub AreAnswered : List Edit → List Reply → Type 0
AreAnswered [] [] = Unit {0}
AreAnswered (e ∷ es) (r ∷ rs) = (IsEdit e × IsReplyTo e r) × AreAnswered es rs
AreAnswered [] (r ∷ rs) = ⊥
AreAnswered (e ∷ es) [] = ⊥

-- the edits of an entry and their replies, of which a wide one has none
abbrev pub HasEdits : Bool → List Edit → List Reply → Type 0
HasEdits true es rs = AllByRecursion IsEdit es × (rs ≡ [])
HasEdits false es rs = AreAnswered es rs

-- an entry that keeps the rules of its spelling, without its leaves, which no text tells
pub record IsTold (e : Entry) : Type 0 where
  pub lane : e.task.lane ≤ LAST_LANE
  pub number : e.task.number < 2 ^ 32
  pub low : IsOnGrid e.task.low
  pub high : IsOnGrid e.task.high
  pub box : is_box (e.task.low, e.task.high) ≡ true
  pub few : length e.task.edits ≤ MOST_EDITS
  pub edits : HasEdits e.wide e.task.edits e.replies
  pub core : e.core ≡ []

-- the entry without its leaves
abbrev pub bare : Entry → Entry
bare e = record e { core = [] }

-- the text is that of these entries, numbered on from the first number
pub record IsJournal (first : ℕ) (entries : List Entry) (text : List ℕ) : Type 0 where
  pub numbers : first + length entries ≤ 2 ^ 32
  pub each : AllByRecursion IsTold entries
  pub text_is : text ≡ journal_text first entries

-- what is read of the text: the entries whose text it is
abbrev pub ReadsAs : List ℕ → List Entry → Type 0
ReadsAs text entries = (first : ℕ) × IsJournal first entries text

-- ---- where a text goes wrong

abbrev pub is_feed : ℕ → Bool
is_feed c = c == 10

-- the line with its line feed
abbrev pub with_feed : List ℕ → List ℕ
with_feed l = l ++ 10 ∷ []

-- the first lines of a text
abbrev pub first_lines : ℕ → List ℕ → List ℕ
first_lines n text = flat_map with_feed (take n (slice_split is_feed text))

-- some text that begins so is a journal's
abbrev pub BeginsJournal : List ℕ → Type 0
BeginsJournal front = (rest : List ℕ) × (entries : List Entry) × ReadsAs (front ++ rest) entries

-- the text has so many lines with their line feeds, and a journal's text begins with them
pub record IsGoodTo (n : ℕ) (text : List ℕ) : Type 0 where
  pub ended : n < length (slice_split is_feed text)
  pub begins : BeginsJournal (first_lines n text)

-- The text is no journal's, and this is the first line to which it isn't good. A text that only ends too early is good
-- to its last line, and not to the line behind that.
pub record GoesWrongIn (line : ℕ) (text : List ℕ) : Type 0 where
  pub none : (entries : List Entry) → ReadsAs text entries → ⊥
  pub before : (n : ℕ) → n < line → IsGoodTo n text
  pub here : IsGoodTo line text → ⊥

-- what is answered: the entries, the line, or that memory ran out
abbrev pub Answers : List ℕ → Result (List Entry) JournalFault → Type 0
Answers text (Ok entries) = ReadsAs text entries
Answers text (Err (Syntax line)) = GoesWrongIn line text
Answers text (Err Memory) = Unit {0}
