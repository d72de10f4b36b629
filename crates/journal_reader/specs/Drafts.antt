-- The entries of the lines so far, and what one more line makes of them.
use Rattle.std.specs.Prelude.{ℕ, ◌+◌, ◌==◌, nat_lt, Bool, true, false, ◌&&◌, List, [], ◌∷◌, ◌++◌, length, Option, Some, None, option_and_then, Result, Err, if◌then◌else◌}
use Rattle.std.specs.Option.{ok_or, option_map, option_map_or}
use Rattle.oemm_limits.specs.declared.TheConstants.{MOST_EDITS}
use Rattle.mesh_data.specs.declared.edits.Edit.{Edit}
use Rattle.mesh_data.specs.declared.edits.Edit.TheVariants.{Simplify}
use Rattle.mesh_data.specs.declared.edits.Entry.{Entry}
use Rattle.mesh_data.specs.declared.edits.Reply.{Reply}
use Rattle.mesh_data.specs.declared.edits.Reply.TheVariants.{Simplified}
use Rattle.mesh_data.specs.declared.edits.Step.{Step}
use Rattle.leaf_codec.specs.Replies.{may_answer}
use Rattle.journal_reader.specs.declared.draft.TheConstants.{MOST_STEPS}
use Rattle.journal_reader.specs.declared.draft.Asked.{Asked}
use Rattle.journal_reader.specs.declared.draft.LastEntry.{LastEntry}
use Rattle.journal_reader.specs.declared.draft.Draft.{Draft}
use Rattle.journal_reader.specs.declared.lines.EntryHead.{EntryHead}
use Rattle.journal_reader.specs.declared.lines.JournalLine.{JournalLine}
use Rattle.journal_reader.specs.declared.lines.JournalLine.TheVariants.{HeadLine, EditLine, ReplyLine, StepLine, LeftLine}
use Rattle.journal_reader.specs.Lines.{line_of}

-- no entry
abbrev pub nothing : Draft
nothing = record { first = 0; entries = []; last = None }

-- the entry that a line begins
abbrev pub begun : EntryHead → Entry
begun h = record {
  task = record { lane = h.lane; number = h.task; low = h.low; high = h.high; edits = [] };
  wide = h.wide;
  replies = [];
  core = [];
}

abbrev pub opened : EntryHead → LastEntry
opened h = record { entry = begun h; asked = None }

-- the entry with one more edit
abbrev pub asked_too : Entry → Edit → Entry
asked_too entry edit = record entry { task = record entry.task { edits = entry.task.edits ++ edit ∷ [] } }

-- the entry with one more edit and its reply
abbrev pub answered : Entry → Edit → Reply → Entry
answered entry edit reply = record (asked_too entry edit) { replies = entry.replies ++ reply ∷ [] }

abbrev pub is_simplify : Edit → Bool
is_simplify (Simplify max target) = true
is_simplify _ = false

-- the next edit: one of a wide entry has no reply
abbrev pub after_edit : Entry → Edit → Option LastEntry
after_edit entry edit =
    if nat_lt (length entry.task.edits) MOST_EDITS
    then Some (if entry.wide then record { entry = asked_too entry edit; asked = None }
    else record { entry = entry; asked = Some (record { edit = edit; steps = [] }) })
    else None

abbrev pub after_reply : Entry → Asked → Reply → Option LastEntry
after_reply entry asked reply =
    if may_answer asked.edit reply then Some (record { entry = answered entry asked.edit reply; asked = None }) else None

abbrev pub after_step : Entry → Asked → Step → Option LastEntry
after_step entry asked step =
    if is_simplify asked.edit && nat_lt (length asked.steps) MOST_STEPS
    then Some (record { entry = entry; asked = Some (record asked { steps = asked.steps ++ step ∷ [] }) })
    else None

abbrev pub after_left : Entry → Asked → ℕ → Option LastEntry
after_left entry asked left =
    if is_simplify asked.edit
    then Some (record { entry = answered entry asked.edit (Simplified asked.steps left); asked = None })
    else None

-- a line of the entry, where its last edit has its reply
abbrev pub after_told : Entry → JournalLine → Option LastEntry
after_told entry (EditLine edit) = after_edit entry edit
after_told entry _ = None

-- a line of the entry, where its last edit waits for its reply
abbrev pub after_asked : Entry → Asked → JournalLine → Option LastEntry
after_asked entry asked (ReplyLine reply) = after_reply entry asked reply
after_asked entry asked (StepLine step) = after_step entry asked step
after_asked entry asked (LeftLine left) = after_left entry asked left
after_asked entry asked (EditLine edit) = None
after_asked entry asked (HeadLine head) = None

abbrev pub within : Entry → Option Asked → JournalLine → Option LastEntry
within entry None line = after_told entry line
within entry (Some asked) line = after_asked entry asked line

-- the draft with the entry that was open among the others, and the next one begun
abbrev pub next_entry : Draft → Entry → Option Asked → EntryHead → Option Draft
next_entry d entry (Some asked) head = None
next_entry d entry None head =
    if head.number == d.first + length d.entries + 1
    then Some (record { first = d.first; entries = d.entries ++ entry ∷ []; last = Some (opened head) })
    else None

abbrev pub after_head : Draft → Option LastEntry → EntryHead → Option Draft
after_head d None head = Some (record { first = head.number; entries = d.entries; last = Some (opened head) })
after_head d (Some o) head = next_entry d o.entry o.asked head

abbrev pub after_within : Draft → Option LastEntry → JournalLine → Option Draft
after_within d None line = None
after_within d (Some o) line = option_map (λ later. record d { last = Some later }) (within o.entry o.asked line)

-- the draft after a line
unfoldable pub after : Draft → JournalLine → Option Draft
after d (HeadLine head) = after_head d d.last head
after d (EditLine edit) = after_within d d.last (EditLine edit)
after d (ReplyLine reply) = after_within d d.last (ReplyLine reply)
after d (StepLine step) = after_within d d.last (StepLine step)
after d (LeftLine left) = after_within d d.last (LeftLine left)

abbrev pub all_told : List Entry → Entry → Option Asked → Option (List Entry)
all_told entries last None = Some (entries ++ last ∷ [])
all_told entries last (Some asked) = None

abbrev pub told_with : List Entry → Option LastEntry → Option (List Entry)
told_with entries None = Some entries
told_with entries (Some o) = all_told entries o.entry o.asked

-- the entries, unless an edit waits for its reply
unfoldable pub told : Draft → Option (List Entry)
told d = told_with d.entries d.last

-- the draft after a line's bytes, of which the line feed is the last
unfoldable pub after_bytes : Draft → List ℕ → Option Draft
after_bytes d bytes = option_and_then (after d) (line_of bytes)

-- the entries of the parts into which line feeds cut a text, the first of them under this number, behind a draft; or the
-- number of the line that doesn't fit
unfoldable pub reading : ℕ → Draft → List (List ℕ) → Result (List Entry) ℕ
reading n d [] = Err n
reading n d (last ∷ []) = if length last == 0 then ok_or (told d) n else Err n
reading n d (l ∷ next ∷ more) =
    option_map_or (λ later. reading (n + 1) later (next ∷ more)) (after_bytes d (l ++ 10 ∷ [])) (Err n)
