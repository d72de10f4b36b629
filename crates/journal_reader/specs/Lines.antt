-- The lines of a journal: what they say, how that is read, and their texts.
use Rattle.std.specs.Prelude.{ℕ, Bool, true, false, nat_lt, int_le, bytes_eq, codes, ℤ, pos, List, [], ◌∷◌, length, take, drop, Option, Result, Ok, Err, if◌then◌else◌}
use Rattle.std.specs.Result.{result_ok}
use Rattle.oemm_limits.specs.declared.TheConstants.{LAST_LANE, MOST_COST, MOST_ITEMS}
use Rattle.oemm_octree.specs.declared.points.Point.{Point}
use Rattle.mesh_data.specs.declared.geometry.Tri.{Tri}
use Rattle.mesh_data.specs.declared.edits.Edit.{Edit}
use Rattle.mesh_data.specs.declared.edits.Edit.TheVariants.{Move, Collapse, Flip, Simplify}
use Rattle.mesh_data.specs.declared.edits.Reply.{Reply}
use Rattle.mesh_data.specs.declared.edits.Reply.TheVariants.{Unheld, Frozen, Same, Apart, Border, Link, Closed, Folds, Dear, Edge, Outside, Done, DoneAt}
use Rattle.mesh_data.specs.declared.edits.Step.{Step}
use Rattle.byte_grammar.specs.Reader.{Reader, ◌>>=◌, done, unit, whole}
use Rattle.geometry_bytes.specs.Geometry.{is_turned}
use Rattle.leaf_codec.specs.Entries as spelled
use Rattle.journal_reader.specs.declared.lines.EntryHead.{EntryHead}
use Rattle.journal_reader.specs.declared.lines.JournalLine.{JournalLine}
use Rattle.journal_reader.specs.declared.lines.JournalLine.TheVariants.{HeadLine, EditLine, ReplyLine, StepLine, LeftLine}
use Rattle.journal_reader.specs.declared.numbers.TheConstants.{MOST_NUMBER}
use Rattle.journal_reader.specs.Numbers.{coordinate_before, number_before, point_before, signed_before}

-- a row's reader behind the first row's word that the bytes begin with
abbrev pub by_word : {A : Type 0} → List (List ℕ × Reader A) → Reader A
by_word [] left = Err (length left)
by_word (row ∷ rows) left =
    if bytes_eq (take (length row.0) left) row.0 then row.1 (drop (length row.0) left) else by_word rows left

-- what the first reader gives, or else the second
abbrev pub or_else : {A : Type 0} → Result (A × List ℕ) ℕ → Result (A × List ℕ) ℕ → Result (A × List ℕ) ℕ
or_else (Ok x) later = Ok x
or_else (Err left) later = later

-- one field, and what it makes
abbrev pub one : {A B : Type 0} → Reader A → (A → B) → Reader B
one p make = p >>= λ x. done (make x)

-- ---- the line that begins an entry

-- the last coordinate of a box, and whether the entry is wide
unfoldable pub coordinate_at_end : Reader (ℤ × Bool)
coordinate_at_end left =
    or_else (one (coordinate_before (codes " wide\n")) (λ z. (z, true)) left)
    (one (coordinate_before (codes "\n")) (λ z. (z, false)) left)

unfoldable pub corner_at_end : Reader (Point × Bool)
corner_at_end = do
  x ← coordinate_before (codes " ")
  y ← coordinate_before (codes " ")
  last ← coordinate_at_end
  done (record { x = x; y = y; z = last.0 }, last.1)

unfoldable pub head_fields : Reader EntryHead
head_fields = do
  number ← number_before (codes " lane ") MOST_NUMBER
  lane ← number_before (codes " number ") LAST_LANE
  task ← number_before (codes " box ") MOST_NUMBER
  low ← point_before (codes " ")
  high ← corner_at_end
  done (record { number = number; lane = lane; task = task; low = low; high = high.0; wide = high.1 })

-- the low corner of an entry's box is at most the high one along each axis
abbrev pub has_box : EntryHead → Bool
has_box h = spelled.is_box (h.low, h.high)

unfoldable pub head : Reader EntryHead
head = unit has_box head_fields

-- ---- the lines of edits

-- a bound of a cost, with the text behind it
unfoldable pub bound : List ℕ → Reader ℤ
bound behind = unit (int_le (pos 0)) (signed_before behind MOST_COST)

unfoldable pub moved : Reader Edit
moved = do
  v ← number_before (codes " ") MOST_NUMBER
  to ← point_before (codes "\n")
  done (Move v to)

unfoldable pub collapsed : Reader Edit
collapsed = do
  u ← number_before (codes " ") MOST_NUMBER
  v ← number_before (codes " ") MOST_NUMBER
  max ← bound (codes "\n")
  done (Collapse u v max)

unfoldable pub flipped : Reader Edit
flipped = do
  a ← number_before (codes " ") MOST_NUMBER
  b ← number_before (codes "\n") MOST_NUMBER
  done (Flip a b)

unfoldable pub simplified : Reader Edit
simplified = do
  max ← bound (codes " ")
  target ← number_before (codes "\n") MOST_ITEMS
  done (Simplify max target)

abbrev pub edit_rows : List (List ℕ × Reader Edit)
edit_rows =
    (codes "move ", moved) ∷ (codes "collapse ", collapsed) ∷ (codes "flip ", flipped) ∷ (codes "simplify ", simplified) ∷ []

unfoldable pub edit : Reader Edit
edit = by_word edit_rows

-- ---- the lines of replies

abbrev pub plain_rows : List (List ℕ × Reader Reply)
plain_rows =
    (codes "same\n", done Same) ∷ (codes "apart\n", done Apart) ∷ (codes "border\n", done Border)
    ∷ (codes "closed\n", done Closed) ∷ (codes "outside\n", done Outside) ∷ (codes "done\n", done Done) ∷ []

unfoldable pub plain : Reader Reply
plain = by_word plain_rows

-- a name at the end of a line
abbrev pub last_name : Reader ℕ
last_name = number_before (codes "\n") MOST_NUMBER

-- a cost at the end of a line
abbrev pub last_cost : Reader ℤ
last_cost = signed_before (codes "\n") MOST_COST

abbrev pub named_rows : List (List ℕ × Reader Reply)
named_rows =
    (codes "unheld ", one last_name (λ v. Unheld v)) ∷ (codes "frozen ", one last_name (λ v. Frozen v))
    ∷ (codes "link ", one last_name (λ w. Link w)) ∷ []

unfoldable pub named : Reader Reply
named = by_word named_rows

unfoldable pub triple : Reader Tri
triple = do
  a ← number_before (codes " ") MOST_NUMBER
  b ← number_before (codes " ") MOST_NUMBER
  c ← last_name
  done (record { a = a; b = b; c = c })

unfoldable pub folded : Reader Reply
folded = one (unit is_turned triple) (λ t. Folds t)

unfoldable pub pair : Reader (ℕ × ℕ)
pair = do
  c ← number_before (codes " ") MOST_NUMBER
  d ← last_name
  done (c, d)

abbrev pub is_ascending : ℕ × ℕ → Bool
is_ascending p = nat_lt p.0 p.1

unfoldable pub edge : Reader Reply
edge = one (unit is_ascending pair) (λ p. Edge p.0 p.1)

abbrev pub valued_rows : List (List ℕ × Reader Reply)
valued_rows =
    (codes "folds ", folded) ∷ (codes "edge ", edge) ∷ (codes "dear ", one last_cost (λ cost. Dear cost))
    ∷ (codes "done ", one last_cost (λ cost. DoneAt cost)) ∷ []

unfoldable pub valued : Reader Reply
valued = by_word valued_rows

-- a reply that is one line
unfoldable pub reply : Reader Reply
reply left = or_else (plain left) (or_else (named left) (valued left))

unfoldable pub stepped : Reader Step
stepped = do
  u ← number_before (codes " ") MOST_NUMBER
  v ← number_before (codes " ") MOST_NUMBER
  cost ← last_cost
  done (record { u = u; v = v; cost = cost })

-- a line of a reply, behind its two spaces
unfoldable pub reply_line : Reader JournalLine
reply_line left =
    if bytes_eq (take 9 left) (codes "collapse ") then one stepped (λ s. StepLine s) (drop 9 left)
    else if bytes_eq (take 11 left) (codes "simplified ") then one last_name (λ n. LeftLine n) (drop 11 left)
    else one reply (λ r. ReplyLine r) left

-- ---- all lines

unfoldable pub line : Reader JournalLine
line left =
    if bytes_eq (take 2 left) (codes "  ") then reply_line (drop 2 left)
    else if bytes_eq (take 7 left) (codes "commit ") then one head (λ h. HeadLine h) (drop 7 left)
    else one edit (λ e. EditLine e) left

-- what bytes say that are one line with its line feed
unfoldable pub line_of : List ℕ → Option JournalLine
line_of bytes = result_ok (whole line bytes)
