-- The journal's text: for each entry its head line, then its edits' lines, each with its reply's lines below it.
use Rattle.std.specs.Prelude.{ℕ, ◌+◌, List, [], ◌∷◌, ◌++◌, map, codes, if◌then◌else◌, Option, Some, None}
use Rattle.std.specs.List.{flat_map}
use Rattle.std.specs.Fmt.{decimal, signed_decimal}
use Rattle.oemm_lists.specs.TextLine.{line}
use Rattle.mesh_data.specs.declared.edits.Edit.{Edit}
use Rattle.mesh_data.specs.declared.edits.Edit.TheVariants.{Move, Collapse, Flip, Simplify}
use Rattle.mesh_data.specs.declared.edits.Step.{Step}
use Rattle.mesh_data.specs.declared.edits.Reply.{Reply}
use Rattle.mesh_data.specs.declared.edits.Reply.TheVariants.{Unheld, Frozen, Same, Apart, Border, Link, Closed, Folds, Dear, Edge, Outside, Done, DoneAt, Simplified}
use Rattle.mesh_data.specs.declared.edits.Entry.{Entry}

-- an edit's line, as a script has it
abbrev pub edit_line : Edit → List ℕ
edit_line (Move v to) =
    line (codes "move" ∷ decimal v ∷ signed_decimal to.x ∷ signed_decimal to.y ∷ signed_decimal to.z ∷ [])
edit_line (Collapse u v max) = line (codes "collapse" ∷ decimal u ∷ decimal v ∷ signed_decimal max ∷ [])
edit_line (Flip a b) = line (codes "flip" ∷ decimal a ∷ decimal b ∷ [])
edit_line (Simplify max target) = line (codes "simplify" ∷ signed_decimal max ∷ decimal target ∷ [])

-- the line of a collapse that a simplification made, with its cost
abbrev pub step_line : Step → List ℕ
step_line s = line (codes "collapse" ∷ decimal s.u ∷ decimal s.v ∷ signed_decimal s.cost ∷ [])

-- a reply's lines
abbrev pub reply_lines : Reply → List (List ℕ)
reply_lines (Unheld v) = line (codes "unheld" ∷ decimal v ∷ []) ∷ []
reply_lines (Frozen v) = line (codes "frozen" ∷ decimal v ∷ []) ∷ []
reply_lines Same = line (codes "same" ∷ []) ∷ []
reply_lines Apart = line (codes "apart" ∷ []) ∷ []
reply_lines Border = line (codes "border" ∷ []) ∷ []
reply_lines (Link w) = line (codes "link" ∷ decimal w ∷ []) ∷ []
reply_lines Closed = line (codes "closed" ∷ []) ∷ []
reply_lines (Folds t) = line (codes "folds" ∷ decimal t.a ∷ decimal t.b ∷ decimal t.c ∷ []) ∷ []
reply_lines (Dear cost) = line (codes "dear" ∷ signed_decimal cost ∷ []) ∷ []
reply_lines (Edge c d) = line (codes "edge" ∷ decimal c ∷ decimal d ∷ []) ∷ []
reply_lines Outside = line (codes "outside" ∷ []) ∷ []
reply_lines Done = line (codes "done" ∷ []) ∷ []
reply_lines (DoneAt cost) = line (codes "done" ∷ signed_decimal cost ∷ []) ∷ []
reply_lines (Simplified steps left) = map step_line steps ++ line (codes "simplified" ∷ decimal left ∷ []) ∷ []

-- the lines, each behind two spaces
abbrev pub indented : List (List ℕ) → List ℕ
indented lines = flat_map (λ l. 32 ∷ 32 ∷ l) lines

-- an edit's line, and its reply's lines if there is a reply
abbrev pub answered_edit : Edit → Option Reply → List ℕ
answered_edit e None = edit_line e
answered_edit e (Some r) = edit_line e ++ indented (reply_lines r)

-- Each edit with the reply at its place. An edit without a reply stands alone, and a reply without an edit isn't told.
abbrev pub answered_edits : List Edit → List Reply → List ℕ
answered_edits [] rs = []
answered_edits (e ∷ es) [] = answered_edit e None ++ answered_edits es []
answered_edits (e ∷ es) (r ∷ rs) = answered_edit e (Some r) ++ answered_edits es rs

-- the last word of the head line of a wide entry
abbrev pub wide_word : Entry → List (List ℕ)
wide_word e = if e.wide then codes "wide" ∷ [] else []

-- the head line of the entry with this number: its task's lane, number and box
abbrev pub head_line : ℕ → Entry → List ℕ
head_line number e =
    line (codes "commit" ∷ decimal number ∷ codes "lane" ∷ decimal e.task.lane ∷ codes "number" ∷ decimal e.task.number
    ∷ codes "box" ∷ signed_decimal e.task.low.x ∷ signed_decimal e.task.low.y ∷ signed_decimal e.task.low.z
    ∷ signed_decimal e.task.high.x ∷ signed_decimal e.task.high.y ∷ signed_decimal e.task.high.z ∷ wide_word e)

-- the replies that are told, none of a wide entry
abbrev pub told_replies : Entry → List Reply
told_replies e = if e.wide then [] else e.replies

-- the entry with this number
abbrev pub entry_text : ℕ → Entry → List ℕ
entry_text number e = head_line number e ++ answered_edits e.task.edits (told_replies e)

-- the entries, numbered on from the first number
abbrev pub journal_text : ℕ → List Entry → List ℕ
journal_text number [] = []
journal_text number (e ∷ es) = entry_text number e ++ journal_text (number + 1) es
