-- Replies as bytes.
use Rattle.std.specs.Prelude.{ℕ, ◌^◌, ◌<◌, ◌++◌, Bool, true, false, nat_lt, nat_le, nat_eq, ◌&&◌, nat_abs, List, [], ◌∷◌, length, slice_get, ℤ, Result, FitsSigned}
use Rattle.std.specs.Int.{w128}
use Rattle.std.specs.List.{flat_map, list_any, list_all, AllByRecursion}
use Rattle.std.specs.Option.{option_map_or}
use Rattle.mesh_data.specs.declared.edits.Step.{Step}
use Rattle.mesh_data.specs.declared.edits.Edit.{Edit}
use Rattle.mesh_data.specs.declared.edits.Edit.TheVariants.{Move, Collapse, Flip, Simplify}
use Rattle.mesh_data.specs.declared.edits.Reply.{Reply}
use Rattle.mesh_data.specs.declared.edits.Reply.TheVariants.{Unheld, Frozen, Same, Apart, Border, Link, Closed, Folds, Dear, Edge, Outside, Done, DoneAt, Simplified}
use Rattle.byte_grammar.specs.Reader.{Reader, ◌>>=◌, done, number, signed, unit, many, choose}
use Rattle.byte_grammar.specs.Numbers.{u8_bytes, u32_bytes, i128_bytes}
use Rattle.byte_grammar.specs.Keeps.{Always}
use Rattle.geometry_bytes.specs.Geometry.{face_bytes, face, is_turned, FitsTri}
use Rattle.leaf_codec.specs.declared.formats.TheConstants.{MOST_UNITS}
use Rattle.oemm_limits.specs.declared.TheConstants.{MOST_COST}

-- ---- bytes

unfoldable pub step_bytes : Step → List ℕ
step_bytes s = u32_bytes s.u ++ (u32_bytes s.v ++ i128_bytes s.cost)

abbrev pub reply_tag : Reply → ℕ
reply_tag (Unheld v) = 1
reply_tag (Frozen v) = 2
reply_tag (Link w) = 3
reply_tag Same = 4
reply_tag Apart = 5
reply_tag Border = 6
reply_tag Closed = 7
reply_tag Outside = 8
reply_tag Done = 9
reply_tag (Folds t) = 10
reply_tag (Dear cost) = 11
reply_tag (DoneAt cost) = 12
reply_tag (Edge c d) = 13
reply_tag (Simplified steps left) = 14

abbrev pub reply_fields : Reply → List ℕ
reply_fields (Unheld v) = u32_bytes v
reply_fields (Frozen v) = u32_bytes v
reply_fields (Link w) = u32_bytes w
reply_fields (Folds t) = face_bytes t
reply_fields (Dear cost) = i128_bytes cost
reply_fields (DoneAt cost) = i128_bytes cost
reply_fields (Edge c d) = u32_bytes c ++ u32_bytes d
reply_fields (Simplified steps left) = u32_bytes (length steps) ++ (flat_map step_bytes steps ++ u32_bytes left)
reply_fields Same = []
reply_fields Apart = []
reply_fields Border = []
reply_fields Closed = []
reply_fields Outside = []
reply_fields Done = []

unfoldable pub reply_bytes : Reply → List ℕ
reply_bytes r = u8_bytes (reply_tag r) ++ reply_fields r

-- ---- rules

unfoldable pub is_cost : ℤ → Bool
is_cost z = nat_le (nat_abs z) MOST_COST

abbrev pub is_step : Step → Bool
is_step s = is_cost s.cost

-- the ranges of a reply: each cost at most 2^126 in size, a turned triangle, the lesser name first
unfoldable pub is_reply : Reply → Bool
is_reply (Folds t) = is_turned t
is_reply (Dear cost) = is_cost cost
is_reply (DoneAt cost) = is_cost cost
is_reply (Edge c d) = nat_lt c d
is_reply (Unheld v) = true
is_reply (Frozen v) = true
is_reply (Link w) = true
is_reply Same = true
is_reply Apart = true
is_reply Border = true
is_reply Closed = true
is_reply Outside = true
is_reply Done = true
is_reply (Simplified steps left) = nat_le (length steps) MOST_UNITS && list_all is_step steps

-- the tags of the replies that an edit can have, by the tables of verdicts
abbrev pub answers : Edit → List ℕ
answers (Collapse u v max) = 1 ∷ 2 ∷ 3 ∷ 4 ∷ 5 ∷ 6 ∷ 7 ∷ 10 ∷ 11 ∷ 12 ∷ []
answers (Move v p) = 1 ∷ 2 ∷ 8 ∷ 9 ∷ []
answers (Flip a b) = 1 ∷ 2 ∷ 4 ∷ 5 ∷ 6 ∷ 9 ∷ 13 ∷ []
answers (Simplify max target) = 14 ∷ []

unfoldable pub may_answer : Edit → Reply → Bool
may_answer e r = list_any (nat_eq (reply_tag r)) (answers e)

-- a reply stands beside the edit at its place
unfoldable pub reply_follows : List Edit → List Reply → Reply → Bool
reply_follows edits before r = option_map_or (λ e. may_answer e r) (slice_get edits (length before)) false && is_reply r

abbrev pub FitsStep : Step → Type 0
FitsStep s = Always × ((s.u < 2 ^ 32) × ((s.v < 2 ^ 32) × FitsSigned w128 s.cost))

abbrev pub FitsReply : Reply → Type 0
FitsReply (Unheld v) = v < 2 ^ 32
FitsReply (Frozen v) = v < 2 ^ 32
FitsReply (Link w) = w < 2 ^ 32
FitsReply (Folds t) = FitsTri t
FitsReply (Dear cost) = FitsSigned w128 cost
FitsReply (DoneAt cost) = FitsSigned w128 cost
FitsReply (Edge c d) = (c < 2 ^ 32) × (d < 2 ^ 32)
FitsReply (Simplified steps left) = (length steps < 2 ^ 32) × (AllByRecursion FitsStep steps × (left < 2 ^ 32))
FitsReply Same = Always
FitsReply Apart = Always
FitsReply Border = Always
FitsReply Closed = Always
FitsReply Outside = Always
FitsReply Done = Always

-- ---- reading

unfoldable pub step : Reader Step
step = do
  u ← number 4
  v ← number 4
  cost ← signed w128 16
  done (record { u = u; v = v; cost = cost })

-- one field
abbrev pub one : {A : Type 0} → Reader A → (A → Reply) → Reader Reply
one p make = p >>= λ x. done (make x)

unfoldable pub edge : Reader Reply
edge = do
  c ← number 4
  d ← number 4
  done (Edge c d)

unfoldable pub simplified : Reader Reply
simplified = do
  n ← number 4
  steps ← many (λ before. unit (λ s. true) step) n []
  left ← number 4
  done (Simplified steps left)

abbrev pub reply_rows : List (ℕ × Reader Reply)
reply_rows =
    (1, one (number 4) (λ v. Unheld v)) ∷ (2, one (number 4) (λ v. Frozen v)) ∷ (3, one (number 4) (λ w. Link w))
    ∷ (4, done Same) ∷ (5, done Apart) ∷ (6, done Border) ∷ (7, done Closed) ∷ (8, done Outside) ∷ (9, done Done)
    ∷ (10, one face (λ t. Folds t)) ∷ (11, one (signed w128 16) (λ cost. Dear cost))
    ∷ (12, one (signed w128 16) (λ cost. DoneAt cost)) ∷ (13, edge) ∷ (14, simplified) ∷ []

unfoldable pub reply : Reader Reply
reply = do
  tag ← number 1
  choose tag reply_rows
