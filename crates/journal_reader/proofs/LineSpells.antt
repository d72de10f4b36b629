-- Lines are read as they are written.
use Rattle.std.proofs.Common.{◌≡◌, ℕ, ◌^◌, ◌<◌, ◌≤◌, Bool, true, false, cond, leb, int_le, List, [], ◌∷◌, ◌++◌, length, take, drop, Some, Result, Ok, Err, bytes_eq, codes, ℤ, pos, negsuc, nat_abs, refl, sym, ap, subst, ◌∙◌, append_assoc, arith}
use Rattle.std.proofs.lemmas.Bool.{and_from, and_parts, le-leb, leb-true}
use Rattle.std.proofs.lemmas.Bool.Decides.{nat_tests}
use Rattle.std.proofs.lemmas.Int.{ints}
use Rattle.std.proofs.lemmas.List.{take-append-drop}
use Rattle.std.proofs.lemmas.Slice.Eq.{bytes_eq-Decides}
use Rattle.std.specs.Fmt.{decimal, signed_decimal}
use Rattle.std.specs.Result.{result_ok}
use Rattle.oemm_limits.specs.declared.TheConstants.{LAST_LANE, MOST_COST, MOST_ITEMS}
use Rattle.oemm_lists.specs.TextLine as text
use Rattle.oemm_octree.specs.Octree.{IsOnGrid, on_grid}
use Rattle.oemm_octree.specs.declared.points.Point.{Point}
use Rattle.mesh_data.specs.declared.geometry.Tri.{Tri}
use Rattle.mesh_data.specs.declared.edits.Edit.{Edit}
use Rattle.mesh_data.specs.declared.edits.Edit.TheVariants.{Move, Collapse, Flip, Simplify}
use Rattle.mesh_data.specs.declared.edits.Reply.{Reply}
use Rattle.mesh_data.specs.declared.edits.Reply.TheVariants.{Unheld, Frozen, Same, Apart, Border, Link, Closed, Folds, Dear, Edge, Outside, Done, DoneAt, Simplified}
use Rattle.mesh_data.specs.declared.edits.Step.{Step}
use Rattle.byte_grammar.specs.Keeps.{Always}
use Rattle.byte_grammar.specs.Reader.{Reader, done, next, whole, IsBytes}
use Rattle.byte_grammar.proofs.Spells.{IsBytes-rest, Spells, Spells-then, Spells-last, Spells-unit, ok_is, whole_again, whole_takes}
use Rattle.byte_grammar.proofs.Variants.{Makes, Makes-then, Makes-last, Makes-one}
use Rattle.geometry_bytes.specs.Geometry.{is_turned}
use Rattle.leaf_codec.specs.Edits.{is_bound, is_edit}
use Rattle.leaf_codec.specs.Entries as spelled
use Rattle.leaf_codec.specs.Replies.{is_cost, is_reply}
use Rattle.commit_journal.specs.Text.{edit_line, head_line, reply_lines, step_line}
use Rattle.journal_reader.specs.declared.lines.EntryHead.{EntryHead}
use Rattle.journal_reader.specs.declared.lines.JournalLine.{JournalLine}
use Rattle.journal_reader.specs.declared.lines.JournalLine.TheVariants.{HeadLine, EditLine, ReplyLine, StepLine, LeftLine}
use Rattle.journal_reader.specs.declared.numbers.TheConstants.{MOST_NUMBER, MOST_SIZE}
use Rattle.journal_reader.specs.Drafts.{begun}
use Rattle.journal_reader.specs.Journal.{IsEdit, ReplyFits, StepFits}
use Rattle.journal_reader.specs.Lines.{by_word, or_else, one, coordinate_at_end, corner_at_end, head_fields, has_box, head, bound, moved, collapsed, flipped, simplified, edit_rows, edit, plain_rows, plain, last_name, last_cost, named_rows, named, triple, folded, pair, is_ascending, edge, valued_rows, valued, reply, stepped, reply_line, line, line_of}
use Rattle.journal_reader.specs.Numbers.{is_end, coordinate_before, point_before, signed_before, number_before}
use Rattle.journal_reader.proofs.NumberSpells.{Spells-number, Spells-signed, Spells-coordinate, signed_stands}

-- ---- rows, each with its word

-- behind a word a reader took the rest of a value's text
pub record Told {W : Type 0} (text_of : W → List ℕ) (F : W → Type 0) (word left : List ℕ) (w : W) (rest : List ℕ) : Type 0 where
  pub told : word ++ left ≡ text_of w ++ rest
  pub fits : F w

abbrev pub Tells : {W : Type 0} → (W → List ℕ) → (W → Type 0) → List ℕ → Reader W → Type 0
Tells text_of F word read =
    (left : List ℕ) (w : _) (rest : List ℕ) → IsBytes left → read left ≡ Ok (w, rest) → Told text_of F word left w rest

abbrev pub AreRows : {W : Type 0} → (W → List ℕ) → (W → Type 0) → List (List ℕ × Reader W) → Type 0
AreRows text_of F [] = Unit {0}
AreRows text_of F (row ∷ rows) = Tells text_of F row.0 row.1 × AreRows text_of F rows

pub made_row : {T W : Type 0} {make : T → W} {read : Reader W} {bytes : T → List ℕ} {Rule : T → Type 0}
    → Makes make read bytes Rule → (text_of : W → List ℕ) (F : W → Type 0) (word : List ℕ)
    → ((t : T) → Rule t → (word ++ bytes t ≡ text_of (make t)) × F (make t)) → Tells text_of F word read
made_row {W = W} {bytes = bytes} m text_of F word says left w rest fits e =
    let t = m.takes left w rest fits e in
    let s = says t.parts t.rule in
    subst (λ (v : W). Told text_of F word left v rest) t.made
    (record {
      told = ap (λ (xs : List ℕ). word ++ xs) t.taken ∙ sym (append_assoc word (bytes t.parts) rest) ∙ ap (λ (xs : List ℕ). xs ++ rest) s.0;
      fits = s.1;
    })

pub plain_row : {W : Type 0} (y : W) (text_of : W → List ℕ) (F : W → Type 0) (word : List ℕ) → word ≡ text_of y → F y
    → Tells text_of F word (done y)
plain_row {W = W} y text_of F word is f left w rest fits e =
    let both = ok_is (y, left) (w, rest) e in
    subst (λ (v : W). Told text_of F word left v rest) both.0
    (record { told = ap (λ (xs : List ℕ). xs ++ left) is ∙ ap (λ (xs : List ℕ). text_of y ++ xs) both.1; fits = f })

-- bytes that begin with a word
begin_so : (word left : List ℕ) → bytes_eq (take (length word) left) word ≡ true → left ≡ word ++ drop (length word) left
begin_so word left is =
    sym (take-append-drop (length word) left)
    ∙ ap (λ (xs : List ℕ). xs ++ drop (length word) left) ((bytes_eq-Decides (take (length word) left) word).0 is)

pub taken_behind : {W : Type 0} (text_of : W → List ℕ) (F : W → Type 0) (word : List ℕ) (read : Reader W)
    → Tells text_of F word read → (left : List ℕ) (w : W) (rest : List ℕ) → IsBytes left
    → bytes_eq (take (length word) left) word ≡ true → read (drop (length word) left) ≡ Ok (w, rest)
    → (left ≡ text_of w ++ rest) × F w
taken_behind text_of F word read tells left w rest fits is e =
    let begins = begin_so word left is in
    let t = tells (drop (length word) left) w rest (IsBytes-rest left word (drop (length word) left) fits begins) e in
    (begins ∙ t.told, t.fits)

pub by_word_takes : {W : Type 0} (text_of : W → List ℕ) (F : W → Type 0) (rows : List (List ℕ × Reader W))
    → AreRows text_of F rows → (left : List ℕ) (w : W) (rest : List ℕ) → IsBytes left
    → by_word rows left ≡ Ok (w, rest) → (left ≡ text_of w ++ rest) × F w
by_word_takes text_of F [] are left w rest fits e = absurd cc
by_word_takes {W = W} text_of F (row ∷ rows) are left w rest fits e =
    tested (bytes_eq (take (length row.0) left) row.0) refl e (by_word_takes text_of F rows are.1 left w rest fits) where
      tested : (b : Bool) → bytes_eq (take (length row.0) left) row.0 ≡ b
          → cond b (row.1 (drop (length row.0) left)) (by_word rows left) ≡ Ok (w, rest)
          → (by_word rows left ≡ Ok (w, rest) → (left ≡ text_of w ++ rest) × F w) → (left ≡ text_of w ++ rest) × F w
      tested true is e later = taken_behind text_of F row.0 row.1 are.0 left w rest fits is e
      tested false is e later = later e

-- the first reader's answer, or else the second's
pub or_else_takes : {W : Type 0} (text_of : W → List ℕ) (F : W → Type 0) (left : List ℕ) (w : W) (rest : List ℕ)
    (one two : Result (W × List ℕ) ℕ)
    → (one ≡ Ok (w, rest) → (left ≡ text_of w ++ rest) × F w) → (two ≡ Ok (w, rest) → (left ≡ text_of w ++ rest) × F w)
    → or_else one two ≡ Ok (w, rest) → (left ≡ text_of w ++ rest) × F w
or_else_takes text_of F left w rest (Ok x) two first second e = first e
or_else_takes text_of F left w rest (Err n) two first second e = second e

-- ---- points

-- what is read of a coordinate
abbrev pub IsCoordinate : ℤ → Type 0
IsCoordinate z = (nat_abs z ≤ MOST_SIZE) × (on_grid z ≡ true)

pub grid_small : (z : ℤ) → on_grid z ≡ true → nat_abs z ≤ 32768
grid_small (pos n) grid = grind (arith, nat_tests, ints)
grid_small (negsuc n) grid = grind (arith, nat_tests, ints)

coordinate_is : (z : ℤ) → on_grid z ≡ true → IsCoordinate z
coordinate_is z grid = (grid_small z grid, grid)

pub point_text : List ℕ → Point → List ℕ
point_text behind p = (signed_decimal p.x ++ codes " ") ++ ((signed_decimal p.y ++ codes " ") ++ (signed_decimal p.z ++ behind))

abbrev pub IsPointRead : Point → Type 0
IsPointRead p = Always × (IsCoordinate p.x × (IsCoordinate p.y × IsCoordinate p.z))

pub read_grid : (p : Point) → IsPointRead p → IsOnGrid p
read_grid p h = (h.1.0.1, h.1.1.0.1, h.1.1.1.1)

pub grid_read : (p : Point) → IsOnGrid p → IsPointRead p
grid_read p h = (tt, (coordinate_is p.x h.0, (coordinate_is p.y h.1, coordinate_is p.z h.2)))

pub Spells-point : (c : ℕ) (cs : List ℕ) → is_end c ≡ true → Spells (point_before (c ∷ cs)) (point_text (c ∷ cs)) IsPointRead
unfolding point_before point_text
Spells-point c cs ends =
    Spells-then (Spells-coordinate 32 [] refl) (λ p. p.x) λ x _.
    Spells-then (Spells-coordinate 32 [] refl) (λ p. p.y) λ y _.
    Spells-last (Spells-coordinate c cs ends) (λ p. p.z) (λ z. record { x = x; y = y; z = z })
    (λ z _. (((tt, refl), refl), refl)) (λ p e _. rw (← e.0.1, ← e.1) refl)

-- ---- names and costs

name_then : (c : ℕ) (cs : List ℕ) → is_end c ≡ true → Spells (number_before (c ∷ cs) MOST_NUMBER) (λ n. decimal n ++ c ∷ cs) (λ n. n ≤ MOST_NUMBER)
name_then c cs ends = Spells-number c cs MOST_NUMBER ends (omega arith)

cost_then : (c : ℕ) (cs : List ℕ) → is_end c ≡ true
    → Spells (signed_before (c ∷ cs) MOST_COST) (λ z. signed_decimal z ++ c ∷ cs) (λ z. nat_abs z ≤ MOST_COST)
cost_then c cs ends = Spells-signed c cs MOST_COST ends (omega arith)

bound_then : (c : ℕ) (cs : List ℕ) → is_end c ≡ true
    → Spells (bound (c ∷ cs)) (λ z. signed_decimal z ++ c ∷ cs) (λ z. (nat_abs z ≤ MOST_COST) × (int_le (pos 0) z ≡ true))
unfolding bound
bound_then c cs ends = Spells-unit (cost_then c cs ends) (int_le (pos 0))

read_bound : (z : ℤ) → (nat_abs z ≤ MOST_COST) × (int_le (pos 0) z ≡ true) → is_bound z ≡ true
unfolding is_bound
read_bound z h = and_from _ _ h.1 (le-leb _ _ h.0)

bound_read : (z : ℤ) → is_bound z ≡ true → (nat_abs z ≤ MOST_COST) × (int_le (pos 0) z ≡ true)
unfolding is_bound
bound_read z h = let both = and_parts _ _ h in (leb-true _ _ both.1, both.0)

read_cost : (z : ℤ) → nat_abs z ≤ MOST_COST → is_cost z ≡ true
unfolding is_cost
read_cost z h = le-leb _ _ h

cost_read : (z : ℤ) → is_cost z ≡ true → nat_abs z ≤ MOST_COST
unfolding is_cost
cost_read z h = leb-true _ _ h

-- ---- edits

Makes-moved : Makes (λ (t : ℕ × Point). Move t.0 t.1) moved
    (λ t. (decimal t.0 ++ codes " ") ++ point_text (codes "\n") t.1) (λ t. Always × ((t.0 ≤ MOST_NUMBER) × IsPointRead t.1))
unfolding moved
Makes-moved =
    Makes-then (name_then 32 [] refl) (λ t. t.0) λ v _.
    Makes-last (Spells-point 10 [] refl) (λ t. t.1) (λ p. (v, p)) (λ p _. ((tt, refl), refl)) (λ t e _. rw (← e.1) refl)

Makes-collapsed : Makes (λ (t : ℕ × (ℕ × ℤ)). Collapse t.0 t.1.0 t.1.1) collapsed
    (λ t. (decimal t.0 ++ codes " ") ++ ((decimal t.1.0 ++ codes " ") ++ (signed_decimal t.1.1 ++ codes "\n")))
    (λ t. Always × ((t.0 ≤ MOST_NUMBER) × ((t.1.0 ≤ MOST_NUMBER) × ((nat_abs t.1.1 ≤ MOST_COST) × (int_le (pos 0) t.1.1 ≡ true)))))
unfolding collapsed
Makes-collapsed =
    Makes-then (name_then 32 [] refl) (λ t. t.0) λ u _.
    Makes-then (name_then 32 [] refl) (λ t. t.1.0) λ v _.
    Makes-last (bound_then 10 [] refl) (λ t. t.1.1) (λ max. (u, (v, max))) (λ max _. (((tt, refl), refl), refl))
    (λ t e _. rw (← e.0.1, ← e.1) refl)

Makes-flipped : Makes (λ (t : ℕ × ℕ). Flip t.0 t.1) flipped (λ t. (decimal t.0 ++ codes " ") ++ (decimal t.1 ++ codes "\n"))
    (λ t. Always × ((t.0 ≤ MOST_NUMBER) × (t.1 ≤ MOST_NUMBER)))
unfolding flipped
Makes-flipped =
    Makes-then (name_then 32 [] refl) (λ t. t.0) λ a _.
    Makes-last (name_then 10 [] refl) (λ t. t.1) (λ b. (a, b)) (λ b _. ((tt, refl), refl)) (λ t e _. rw (← e.1) refl)

Makes-simplified : Makes (λ (t : ℤ × ℕ). Simplify t.0 t.1) simplified
    (λ t. (signed_decimal t.0 ++ codes " ") ++ (decimal t.1 ++ codes "\n"))
    (λ t. Always × (((nat_abs t.0 ≤ MOST_COST) × (int_le (pos 0) t.0 ≡ true)) × (t.1 ≤ MOST_ITEMS)))
unfolding simplified
Makes-simplified =
    Makes-then (bound_then 32 [] refl) (λ t. t.0) λ max _.
    Makes-last (Spells-number 10 [] MOST_ITEMS refl (omega arith)) (λ t. t.1) (λ target. (max, target))
    (λ target _. ((tt, refl), refl)) (λ t e _. rw (← e.1) refl)

move_text : (v : ℕ) (p : Point) → codes "move " ++ ((decimal v ++ codes " ") ++ point_text (codes "\n") p) ≡ edit_line (Move v p)
unfolding point_text
move_text v p = simp append_assoc

collapse_text : (u v : ℕ) (max : ℤ)
    → codes "collapse " ++ ((decimal u ++ codes " ") ++ ((decimal v ++ codes " ") ++ (signed_decimal max ++ codes "\n"))) ≡ edit_line (Collapse u v max)
collapse_text u v max = simp append_assoc

flip_text : (a b : ℕ) → codes "flip " ++ ((decimal a ++ codes " ") ++ (decimal b ++ codes "\n")) ≡ edit_line (Flip a b)
flip_text a b = simp append_assoc

simplify_text : (max : ℤ) (target : ℕ)
    → codes "simplify " ++ ((signed_decimal max ++ codes " ") ++ (decimal target ++ codes "\n")) ≡ edit_line (Simplify max target)
simplify_text max target = simp append_assoc

target_is : (n : ℕ) → n ≤ MOST_ITEMS → leb n MOST_ITEMS ≡ true
target_is n h = le-leb n MOST_ITEMS h

edits_are : AreRows edit_line IsEdit edit_rows
unfolding is_edit
edits_are = (
  made_row Makes-moved edit_line IsEdit (codes "move ")
      (λ t h. (move_text t.0 t.1, ((omega (arith, h.1.0), read_grid t.1 h.1.1), refl))),
  (
    made_row Makes-collapsed edit_line IsEdit (codes "collapse ")
        (λ t h. (
          collapse_text t.0 t.1.0 t.1.1,
          ((omega (arith, h.1.0), omega (arith, h.1.1.0)), read_bound t.1.1 h.1.1.1),
        )),
    (
      made_row Makes-flipped edit_line IsEdit (codes "flip ")
          (λ t h. (flip_text t.0 t.1, ((omega (arith, h.1.0), omega (arith, h.1.1)), refl))),
      (
        made_row Makes-simplified edit_line IsEdit (codes "simplify ")
            (λ t h. (
              simplify_text t.0 t.1,
              (omega (arith, h.1.1), and_from _ _ (read_bound t.0 h.1.0) (target_is t.1 h.1.1)),
            )),
        tt,
      ),
    ),
  ),
)

edit_again : (e : Edit) (rest : List ℕ) → IsEdit e → by_word edit_rows (edit_line e ++ rest) ≡ Ok (e, rest)
unfolding is_edit
edit_again (Move v p) rest h =
    subst (λ (xs : List ℕ). by_word edit_rows (xs ++ rest) ≡ Ok (Move v p, rest)) (move_text v p)
    (Makes-moved.again (v, p) rest (tt, (omega (arith, h.0.0), grid_read p h.0.1)))
edit_again (Collapse u v max) rest h =
    subst (λ (xs : List ℕ). by_word edit_rows (xs ++ rest) ≡ Ok (Collapse u v max, rest)) (collapse_text u v max)
    (Makes-collapsed.again (u, (v, max)) rest (tt, (omega (arith, h.0.0), (omega (arith, h.0.1), bound_read max h.1))))
edit_again (Flip a b) rest h =
    subst (λ (xs : List ℕ). by_word edit_rows (xs ++ rest) ≡ Ok (Flip a b, rest)) (flip_text a b)
    (Makes-flipped.again (a, b) rest (tt, (omega (arith, h.0.0), omega (arith, h.0.1))))
edit_again (Simplify max target) rest h =
    let both = and_parts (is_bound max) (leb target MOST_ITEMS) h.1 in
    subst (λ (xs : List ℕ). by_word edit_rows (xs ++ rest) ≡ Ok (Simplify max target, rest)) (simplify_text max target)
    (Makes-simplified.again (max, target) rest (tt, (bound_read max both.0, leb-true target MOST_ITEMS both.1)))

pub Spells-edit : Spells edit edit_line IsEdit
unfolding edit
Spells-edit = record { takes = by_word_takes edit_line IsEdit edit_rows edits_are; again = edit_again }

-- ---- the line that begins an entry

pub wide_end : Bool → List ℕ
wide_end true = codes " wide\n"
wide_end false = codes "\n"

pub end_text : ℤ × Bool → List ℕ
end_text t = signed_decimal t.0 ++ wide_end t.1

tagged : (r : Result (ℤ × List ℕ) ℕ) (b : Bool) (z : ℤ × Bool) (rest : List ℕ)
    → next r (λ y. done (y, b)) ≡ Ok (z, rest) → (r ≡ Ok (z.0, rest)) × (b ≡ z.1)
tagged (Ok x) b z rest e =
    let both = ok_is ((x.0, b), x.1) (z, rest) e in
    let is : x.0 ≡ z.0 = ap (λ (y : ℤ × Bool). y.0) both.0 in
    (λ i. Ok (is i, both.1 i), ap (λ (y : ℤ × Bool). y.1) both.0)
tagged (Err n) b z rest e = absurd cc

or_else_first : {W : Type 0} (x : W × List ℕ) (one two : Result (W × List ℕ) ℕ) → one ≡ Ok x → or_else one two ≡ Ok x
or_else_first x (Ok y) two e = e
or_else_first x (Err n) two e = absurd cc

or_else_second : {W : Type 0} (x : W × List ℕ) (n : ℕ) (one two : Result (W × List ℕ) ℕ) → one ≡ Err n → two ≡ Ok x → or_else one two ≡ Ok x
or_else_second x n (Ok y) two e f = absurd cc
or_else_second x n (Err m) two e f = f

not_wide : (z : ℤ) (rest : List ℕ) → IsCoordinate z
    → coordinate_before (codes " wide\n") ((signed_decimal z ++ codes "\n") ++ rest) ≡ Err (length ((signed_decimal z ++ codes "\n") ++ rest))
unfolding coordinate_before
not_wide z rest h =
    rw (append_assoc (signed_decimal z) (codes "\n") rest)
    (rw (signed_stands (codes " wide\n") MOST_SIZE z 10 rest h.0 (omega arith) refl) refl)

wide_coordinate : Spells (coordinate_before (codes " wide\n")) (λ z. signed_decimal z ++ codes " wide\n") IsCoordinate
wide_coordinate = Spells-coordinate 32 (codes "wide\n") refl

plain_coordinate : Spells (coordinate_before (codes "\n")) (λ z. signed_decimal z ++ codes "\n") IsCoordinate
plain_coordinate = Spells-coordinate 10 [] refl

Spells-end : Spells coordinate_at_end end_text (λ t. IsCoordinate t.0)
unfolding coordinate_at_end end_text wide_end
Spells-end = record { takes = end_takes; again = end_again } where
  end_takes : (left : List ℕ) (t : ℤ × Bool) (rest : List ℕ) → IsBytes left → coordinate_at_end left ≡ Ok (t, rest)
      → (left ≡ end_text t ++ rest) × IsCoordinate t.0
  end_takes left t rest fits e =
      or_else_takes end_text (λ t. IsCoordinate t.0) left t rest
      (one (coordinate_before (codes " wide\n")) (λ z. (z, true)) left) (one (coordinate_before (codes "\n")) (λ z. (z, false)) left)
      (λ f.
      let g = tagged (coordinate_before (codes " wide\n") left) true t rest f in
      let s = wide_coordinate.takes left t.0 rest fits g.0 in
      (s.0 ∙ ap (λ (b : Bool). (signed_decimal t.0 ++ wide_end b) ++ rest) g.1, s.1))
      (λ f.
      let g = tagged (coordinate_before (codes "\n") left) false t rest f in
      let s = plain_coordinate.takes left t.0 rest fits g.0 in
      (s.0 ∙ ap (λ (b : Bool). (signed_decimal t.0 ++ wide_end b) ++ rest) g.1, s.1))
      e

  end_at : (z : ℤ) (b : Bool) (rest : List ℕ) → IsCoordinate z → coordinate_at_end (end_text (z, b) ++ rest) ≡ Ok ((z, b), rest)
  end_at z true rest h =
      or_else_first ((z, true), rest) (one (coordinate_before (codes " wide\n")) (λ z. (z, true)) ((signed_decimal z ++ codes " wide\n") ++ rest)) _
      (ap (λ (r : Result (ℤ × List ℕ) ℕ). next r (λ y. done (y, true))) (wide_coordinate.again z rest h))
  end_at z false rest h =
      or_else_second ((z, false), rest) (length ((signed_decimal z ++ codes "\n") ++ rest))
      (one (coordinate_before (codes " wide\n")) (λ z. (z, true)) ((signed_decimal z ++ codes "\n") ++ rest)) _
      (ap (λ (r : Result (ℤ × List ℕ) ℕ). next r (λ y. done (y, true))) (not_wide z rest h))
      (ap (λ (r : Result (ℤ × List ℕ) ℕ). next r (λ y. done (y, false))) (plain_coordinate.again z rest h))

  end_again : (t : ℤ × Bool) (rest : List ℕ) → IsCoordinate t.0 → coordinate_at_end (end_text t ++ rest) ≡ Ok (t, rest)
  end_again t rest h = end_at t.0 t.1 rest h

pub corner_text : Point × Bool → List ℕ
corner_text t = (signed_decimal t.0.x ++ codes " ") ++ ((signed_decimal t.0.y ++ codes " ") ++ end_text (t.0.z, t.1))

Spells-corner : Spells corner_at_end corner_text (λ t. IsPointRead t.0)
unfolding corner_at_end corner_text
Spells-corner =
    Spells-then (Spells-coordinate 32 [] refl) (λ t. t.0.x) λ x _.
    Spells-then (Spells-coordinate 32 [] refl) (λ t. t.0.y) λ y _.
    Spells-last Spells-end (λ t. (t.0.z, t.1)) (λ last. (record { x = x; y = y; z = last.0 }, last.1))
    (λ last _. (((tt, refl), refl), refl)) (λ t e _. rw (← e.0.1, ← e.1) refl)

pub head_text : EntryHead → List ℕ
head_text h =
    (decimal h.number ++ codes " lane ") ++ ((decimal h.lane ++ codes " number ") ++ ((decimal h.task ++ codes " box ")
    ++ (point_text (codes " ") h.low ++ corner_text (h.high, h.wide))))

abbrev IsHeadRead : EntryHead → Type 0
IsHeadRead h =
    Always × ((h.number ≤ MOST_NUMBER) × ((h.lane ≤ LAST_LANE) × ((h.task ≤ MOST_NUMBER) × (IsPointRead h.low × IsPointRead h.high))))

Spells-head_fields : Spells head_fields head_text IsHeadRead
unfolding head_fields head_text
Spells-head_fields =
    Spells-then (name_then 32 (codes "lane ") refl) (λ h. h.number) λ number _.
    Spells-then (Spells-number 32 (codes "number ") LAST_LANE refl (omega arith)) (λ h. h.lane) λ lane _.
    Spells-then (name_then 32 (codes "box ") refl) (λ h. h.task) λ task _.
    Spells-then (Spells-point 32 [] refl) (λ h. h.low) λ low _.
    Spells-last Spells-corner (λ h. (h.high, h.wide))
    (λ last. record { number = number; lane = lane; task = task; low = low; high = last.0; wide = last.1 })
    (λ last _. (((((tt, refl), refl), refl), refl), refl))
    (λ h e _. rw (← e.0.0.0.1, ← e.0.0.1, ← e.0.1, ← e.1) refl)

-- what a line that begins an entry can say
pub record IsHead (h : EntryHead) : Type 0 where
  pub number : h.number < 2 ^ 32
  pub lane : h.lane ≤ LAST_LANE
  pub task : h.task < 2 ^ 32
  pub low : IsOnGrid h.low
  pub high : IsOnGrid h.high
  pub box : spelled.is_box (h.low, h.high) ≡ true

read_head : (h : EntryHead) → IsHeadRead h → has_box h ≡ true → IsHead h
read_head h r box = record {
  number = omega (arith, r.1.0);
  lane = r.1.1.0;
  task = omega (arith, r.1.1.1.0);
  low = read_grid h.low r.1.1.1.1.0;
  high = read_grid h.high r.1.1.1.1.1;
  box = box;
}

head_read : (h : EntryHead) → IsHead h → IsHeadRead h
head_read h r =
    let number = r.number in
    let task = r.task in
    (tt, (omega arith, (r.lane, (omega arith, (grid_read h.low r.low, grid_read h.high r.high)))))

pub Spells-head : Spells head head_text IsHead
unfolding head
Spells-head =
    let s = Spells-unit Spells-head_fields has_box in
    record {
      takes = λ left h rest fits e. let t = s.takes left h rest fits e in (t.0, read_head h t.1.0 t.1.1);
      again = λ h rest r. s.again h rest (head_read h r, r.box);
    }

head_is : (number lane task : ℕ) (low high : Point) (wide : Bool)
    → let h : EntryHead = record { number = number; lane = lane; task = task; low = low; high = high; wide = wide } in
    codes "commit " ++ head_text h ≡ head_line number (begun h)
unfolding head_text corner_text end_text wide_end point_text
head_is number lane task low high true = simp append_assoc
head_is number lane task low high false = simp append_assoc

-- ---- replies of one line

unfoldable pub first_of_lines : List (List ℕ) → List ℕ
first_of_lines [] = []
first_of_lines (l ∷ ls) = l

-- the line of a reply that is one
unfoldable pub reply_text : Reply → List ℕ
reply_text r = first_of_lines (reply_lines r)

-- the reply isn't one of steps
abbrev pub IsOneLine : Reply → Type 0
IsOneLine (Simplified steps left) = ⊥
IsOneLine _ = Unit {0}

pub record IsShort (r : Reply) : Type 0 where
  pub fits : ReplyFits r
  pub rule : is_reply r ≡ true
  pub one_line : IsOneLine r

last_name_spells : Spells last_name (λ n. decimal n ++ codes "\n") (λ n. n ≤ MOST_NUMBER)
last_name_spells = name_then 10 [] refl

last_cost_spells : Spells last_cost (λ z. signed_decimal z ++ codes "\n") (λ z. nat_abs z ≤ MOST_COST)
last_cost_spells = cost_then 10 [] refl

Spells-triple : Spells triple (λ t. (decimal t.a ++ codes " ") ++ ((decimal t.b ++ codes " ") ++ (decimal t.c ++ codes "\n")))
    (λ t. Always × ((t.a ≤ MOST_NUMBER) × ((t.b ≤ MOST_NUMBER) × (t.c ≤ MOST_NUMBER))))
unfolding triple
Spells-triple =
    Spells-then (name_then 32 [] refl) (λ t. t.a) λ a _.
    Spells-then (name_then 32 [] refl) (λ t. t.b) λ b _.
    Spells-last last_name_spells (λ t. t.c) (λ c. record { a = a; b = b; c = c }) (λ c _. (((tt, refl), refl), refl))
    (λ t e _. rw (← e.0.1, ← e.1) refl)

Spells-pair : Spells pair (λ t. (decimal t.0 ++ codes " ") ++ (decimal t.1 ++ codes "\n"))
    (λ t. Always × ((t.0 ≤ MOST_NUMBER) × (t.1 ≤ MOST_NUMBER)))
unfolding pair
Spells-pair =
    Spells-then (name_then 32 [] refl) (λ t. t.0) λ c _.
    Spells-last last_name_spells (λ t. t.1) (λ d. (c, d)) (λ d _. ((tt, refl), refl)) (λ t e _. rw (← e.1) refl)

named_text : (v : ℕ)
    → (codes "unheld " ++ (decimal v ++ codes "\n") ≡ reply_text (Unheld v)) × (codes "frozen " ++ (decimal v ++ codes "\n") ≡ reply_text (Frozen v))
    × (codes "link " ++ (decimal v ++ codes "\n") ≡ reply_text (Link v))
unfolding reply_text first_of_lines
named_text v = (refl, refl, refl)

cost_text : (z : ℤ)
    → (codes "dear " ++ (signed_decimal z ++ codes "\n") ≡ reply_text (Dear z)) × (codes "done " ++ (signed_decimal z ++ codes "\n") ≡ reply_text (DoneAt z))
unfolding reply_text first_of_lines
cost_text z = (refl, refl)

folds_text : (t : Tri)
    → codes "folds " ++ ((decimal t.a ++ codes " ") ++ ((decimal t.b ++ codes " ") ++ (decimal t.c ++ codes "\n"))) ≡ reply_text (Folds t)
unfolding reply_text first_of_lines
folds_text t = simp append_assoc

edge_text : (c d : ℕ) → codes "edge " ++ ((decimal c ++ codes " ") ++ (decimal d ++ codes "\n")) ≡ reply_text (Edge c d)
unfolding reply_text first_of_lines
edge_text c d = simp append_assoc

plain_are : AreRows reply_text IsShort plain_rows
unfolding reply_text first_of_lines is_reply
plain_are = (
  plain_row Same reply_text IsShort (codes "same\n") refl (record { fits = tt; rule = refl; one_line = tt }),
  (
    plain_row Apart reply_text IsShort (codes "apart\n") refl (record { fits = tt; rule = refl; one_line = tt }),
    (
      plain_row Border reply_text IsShort (codes "border\n") refl (record { fits = tt; rule = refl; one_line = tt }),
      (
        plain_row Closed reply_text IsShort (codes "closed\n") refl (record { fits = tt; rule = refl; one_line = tt }),
        (
          plain_row Outside reply_text IsShort (codes "outside\n") refl (record { fits = tt; rule = refl; one_line = tt }),
          (plain_row Done reply_text IsShort (codes "done\n") refl (record { fits = tt; rule = refl; one_line = tt }), tt),
        ),
      ),
    ),
  ),
)

named_are : AreRows reply_text IsShort named_rows
unfolding is_reply
named_are = (
  made_row (Makes-one last_name_spells (λ v. Unheld v)) reply_text IsShort (codes "unheld ")
      (λ v h. ((named_text v).0, record { fits = omega arith; rule = refl; one_line = tt })),
  (
    made_row (Makes-one last_name_spells (λ v. Frozen v)) reply_text IsShort (codes "frozen ")
        (λ v h. ((named_text v).1, record { fits = omega arith; rule = refl; one_line = tt })),
    (
      made_row (Makes-one last_name_spells (λ w. Link w)) reply_text IsShort (codes "link ")
          (λ v h. ((named_text v).2, record { fits = omega arith; rule = refl; one_line = tt })),
      tt,
    ),
  ),
)

Makes-folded : Makes (λ t. Folds t) folded (λ t. (decimal t.a ++ codes " ") ++ ((decimal t.b ++ codes " ") ++ (decimal t.c ++ codes "\n")))
    (λ t. (Always × ((t.a ≤ MOST_NUMBER) × ((t.b ≤ MOST_NUMBER) × (t.c ≤ MOST_NUMBER)))) × (is_turned t ≡ true))
unfolding folded
Makes-folded = Makes-one (Spells-unit Spells-triple is_turned) (λ t. Folds t)

Makes-edge : Makes (λ (t : ℕ × ℕ). Edge t.0 t.1) edge (λ t. (decimal t.0 ++ codes " ") ++ (decimal t.1 ++ codes "\n"))
    (λ t. (Always × ((t.0 ≤ MOST_NUMBER) × (t.1 ≤ MOST_NUMBER))) × (is_ascending t ≡ true))
unfolding edge
Makes-edge = Makes-one (Spells-unit Spells-pair is_ascending) (λ t. Edge t.0 t.1)

valued_are : AreRows reply_text IsShort valued_rows
unfolding is_reply
valued_are = (
  made_row Makes-folded reply_text IsShort (codes "folds ")
      (λ t h. (
        folds_text t,
        record {
          fits = (omega (arith, h.0.1.0), omega (arith, h.0.1.1.0), omega (arith, h.0.1.1.1));
          rule = h.1;
          one_line = tt;
        },
      )),
  (
    made_row Makes-edge reply_text IsShort (codes "edge ")
        (λ t h. (
          edge_text t.0 t.1,
          record { fits = (omega (arith, h.0.1.0), omega (arith, h.0.1.1)); rule = h.1; one_line = tt },
        )),
    (
      made_row (Makes-one last_cost_spells (λ cost. Dear cost)) reply_text IsShort (codes "dear ")
          (λ z h. ((cost_text z).0, record { fits = tt; rule = read_cost z h; one_line = tt })),
      (
        made_row (Makes-one last_cost_spells (λ cost. DoneAt cost)) reply_text IsShort (codes "done ")
            (λ z h. ((cost_text z).1, record { fits = tt; rule = read_cost z h; one_line = tt })),
        tt,
      ),
    ),
  ),
)

plain_again : (rest : List ℕ)
    → (reply (reply_text Same ++ rest) ≡ Ok (Same, rest)) × (reply (reply_text Apart ++ rest) ≡ Ok (Apart, rest)) × (reply (reply_text Border ++ rest) ≡ Ok (Border, rest)) × (reply (reply_text Closed ++ rest) ≡ Ok (Closed, rest)) × (reply (reply_text Outside ++ rest) ≡ Ok (Outside, rest)) × (reply (reply_text Done ++ rest) ≡ Ok (Done, rest))
unfolding reply plain reply_text first_of_lines
plain_again rest = (refl, refl, refl, refl, refl, refl)

reply_again : (r : Reply) (rest : List ℕ) → IsShort r → reply (reply_text r ++ rest) ≡ Ok (r, rest)
unfolding reply plain named valued is_reply
reply_again (Unheld v) rest h =
    let le : v ≤ MOST_NUMBER = omega (arith, h.fits) in
    subst (λ (xs : List ℕ). or_else (by_word plain_rows (xs ++ rest)) (or_else (by_word named_rows (xs ++ rest)) (by_word valued_rows (xs ++ rest))) ≡ Ok (Unheld v, rest))
    (named_text v).0 (or_else_first (Unheld v, rest) _ _ ((Makes-one last_name_spells (λ v. Unheld v)).again v rest le))
reply_again (Frozen v) rest h =
    let le : v ≤ MOST_NUMBER = omega (arith, h.fits) in
    subst (λ (xs : List ℕ). or_else (by_word plain_rows (xs ++ rest)) (or_else (by_word named_rows (xs ++ rest)) (by_word valued_rows (xs ++ rest))) ≡ Ok (Frozen v, rest))
    (named_text v).1 (or_else_first (Frozen v, rest) _ _ ((Makes-one last_name_spells (λ v. Frozen v)).again v rest le))
reply_again (Link v) rest h =
    let le : v ≤ MOST_NUMBER = omega (arith, h.fits) in
    subst (λ (xs : List ℕ). or_else (by_word plain_rows (xs ++ rest)) (or_else (by_word named_rows (xs ++ rest)) (by_word valued_rows (xs ++ rest))) ≡ Ok (Link v, rest))
    (named_text v).2 (or_else_first (Link v, rest) _ _ ((Makes-one last_name_spells (λ v. Link v)).again v rest le))
reply_again Same rest h = (plain_again rest).0
reply_again Apart rest h = (plain_again rest).1
reply_again Border rest h = (plain_again rest).2
reply_again Closed rest h = (plain_again rest).3
reply_again Outside rest h = (plain_again rest).4
reply_again Done rest h = (plain_again rest).5
reply_again (Folds t) rest h =
    let fits = h.fits in
    subst (λ (xs : List ℕ). or_else (by_word plain_rows (xs ++ rest)) (or_else (by_word named_rows (xs ++ rest)) (by_word valued_rows (xs ++ rest))) ≡ Ok (Folds t, rest))
    (folds_text t) (Makes-folded.again t rest ((tt, (omega (arith, fits.0), (omega (arith, fits.1), omega (arith, fits.2)))), h.rule))
reply_again (Edge c d) rest h =
    let fits = h.fits in
    subst (λ (xs : List ℕ). or_else (by_word plain_rows (xs ++ rest)) (or_else (by_word named_rows (xs ++ rest)) (by_word valued_rows (xs ++ rest))) ≡ Ok (Edge c d, rest))
    (edge_text c d) (Makes-edge.again (c, d) rest ((tt, (omega (arith, fits.0), omega (arith, fits.1))), h.rule))
reply_again (Dear z) rest h =
    subst (λ (xs : List ℕ). or_else (by_word plain_rows (xs ++ rest)) (or_else (by_word named_rows (xs ++ rest)) (by_word valued_rows (xs ++ rest))) ≡ Ok (Dear z, rest))
    (cost_text z).0 ((Makes-one last_cost_spells (λ cost. Dear cost)).again z rest (cost_read z h.rule))
reply_again (DoneAt z) rest h =
    subst (λ (xs : List ℕ). or_else (by_word plain_rows (xs ++ rest)) (or_else (by_word named_rows (xs ++ rest)) (by_word valued_rows (xs ++ rest))) ≡ Ok (DoneAt z, rest))
    (cost_text z).1 ((Makes-one last_cost_spells (λ cost. DoneAt cost)).again z rest (cost_read z h.rule))
reply_again (Simplified steps left) rest h = absurd h.one_line

pub Spells-reply : Spells reply reply_text IsShort
unfolding reply plain named valued
Spells-reply = record {
  takes = λ left r rest fits e.
      or_else_takes reply_text IsShort left r rest (by_word plain_rows left) (or_else (by_word named_rows left) (by_word valued_rows left))
      (by_word_takes reply_text IsShort plain_rows plain_are left r rest fits)
      (or_else_takes reply_text IsShort left r rest (by_word named_rows left) (by_word valued_rows left)
      (by_word_takes reply_text IsShort named_rows named_are left r rest fits)
      (by_word_takes reply_text IsShort valued_rows valued_are left r rest fits))
      e;
  again = reply_again;
}

-- ---- all lines

Spells-stepped : Spells stepped (λ s. (decimal s.u ++ codes " ") ++ ((decimal s.v ++ codes " ") ++ (signed_decimal s.cost ++ codes "\n")))
    (λ s. Always × ((s.u ≤ MOST_NUMBER) × ((s.v ≤ MOST_NUMBER) × (nat_abs s.cost ≤ MOST_COST))))
unfolding stepped
Spells-stepped =
    Spells-then (name_then 32 [] refl) (λ s. s.u) λ u _.
    Spells-then (name_then 32 [] refl) (λ s. s.v) λ v _.
    Spells-last last_cost_spells (λ s. s.cost) (λ cost. record { u = u; v = v; cost = cost })
    (λ cost _. (((tt, refl), refl), refl)) (λ s e _. rw (← e.0.1, ← e.1) refl)

step_text : (s : Step)
    → codes "  collapse " ++ ((decimal s.u ++ codes " ") ++ ((decimal s.v ++ codes " ") ++ (signed_decimal s.cost ++ codes "\n"))) ≡ 32 ∷ 32 ∷ step_line s
step_text s = simp append_assoc

abbrev pub left_line : ℕ → List ℕ
left_line n = text.line (codes "simplified" ∷ decimal n ∷ [])

-- the text of a line
unfoldable pub line_text : JournalLine → List ℕ
line_text (HeadLine h) = head_line h.number (begun h)
line_text (EditLine e) = edit_line e
line_text (ReplyLine r) = 32 ∷ 32 ∷ reply_text r
line_text (StepLine s) = 32 ∷ 32 ∷ step_line s
line_text (LeftLine n) = 32 ∷ 32 ∷ left_line n

-- what a line can say
abbrev pub IsLine : JournalLine → Type 0
IsLine (HeadLine h) = IsHead h
IsLine (EditLine e) = IsEdit e
IsLine (ReplyLine r) = IsShort r
IsLine (StepLine s) = StepFits s × (is_cost s.cost ≡ true)
IsLine (LeftLine n) = n < 2 ^ 32

head_row : Tells line_text IsLine (codes "commit ") (one head (λ h. HeadLine h))
unfolding line_text
head_row =
    made_row (Makes-one Spells-head (λ h. HeadLine h)) line_text IsLine (codes "commit ")
    (λ h r. (head_is h.number h.lane h.task h.low h.high h.wide, r))

edit_row : Tells line_text IsLine [] (one edit (λ e. EditLine e))
unfolding line_text
edit_row = made_row (Makes-one Spells-edit (λ e. EditLine e)) line_text IsLine [] (λ e r. (refl, r))

reply_row : Tells line_text IsLine (codes "  ") (one reply (λ r. ReplyLine r))
unfolding line_text
reply_row = made_row (Makes-one Spells-reply (λ r. ReplyLine r)) line_text IsLine (codes "  ") (λ r h. (refl, h))

step_row : Tells line_text IsLine (codes "  collapse ") (one stepped (λ s. StepLine s))
unfolding line_text
step_row =
    made_row (Makes-one Spells-stepped (λ s. StepLine s)) line_text IsLine (codes "  collapse ")
    (λ s h. (step_text s, ((omega (arith, h.1.0), omega (arith, h.1.1.0)), read_cost s.cost h.1.1.1)))

left_row : Tells line_text IsLine (codes "  simplified ") (one last_name (λ n. LeftLine n))
unfolding line_text
left_row =
    made_row (Makes-one last_name_spells (λ n. LeftLine n)) line_text IsLine (codes "  simplified ") (λ n h. (refl, omega arith))

-- behind two spaces
reply_line_takes : (left : List ℕ) (l : JournalLine) (rest : List ℕ) → IsBytes left → reply_line left ≡ Ok (l, rest)
    → (32 ∷ 32 ∷ left ≡ line_text l ++ rest) × IsLine l
unfolding reply_line
reply_line_takes left l rest fits e = stepping (bytes_eq (take 9 left) (codes "collapse ")) refl e where
  leaving : (b : Bool) → bytes_eq (take 11 left) (codes "simplified ") ≡ b
      → cond b (one last_name (λ n. LeftLine n) (drop 11 left)) (one reply (λ r. ReplyLine r) left) ≡ Ok (l, rest)
      → (32 ∷ 32 ∷ left ≡ line_text l ++ rest) × IsLine l
  leaving true is e =
      let begins = begin_so (codes "simplified ") left is in
      let t = left_row (drop 11 left) l rest (IsBytes-rest left (codes "simplified ") (drop 11 left) fits begins) e in
      (ap (λ (xs : List ℕ). 32 ∷ 32 ∷ xs) begins ∙ t.told, t.fits)
  leaving false is e = let t = reply_row left l rest fits e in (t.told, t.fits)

  stepping : (b : Bool) → bytes_eq (take 9 left) (codes "collapse ") ≡ b
      → cond b (one stepped (λ s. StepLine s) (drop 9 left))
      (cond (bytes_eq (take 11 left) (codes "simplified ")) (one last_name (λ n. LeftLine n) (drop 11 left)) (one reply (λ r. ReplyLine r) left))
      ≡ Ok (l, rest)
      → (32 ∷ 32 ∷ left ≡ line_text l ++ rest) × IsLine l
  stepping true is e =
      let begins = begin_so (codes "collapse ") left is in
      let t = step_row (drop 9 left) l rest (IsBytes-rest left (codes "collapse ") (drop 9 left) fits begins) e in
      (ap (λ (xs : List ℕ). 32 ∷ 32 ∷ xs) begins ∙ t.told, t.fits)
  stepping false is e = leaving (bytes_eq (take 11 left) (codes "simplified ")) refl e

line_takes : (left : List ℕ) (l : JournalLine) (rest : List ℕ) → IsBytes left → line left ≡ Ok (l, rest)
    → (left ≡ line_text l ++ rest) × IsLine l
unfolding line
line_takes left l rest fits e = indenting (bytes_eq (take 2 left) (codes "  ")) refl e where
  heading : (b : Bool) → bytes_eq (take 7 left) (codes "commit ") ≡ b
      → cond b (one head (λ h. HeadLine h) (drop 7 left)) (one edit (λ x. EditLine x) left) ≡ Ok (l, rest)
      → (left ≡ line_text l ++ rest) × IsLine l
  heading true is e =
      taken_behind line_text IsLine (codes "commit ") (one head (λ h. HeadLine h)) head_row left l rest fits is e
  heading false is e = let t = edit_row left l rest fits e in (t.told, t.fits)

  indenting : (b : Bool) → bytes_eq (take 2 left) (codes "  ") ≡ b
      → cond b (reply_line (drop 2 left))
      (cond (bytes_eq (take 7 left) (codes "commit ")) (one head (λ h. HeadLine h) (drop 7 left)) (one edit (λ x. EditLine x) left))
      ≡ Ok (l, rest)
      → (left ≡ line_text l ++ rest) × IsLine l
  indenting true is e =
      let begins = begin_so (codes "  ") left is in
      let t = reply_line_takes (drop 2 left) l rest (IsBytes-rest left (codes "  ") (drop 2 left) fits begins) e in
      (begins ∙ t.0, t.1)
  indenting false is e = heading (bytes_eq (take 7 left) (codes "commit ")) refl e

-- a reply's line begins with no word of another
other_word : (r : Reply) (rest : List ℕ) → IsOneLine r
    → (bytes_eq (take 9 (reply_text r ++ rest)) (codes "collapse ") ≡ false)
    × (bytes_eq (take 11 (reply_text r ++ rest)) (codes "simplified ") ≡ false)
unfolding reply_text first_of_lines
other_word (Unheld v) rest h = (refl, refl)
other_word (Frozen v) rest h = (refl, refl)
other_word (Link v) rest h = (refl, refl)
other_word Same rest h = (refl, refl)
other_word Apart rest h = (refl, refl)
other_word Border rest h = (refl, refl)
other_word Closed rest h = (refl, refl)
other_word Outside rest h = (refl, refl)
other_word Done rest h = (refl, refl)
other_word (Folds t) rest h = (refl, refl)
other_word (Edge c d) rest h = (refl, refl)
other_word (Dear z) rest h = (refl, refl)
other_word (DoneAt z) rest h = (refl, refl)
other_word (Simplified steps left) rest h = absurd h

-- an edit's line begins with no word of another
no_reply : (e : Edit) (rest : List ℕ)
    → (bytes_eq (take 2 (edit_line e ++ rest)) (codes "  ") ≡ false) × (bytes_eq (take 7 (edit_line e ++ rest)) (codes "commit ") ≡ false)
no_reply (Move v to) rest = (refl, refl)
no_reply (Collapse u v max) rest = (refl, refl)
no_reply (Flip a b) rest = (refl, refl)
no_reply (Simplify max target) rest = (refl, refl)

made_ok : {A W : Type 0} (r : Result (A × List ℕ) ℕ) (x : A) (rest : List ℕ) (f : A → W) → r ≡ Ok (x, rest)
    → next r (λ y. done (f y)) ≡ Ok (f x, rest)
made_ok r x rest f e = rw e refl

line_again : (l : JournalLine) (rest : List ℕ) → IsLine l → line (line_text l ++ rest) ≡ Ok (l, rest)
unfolding line reply_line line_text
line_again (HeadLine h) rest r =
    subst (λ (xs : List ℕ). line (xs ++ rest) ≡ Ok (HeadLine h, rest)) (head_is h.number h.lane h.task h.low h.high h.wide)
    (made_ok (head (head_text h ++ rest)) h rest (λ x. HeadLine x) (Spells-head.again h rest r))
line_again (EditLine e) rest r =
    let no = no_reply e rest in
    rw (no.0, no.1) (made_ok (edit (edit_line e ++ rest)) e rest (λ x. EditLine x) (Spells-edit.again e rest r))
line_again (ReplyLine r) rest h =
    let no = other_word r rest h.one_line in
    rw (no.0, no.1) (made_ok (reply (reply_text r ++ rest)) r rest (λ x. ReplyLine x) (Spells-reply.again r rest h))
line_again (StepLine s) rest h =
    subst (λ (xs : List ℕ). line (xs ++ rest) ≡ Ok (StepLine s, rest)) (step_text s)
    (made_ok (stepped (((decimal s.u ++ codes " ") ++ ((decimal s.v ++ codes " ") ++ (signed_decimal s.cost ++ codes "\n"))) ++ rest)) s rest (λ x. StepLine x)
    (Spells-stepped.again s rest (tt, (omega (arith, h.0.0), (omega (arith, h.0.1), cost_read s.cost h.1)))))
line_again (LeftLine n) rest h =
    made_ok (last_name ((decimal n ++ codes "\n") ++ rest)) n rest (λ x. LeftLine x) (last_name_spells.again n rest (omega arith))

pub Spells-line : Spells line line_text IsLine
Spells-line = record { takes = line_takes; again = line_again }

pub line_of-found : (bytes : List ℕ) (l : JournalLine) → IsBytes bytes → line_of bytes ≡ Some l → (bytes ≡ line_text l) × IsLine l
unfolding line_of
line_of-found bytes l fits e = whole_takes Spells-line bytes l fits (from (whole line bytes) e) where
  from : (r : Result JournalLine ℕ) → result_ok r ≡ Some l → r ≡ Ok l
  from (Ok x) e = cc
  from (Err n) e = absurd cc

pub line_of-text : (l : JournalLine) → IsLine l → line_of (line_text l) ≡ Some l
unfolding line_of
line_of-text l h = rw (whole_again Spells-line l h) refl
