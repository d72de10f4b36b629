-- The lines that lead from one draft to another.
use Rattle.std.proofs.Common.{◌≡◌, ℕ, suc, ◌+◌, ◌^◌, ◌<◌, ◌≤◌, Bool, true, false, cond, not, ◌||◌, ◌==◌, leb, int_le, List, [], ◌∷◌, ◌++◌, length, codes, Option, Some, None, option_and_then, ℤ, pos, negsuc, nat_abs, refl, sym, ap, subst, ◌∙◌, append_assoc, append-nil, arith, length-append, ◌⊎◌, inl, inr}
use Rattle.std.proofs.lemmas.Bool.{and_parts, false≢true, leb-true, lt-ltb}
use Rattle.std.proofs.lemmas.Grind.{flat_map-append}
use Rattle.std.specs.Fmt.{decimal, signed_decimal}
use Rattle.std.specs.List.{AllByRecursion, flat_map, list_all}
use Rattle.std.specs.Option.{option_map}
use Rattle.oemm_limits.specs.declared.TheConstants.{MOST_COST, MOST_EDITS, MOST_ITEMS}
use Rattle.oemm_lists.specs.TextLine as text
use Rattle.oemm_octree.specs.Octree.{IsOnGrid, on_grid}
use Rattle.oemm_octree.specs.declared.points.Point.{Point}
use Rattle.mesh_data.specs.declared.edits.Edit.{Edit}
use Rattle.mesh_data.specs.declared.edits.Edit.TheVariants.{Move, Collapse, Flip, Simplify}
use Rattle.mesh_data.specs.declared.edits.Entry.{Entry}
use Rattle.mesh_data.specs.declared.edits.Reply.{Reply}
use Rattle.mesh_data.specs.declared.edits.Reply.TheVariants.{Unheld, Frozen, Same, Apart, Border, Link, Closed, Folds, Dear, Edge, Outside, Done, DoneAt, Simplified}
use Rattle.mesh_data.specs.declared.edits.Step.{Step}
use Rattle.byte_grammar.specs.Reader.{IsBytes}
use Rattle.leaf_codec.specs.Edits.{is_bound, is_edit}
use Rattle.leaf_codec.specs.Replies.{is_cost, is_reply, is_step, may_answer}
use Rattle.commit_journal.specs.Text.{edit_line, head_line, step_line, wide_word}
use Rattle.journal_reader.specs.declared.draft.TheConstants.{MOST_STEPS}
use Rattle.journal_reader.specs.declared.draft.Asked.{Asked}
use Rattle.journal_reader.specs.declared.draft.LastEntry.{LastEntry}
use Rattle.journal_reader.specs.declared.draft.Draft.{Draft}
use Rattle.journal_reader.specs.declared.lines.EntryHead.{EntryHead}
use Rattle.journal_reader.specs.declared.lines.JournalLine.{JournalLine}
use Rattle.journal_reader.specs.declared.lines.JournalLine.TheVariants.{HeadLine, EditLine, ReplyLine, StepLine, LeftLine}
use Rattle.journal_reader.specs.Drafts.{after, after_bytes, after_within, answered, asked_too, begun, is_simplify, told, within}
use Rattle.journal_reader.specs.Journal.{AreAnswered, IsEdit, IsReplyTo, IsTold, StepFits, with_feed}
use Rattle.journal_reader.specs.Lines.{line_of}
use Rattle.journal_reader.proofs.NumberSpells.{IsWord, decimal_word}
use Rattle.journal_reader.proofs.LineSpells.{IsHead, IsLine, IsOneLine, IsShort, first_of_lines, grid_small, left_line, line_of-found, line_of-text, line_text, reply_text}
use Rattle.journal_reader.proofs.Writing.{IsDraft, IsStep, draft_text, goes, narrow_edits, wide_edits}

-- ---- the bytes of a line in front of its line feed

abbrev pub HasNoFeed : List ℕ → Type 0
HasNoFeed bytes = AllByRecursion (λ c. (c == 10) ≡ false) bytes

pub no_feed-append : (xs ys : List ℕ) → HasNoFeed xs → HasNoFeed ys → HasNoFeed (xs ++ ys)
no_feed-append [] ys h k = k
no_feed-append (x ∷ xs) ys h k = (h.0, no_feed-append xs ys h.1 k)

is_false : (b : Bool) → not b ≡ true → b ≡ false
is_false true h = absurd (false≢true h)
is_false false h = refl

by_test : (word : List ℕ) → list_all (λ c. not (c == 10)) word ≡ true → HasNoFeed word
by_test [] h = tt
by_test (c ∷ cs) h =
    let both = and_parts (not (c == 10)) (list_all (λ c. not (c == 10)) cs) h in (is_false (c == 10) both.0, by_test cs both.1)

second_false : (a b : Bool) → (a || b) ≡ false → b ≡ false
second_false true b h = absurd (false≢true (sym h))
second_false false b h = h

word_free : (word : List ℕ) → IsWord word → HasNoFeed word
word_free [] h = tt
word_free (c ∷ cs) h = (second_false (c == 32) (c == 10) h.0, word_free cs h.1)

decimal_free : (n : ℕ) → n < 10 ^ 64 → HasNoFeed (decimal n)
decimal_free n small = word_free (decimal n) (decimal_word n small)

signed_free : (z : ℤ) → nat_abs z < 10 ^ 64 → HasNoFeed (signed_decimal z)
signed_free (pos n) small = decimal_free n small
signed_free (negsuc n) small = (refl, decimal_free (suc n) small)

-- a line's bytes in front of its line feed
pub record HasBody (line : List ℕ) : Type 0 where
  pub body : List ℕ
  pub is : line ≡ with_feed body
  pub free : HasNoFeed body

words_body : (words : List (List ℕ)) → AllByRecursion HasNoFeed words → HasBody (text.line words)
words_body [] h = record { body = []; is = refl; free = tt }
words_body (w ∷ []) h = record { body = w; is = refl; free = h.0 }
words_body (w ∷ x ∷ ws) h =
    let later = words_body (x ∷ ws) h.1 in
    record {
      body = w ++ 32 ∷ later.body;
      is = ap (λ (xs : List ℕ). w ++ 32 ∷ xs) later.is ∙ sym (append_assoc w (32 ∷ later.body) (10 ∷ []));
      free = no_feed-append w (32 ∷ later.body) h.0 (refl, later.free);
    }

behind_spaces : (line : List ℕ) → HasBody line → HasBody (32 ∷ 32 ∷ line)
behind_spaces line b = record { body = 32 ∷ 32 ∷ b.body; is = ap (λ (xs : List ℕ). 32 ∷ 32 ∷ xs) b.is; free = (refl, (refl, b.free)) }

name_free : (n : ℕ) → n < 2 ^ 32 → HasNoFeed (decimal n)
name_free n lt = decimal_free n (omega arith)

coordinate_small : (z : ℤ) → on_grid z ≡ true → nat_abs z < 10 ^ 64
coordinate_small z grid = let small = grid_small z grid in omega arith

point_free : (p : Point) → IsOnGrid p → HasNoFeed (signed_decimal p.x) × HasNoFeed (signed_decimal p.y) × HasNoFeed (signed_decimal p.z)
point_free p h =
    (signed_free p.x (coordinate_small p.x h.0), signed_free p.y (coordinate_small p.y h.1), signed_free p.z (coordinate_small p.z h.2))

cost_free : (z : ℤ) → is_cost z ≡ true → HasNoFeed (signed_decimal z)
unfolding is_cost
cost_free z h = let le = leb-true _ _ h in signed_free z (omega arith)

bound_free : (z : ℤ) → is_bound z ≡ true → HasNoFeed (signed_decimal z)
unfolding is_bound
bound_free z h =
    let le : nat_abs z ≤ MOST_COST = leb-true (nat_abs z) MOST_COST (and_parts (int_le (pos 0) z) (leb (nat_abs z) MOST_COST) h).1 in
    signed_free z (omega arith)

edit_body : (e : Edit) → IsEdit e → HasBody (edit_line e)
unfolding is_edit
edit_body (Move v to) h =
    let p = point_free to h.0.1 in
    words_body (codes "move" ∷ decimal v ∷ signed_decimal to.x ∷ signed_decimal to.y ∷ signed_decimal to.z ∷ [])
    (by_test (codes "move") refl, (name_free v h.0.0, (p.0, (p.1, (p.2, tt)))))
edit_body (Collapse u v max) h =
    words_body (codes "collapse" ∷ decimal u ∷ decimal v ∷ signed_decimal max ∷ [])
    (by_test (codes "collapse") refl, (name_free u h.0.0, (name_free v h.0.1, (bound_free max h.1, tt))))
edit_body (Flip a b) h = words_body (codes "flip" ∷ decimal a ∷ decimal b ∷ []) (by_test (codes "flip") refl, (name_free a h.0.0, (name_free b h.0.1, tt)))
edit_body (Simplify max target) h =
    words_body (codes "simplify" ∷ signed_decimal max ∷ decimal target ∷ [])
    (by_test (codes "simplify") refl, (bound_free max (and_parts (is_bound max) (leb target MOST_ITEMS) h.1).0, (name_free target h.0, tt)))

reply_body : (r : Reply) → IsShort r → HasBody (reply_text r)
unfolding reply_text first_of_lines is_reply
reply_body (Unheld v) h = words_body (codes "unheld" ∷ decimal v ∷ []) (by_test (codes "unheld") refl, (name_free v h.fits, tt))
reply_body (Frozen v) h = words_body (codes "frozen" ∷ decimal v ∷ []) (by_test (codes "frozen") refl, (name_free v h.fits, tt))
reply_body (Link v) h = words_body (codes "link" ∷ decimal v ∷ []) (by_test (codes "link") refl, (name_free v h.fits, tt))
reply_body Same h = words_body (codes "same" ∷ []) (by_test (codes "same") refl, tt)
reply_body Apart h = words_body (codes "apart" ∷ []) (by_test (codes "apart") refl, tt)
reply_body Border h = words_body (codes "border" ∷ []) (by_test (codes "border") refl, tt)
reply_body Closed h = words_body (codes "closed" ∷ []) (by_test (codes "closed") refl, tt)
reply_body Outside h = words_body (codes "outside" ∷ []) (by_test (codes "outside") refl, tt)
reply_body Done h = words_body (codes "done" ∷ []) (by_test (codes "done") refl, tt)
reply_body (Folds t) h =
    words_body (codes "folds" ∷ decimal t.a ∷ decimal t.b ∷ decimal t.c ∷ [])
    (by_test (codes "folds") refl, (name_free t.a h.fits.0, (name_free t.b h.fits.1, (name_free t.c h.fits.2, tt))))
reply_body (Edge c d) h = words_body (codes "edge" ∷ decimal c ∷ decimal d ∷ []) (by_test (codes "edge") refl, (name_free c h.fits.0, (name_free d h.fits.1, tt)))
reply_body (Dear z) h = words_body (codes "dear" ∷ signed_decimal z ∷ []) (by_test (codes "dear") refl, (cost_free z h.rule, tt))
reply_body (DoneAt z) h = words_body (codes "done" ∷ signed_decimal z ∷ []) (by_test (codes "done") refl, (cost_free z h.rule, tt))
reply_body (Simplified steps left) h = absurd h.one_line

wide_free : (h : EntryHead) → AllByRecursion HasNoFeed (wide_word (begun h))
wide_free h = by h.wide refl where
  by : (w : Bool) → h.wide ≡ w → AllByRecursion HasNoFeed (cond w (codes "wide" ∷ []) [])
  by true is = (by_test (codes "wide") refl, tt)
  by false is = tt

head_body : (h : EntryHead) → IsHead h → HasBody (head_line h.number (begun h))
head_body h r =
    let low = point_free h.low r.low in
    let high = point_free h.high r.high in
    let lane = r.lane in
    words_body (codes "commit" ∷ decimal h.number ∷ codes "lane" ∷ decimal h.lane ∷ codes "number" ∷ decimal h.task ∷ codes "box"
    ∷ signed_decimal h.low.x ∷ signed_decimal h.low.y ∷ signed_decimal h.low.z ∷ signed_decimal h.high.x ∷ signed_decimal h.high.y
    ∷ signed_decimal h.high.z ∷ wide_word (begun h)) (
      by_test (codes "commit") refl,
      (
        name_free h.number r.number,
        (
          by_test (codes "lane") refl,
          (
            decimal_free h.lane (omega arith),
            (
              by_test (codes "number") refl,
              (
                name_free h.task r.task,
                (
                  by_test (codes "box") refl,
                  (low.0, (low.1, (low.2, (high.0, (high.1, (high.2, wide_free h)))))),
                ),
              ),
            ),
          ),
        ),
      ),
    )

line_body : (l : JournalLine) → IsLine l → HasBody (line_text l)
unfolding line_text
line_body (HeadLine h) r = head_body h r
line_body (EditLine e) h = edit_body e h
line_body (ReplyLine r) h = behind_spaces (reply_text r) (reply_body r h)
line_body (StepLine s) h =
    behind_spaces (step_line s)
    (words_body (codes "collapse" ∷ decimal s.u ∷ decimal s.v ∷ signed_decimal s.cost ∷ [])
    (by_test (codes "collapse") refl, (name_free s.u h.0.0, (name_free s.v h.0.1, (cost_free s.cost h.1, tt)))))
line_body (LeftLine n) h =
    behind_spaces (left_line n) (words_body (codes "simplified" ∷ decimal n ∷ []) (by_test (codes "simplified") refl, (name_free n h, tt)))

-- ---- lines one behind another

-- the draft after lines, which these bytes are in front of their line feeds
abbrev pub ran : Draft → List (List ℕ) → Option Draft
ran d [] = Some d
ran d (b ∷ bs) = option_and_then (λ later. ran later bs) (after_bytes d (with_feed b))

pub ran-append : (d m : Draft) (bs cs : List (List ℕ)) → ran d bs ≡ Some m → ran d (bs ++ cs) ≡ ran m cs
ran-append d m [] cs e = ap (λ (o : Option Draft). option_and_then (λ x. ran x cs) o) e
ran-append d m (b ∷ bs) cs e = by (after_bytes d (with_feed b)) (λ x. ran-append x m bs cs) e where
  by : (o : Option Draft) → ((x : Draft) → ran x bs ≡ Some m → ran x (bs ++ cs) ≡ ran m cs)
      → option_and_then (λ x. ran x bs) o ≡ Some m → option_and_then (λ x. ran x (bs ++ cs)) o ≡ ran m cs
  by None more e = absurd cc
  by (Some x) more e = more x e

-- lines lead from a draft to another
pub record Reaches (d later : Draft) : Type 0 where
  pub bodies : List (List ℕ)
  pub free : AllByRecursion HasNoFeed bodies
  pub run : ran d bodies ≡ Some later
  pub text : draft_text later ≡ draft_text d ++ flat_map with_feed bodies
  pub draft : IsDraft later

pub stays : (d : Draft) → IsDraft d → Reaches d d
stays d draft = record { bodies = []; free = tt; run = refl; text = sym (append-nil (draft_text d)); draft = draft }

all_both : {A : Type 0} (P : A → Type 0) (xs ys : List A) → AllByRecursion P xs → AllByRecursion P ys → AllByRecursion P (xs ++ ys)
all_both P [] ys h k = k
all_both P (x ∷ xs) ys h k = (h.0, all_both P xs ys h.1 k)

pub then : (d m later : Draft) → Reaches d m → Reaches m later → Reaches d later
then d m later a b = record {
  bodies = a.bodies ++ b.bodies;
  free = all_both HasNoFeed a.bodies b.bodies a.free b.free;
  run = ran-append d m a.bodies b.bodies a.run ∙ b.run;
  text = b.text ∙ ap (λ (xs : List ℕ). xs ++ flat_map with_feed b.bodies) a.text
      ∙ append_assoc (draft_text d) (flat_map with_feed a.bodies) (flat_map with_feed b.bodies)
      ∙ ap (λ (xs : List ℕ). draft_text d ++ xs) (sym (flat_map-append with_feed a.bodies b.bodies));
  draft = b.draft;
}

-- one line
pub by_line : (d : Draft) (l : JournalLine) (later : Draft) → IsDraft d → IsLine l → after d l ≡ Some later → Reaches d later
unfolding after_bytes
by_line d l later draft line e =
    let b = line_body l line in
    let g = goes d l later draft line e in
    let read : line_of (with_feed b.body) ≡ Some l = subst (λ (xs : List ℕ). line_of xs ≡ Some l) b.is (line_of-text l line) in
    record {
      bodies = b.body ∷ [];
      free = (b.free, tt);
      run = ap (λ (o : Option JournalLine). option_and_then (λ x. Some x) (option_and_then (after d) o)) read
          ∙ ap (λ (o : Option Draft). option_and_then (λ x. Some x) o) e;
      text = g.text ∙ ap (λ (xs : List ℕ). draft_text d ++ xs) (b.is ∙ sym (append-nil (with_feed b.body)));
      draft = g.draft;
    }

-- what one line says that was read
pub record Adds (d : Draft) (b : List ℕ) (later : Draft) : Type 0 where
  pub text : draft_text later ≡ draft_text d ++ with_feed b
  pub draft : IsDraft later

pub by_bytes : (d : Draft) (b : List ℕ) (later : Draft) → IsDraft d → IsBytes (with_feed b)
    → after_bytes d (with_feed b) ≡ Some later → Adds d b later
unfolding after_bytes
by_bytes d b later draft fits e = by (line_of (with_feed b)) refl e where
  by : (o : Option JournalLine) → line_of (with_feed b) ≡ o → option_and_then (after d) o ≡ Some later → Adds d b later
  by None is e = absurd cc
  by (Some l) is e =
      let read = line_of-found (with_feed b) l fits is in
      let g = goes d l later draft read.1 e in
      record { text = g.text ∙ ap (λ (xs : List ℕ). draft_text d ++ xs) (sym read.0); draft = g.draft }

-- ---- the lines of an entry

abbrev pub at : ℕ → List Entry → Entry → Option Asked → Draft
at first earlier o asked = record { first = first; entries = earlier; last = Some (record { entry = o; asked = asked }) }

abbrev waiting : Edit → List Step → Option Asked
waiting e ss = Some (record { edit = e; steps = ss })

inside_step : (first : ℕ) (es : List Entry) (o : Entry) (a : Option Asked) (l : JournalLine) (q : LastEntry) → within o a l ≡ Some q
    → after_within (at first es o a) (Some (record { entry = o; asked = a })) l ≡ Some (record { first = first; entries = es; last = Some q })
inside_step first es o a l q e =
    ap (λ (r : Option LastEntry). option_map (λ x. record { first = first; entries = es; last = Some x }) r) e

-- the line that begins an entry
abbrev pub head_of : ℕ → Entry → EntryHead
head_of n e = record { number = n; lane = e.task.lane; task = e.task.number; low = e.task.low; high = e.task.high; wide = e.wide }

pub head_is_head : (n : ℕ) (e : Entry) → n < 2 ^ 32 → IsTold e → IsHead (head_of n e)
head_is_head n e lt told = record { number = lt; lane = told.lane; task = told.number; low = told.low; high = told.high; box = told.box }

module _ (first : ℕ) (es : List Entry) where
  reach_steps : (o : Entry) (e : Edit) (before ss : List Step) → is_simplify e ≡ true → AllByRecursion IsStep ss
      → length before + length ss ≤ MOST_STEPS → IsDraft (at first es o (waiting e before))
      → Reaches (at first es o (waiting e before)) (at first es o (waiting e (before ++ ss)))
  unfolding after
  reach_steps o e before [] simple all few draft =
      subst (λ (xs : List Step). Reaches (at first es o (waiting e before)) (at first es o (waiting e xs))) (sym (append-nil before))
      (stays (at first es o (waiting e before)) draft)
  reach_steps o e before (s ∷ ss) simple all few draft =
      let short = lt-ltb (length before) MOST_STEPS (omega arith) in
      let long = length-append before (s ∷ []) in
      let goes_on : within o (waiting e before) (StepLine s) ≡ Some (record { entry = o; asked = waiting e (before ++ s ∷ []) }) = rw (simple, short) refl in
      let one =
      by_line (at first es o (waiting e before)) (StepLine s) (at first es o (waiting e (before ++ s ∷ []))) draft all.0
      (inside_step first es o (waiting e before) (StepLine s) (record { entry = o; asked = waiting e (before ++ s ∷ []) }) goes_on) in
      subst (λ (xs : List Step). Reaches (at first es o (waiting e before)) (at first es o (waiting e xs))) (append_assoc before (s ∷ []) ss)
      (then (at first es o (waiting e before)) (at first es o (waiting e (before ++ s ∷ []))) (at first es o (waiting e ((before ++ s ∷ []) ++ ss)))
      one (reach_steps o e (before ++ s ∷ []) ss simple all.1 (omega arith) one.draft))

  -- a reply is one line, or it has steps
  one_or_steps : (r : Reply) → IsOneLine r ⊎ ((ss : List Step) × (n : ℕ) × (r ≡ Simplified ss n))
  one_or_steps (Unheld v) = inl tt
  one_or_steps (Frozen v) = inl tt
  one_or_steps (Link v) = inl tt
  one_or_steps Same = inl tt
  one_or_steps Apart = inl tt
  one_or_steps Border = inl tt
  one_or_steps Closed = inl tt
  one_or_steps Outside = inl tt
  one_or_steps Done = inl tt
  one_or_steps (Folds t) = inl tt
  one_or_steps (Edge c d) = inl tt
  one_or_steps (Dear z) = inl tt
  one_or_steps (DoneAt z) = inl tt
  one_or_steps (Simplified ss n) = inr (ss, n, refl)

  only_simplify : (e : Edit) (ss : List Step) (n : ℕ) → may_answer e (Simplified ss n) ≡ true → is_simplify e ≡ true
  unfolding may_answer
  only_simplify (Move v to) ss n h = absurd (false≢true h)
  only_simplify (Collapse u v max) ss n h = absurd (false≢true h)
  only_simplify (Flip a b) ss n h = absurd (false≢true h)
  only_simplify (Simplify max target) ss n h = refl

  are_steps : (ss : List Step) → AllByRecursion StepFits ss → list_all is_step ss ≡ true → AllByRecursion IsStep ss
  are_steps [] fits rule = tt
  are_steps (s ∷ ss) fits rule =
      let both = and_parts (is_step s) (list_all is_step ss) rule in ((fits.0, both.0), are_steps ss fits.1 both.1)

  reach_simplified : (o : Entry) (e : Edit) (ss : List Step) (n : ℕ) → IsReplyTo e (Simplified ss n) → IsDraft (at first es o (waiting e []))
      → Reaches (at first es o (waiting e [])) (at first es (answered o e (Simplified ss n)) None)
  unfolding after is_reply
  reach_simplified o e ss n reply draft =
      let simple = only_simplify e ss n reply.1 in
      let rule = and_parts _ _ reply.2 in
      let all = are_steps ss reply.0.0 rule.1 in
      let few = leb-true _ _ rule.0 in
      let steps = reach_steps o e [] ss simple all (omega arith) draft in
      let goes_on : within o (waiting e ss) (LeftLine n) ≡ Some (record { entry = answered o e (Simplified ss n); asked = None }) = rw simple refl in
      then (at first es o (waiting e [])) (at first es o (waiting e ss)) (at first es (answered o e (Simplified ss n)) None) steps
      (by_line (at first es o (waiting e ss)) (LeftLine n) (at first es (answered o e (Simplified ss n)) None) steps.draft reply.0.1
      (inside_step first es o (waiting e ss) (LeftLine n) (record { entry = answered o e (Simplified ss n); asked = None }) goes_on))

  pub reach_reply : (o : Entry) (e : Edit) (r : Reply) → IsReplyTo e r → IsDraft (at first es o (waiting e []))
      → Reaches (at first es o (waiting e [])) (at first es (answered o e r) None)
  unfolding after
  reach_reply o e r reply draft = by (one_or_steps r) where
    by : IsOneLine r ⊎ ((ss : List Step) × (n : ℕ) × (r ≡ Simplified ss n)) → Reaches (at first es o (waiting e [])) (at first es (answered o e r) None)
    by (inl one) =
        let goes_on : within o (waiting e []) (ReplyLine r) ≡ Some (record { entry = answered o e r; asked = None }) = rw reply.1 refl in
        by_line (at first es o (waiting e [])) (ReplyLine r) (at first es (answered o e r) None) draft
        (record { fits = reply.0; rule = reply.2; one_line = one })
        (inside_step first es o (waiting e []) (ReplyLine r) (record { entry = answered o e r; asked = None }) goes_on)
    by (inr (ss, n, is)) =
        subst (λ (q : Reply). Reaches (at first es o (waiting e [])) (at first es (answered o e q) None)) (sym is)
        (reach_simplified o e ss n (subst (IsReplyTo e) is reply) draft)

  -- the entry with more edits and their replies
  more : Entry → List Edit → List Reply → Entry
  more o xs rs = record o { task = record o.task { edits = o.task.edits ++ xs }; replies = o.replies ++ rs }

  reach_edits : (o : Entry) (xs : List Edit) (rs : List Reply) → o.wide ≡ false → AreAnswered xs rs
      → length o.task.edits + length xs ≤ MOST_EDITS → IsDraft (at first es o None)
      → Reaches (at first es o None) (at first es (more o xs rs) None)
  unfolding after more
  reach_edits o [] [] narrow h few draft =
      let same : o ≡ more o [] [] = λ i. record o { task = record o.task { edits = sym (append-nil o.task.edits) i }; replies = sym (append-nil o.replies) i } in
      subst (λ (q : Entry). Reaches (at first es o None) (at first es q None)) same (stays (at first es o None) draft)
  reach_edits o [] (r ∷ rs) narrow h few draft = absurd h
  reach_edits o (x ∷ xs) [] narrow h few draft = absurd h
  reach_edits o (x ∷ xs) (r ∷ rs) narrow h few draft =
      let short = lt-ltb (length o.task.edits) MOST_EDITS (omega arith) in
      let long = length-append o.task.edits (x ∷ []) in
      let goes_on : within o None (EditLine x) ≡ Some (record { entry = o; asked = waiting x [] }) = rw (short, narrow) refl in
      let edit =
      by_line (at first es o None) (EditLine x) (at first es o (waiting x [])) draft h.0.0
      (inside_step first es o None (EditLine x) (record { entry = o; asked = waiting x [] }) goes_on) in
      let reply = reach_reply o x r h.0.1 edit.draft in
      let o' = answered o x r in
      let later = reach_edits o' xs rs narrow h.1 (omega arith) reply.draft in
      let same : more o' xs rs ≡ more o (x ∷ xs) (r ∷ rs) = λ i. record o {
        task = record o.task { edits = append_assoc o.task.edits (x ∷ []) xs i };
        replies = append_assoc o.replies (r ∷ []) rs i;
      } in
      subst (λ (q : Entry). Reaches (at first es o None) (at first es q None)) same
      (then (at first es o None) (at first es o (waiting x [])) (at first es (more o' xs rs) None) edit
      (then (at first es o (waiting x [])) (at first es o' None) (at first es (more o' xs rs) None) reply later))

  -- the entry with more edits, which is wide
  more_asked : Entry → List Edit → Entry
  more_asked o xs = record o { task = record o.task { edits = o.task.edits ++ xs } }

  reach_wide : (o : Entry) (xs : List Edit) → o.wide ≡ true → AllByRecursion IsEdit xs
      → length o.task.edits + length xs ≤ MOST_EDITS → IsDraft (at first es o None)
      → Reaches (at first es o None) (at first es (more_asked o xs) None)
  unfolding after more_asked
  reach_wide o [] wide h few draft =
      let same : o ≡ more_asked o [] = λ i. record o { task = record o.task { edits = sym (append-nil o.task.edits) i } } in
      subst (λ (q : Entry). Reaches (at first es o None) (at first es q None)) same (stays (at first es o None) draft)
  reach_wide o (x ∷ xs) wide h few draft =
      let short = lt-ltb (length o.task.edits) MOST_EDITS (omega arith) in
      let long = length-append o.task.edits (x ∷ []) in
      let o' = asked_too o x in
      let goes_on : within o None (EditLine x) ≡ Some (record { entry = o'; asked = None }) = rw (short, wide) refl in
      let edit =
      by_line (at first es o None) (EditLine x) (at first es o' None) draft h.0
      (inside_step first es o None (EditLine x) (record { entry = o'; asked = None }) goes_on) in
      let later = reach_wide o' xs wide h.1 (omega arith) edit.draft in
      let same : more_asked o' xs ≡ more_asked o (x ∷ xs) = λ i. record o { task = record o.task { edits = append_assoc o.task.edits (x ∷ []) xs i } } in
      subst (λ (q : Entry). Reaches (at first es o None) (at first es q None)) same
      (then (at first es o None) (at first es o' None) (at first es (more_asked o' xs) None) edit later)

  pub reach_entry : (n : ℕ) (e : Entry) → IsTold e → IsDraft (at first es (begun (head_of n e)) None)
      → Reaches (at first es (begun (head_of n e)) None) (at first es e None)
  unfolding more more_asked
  reach_entry n e told draft = by e.wide refl where
    by : (w : Bool) → e.wide ≡ w → Reaches (at first es (begun (head_of n e)) None) (at first es e None)
    by true wide =
        let all = wide_edits e.wide e.task.edits e.replies wide told.edits in
        let few = told.few in
        let same : more_asked (begun (head_of n e)) e.task.edits ≡ e = λ i. record e { replies = sym all.1 i; core = sym told.core i } in
        subst (λ (q : Entry). Reaches (at first es (begun (head_of n e)) None) (at first es q None)) same
        (reach_wide (begun (head_of n e)) e.task.edits wide all.0 (omega arith) draft)
    by false narrow =
        let all = narrow_edits e.wide e.task.edits e.replies narrow told.edits in
        let few = told.few in
        let same : more (begun (head_of n e)) e.task.edits e.replies ≡ e = λ i. record e { core = sym told.core i } in
        subst (λ (q : Entry). Reaches (at first es (begun (head_of n e)) None) (at first es q None)) same
        (reach_edits (begun (head_of n e)) e.task.edits e.replies narrow all (omega arith) draft)
