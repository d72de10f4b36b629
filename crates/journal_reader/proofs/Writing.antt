-- The text of a draft, and what one more line adds to it.
use Rattle.std.proofs.Common.{◌≡◌, ℕ, suc, ◌+◌, ◌^◌, ◌<◌, ◌≤◌, Bool, true, false, cond, ◌&&◌, eqb, ltb, List, [], ◌∷◌, ◌++◌, length, map, Option, Some, None, refl, sym, ap, subst, ◌∙◌, append_assoc, append-nil, arith, length-append}
use Rattle.std.proofs.lemmas.Bool.{and_from, and_parts, eqb-true, false≢true, le-leb, ltb-true}
use Rattle.std.proofs.lemmas.Grind.{flat_map-append}
use Rattle.std.specs.List.{AllByRecursion, list_all}
use Rattle.std.specs.Option.{option_map}
use Rattle.oemm_limits.specs.declared.TheConstants.{MOST_EDITS}
use Rattle.mesh_data.specs.declared.edits.Edit.{Edit}
use Rattle.mesh_data.specs.declared.edits.Edit.TheVariants.{Move, Collapse, Flip, Simplify}
use Rattle.mesh_data.specs.declared.edits.Entry.{Entry}
use Rattle.mesh_data.specs.declared.edits.Reply.{Reply}
use Rattle.mesh_data.specs.declared.edits.Reply.TheVariants.{Unheld, Frozen, Same, Apart, Border, Link, Closed, Folds, Dear, Edge, Outside, Done, DoneAt, Simplified}
use Rattle.mesh_data.specs.declared.edits.Step.{Step}
use Rattle.leaf_codec.specs.Replies.{is_cost, is_reply, is_step, may_answer}
use Rattle.commit_journal.specs.Text.{answered_edit, answered_edits, edit_line, entry_text, head_line, indented, journal_text, reply_lines, step_line}
use Rattle.journal_reader.specs.declared.draft.TheConstants.{MOST_STEPS}
use Rattle.journal_reader.specs.declared.draft.Asked.{Asked}
use Rattle.journal_reader.specs.declared.draft.LastEntry.{LastEntry}
use Rattle.journal_reader.specs.declared.draft.Draft.{Draft}
use Rattle.journal_reader.specs.declared.lines.EntryHead.{EntryHead}
use Rattle.journal_reader.specs.declared.lines.JournalLine.{JournalLine}
use Rattle.journal_reader.specs.declared.lines.JournalLine.TheVariants.{HeadLine, EditLine, ReplyLine, StepLine, LeftLine}
use Rattle.journal_reader.specs.Drafts.{after, after_asked, after_head, after_told, after_within, answered, asked_too, begun, is_simplify, next_entry, opened, within}
use Rattle.journal_reader.specs.Journal.{AreAnswered, HasEdits, IsEdit, IsReplyTo, IsTold, StepFits}
use Rattle.journal_reader.proofs.LineSpells.{IsHead, IsLine, IsOneLine, IsShort, first_of_lines, left_line, line_text, reply_text}

-- ---- texts

-- the text of an edit that waits, with its steps
abbrev pub asked_text : Option Asked → List ℕ
asked_text None = []
asked_text (Some a) = edit_line a.edit ++ indented (map step_line a.steps)

abbrev pub last_entries : Option LastEntry → List Entry
last_entries None = []
last_entries (Some o) = o.entry ∷ []

abbrev pub waiting_text : Option LastEntry → List ℕ
waiting_text None = []
waiting_text (Some o) = asked_text o.asked

-- the lines so far
abbrev pub draft_text : Draft → List ℕ
draft_text d = journal_text d.first (d.entries ++ last_entries d.last) ++ waiting_text d.last

-- one more entry
pub journal_text-push : (first : ℕ) (es : List Entry) (e : Entry)
    → journal_text first (es ++ e ∷ []) ≡ journal_text first es ++ entry_text (first + length es) e
journal_text-push first [] e = append-nil (entry_text first e) ∙ ap (λ (n : ℕ). entry_text n e) (omega arith)
journal_text-push first (x ∷ es) e =
    let n : (first + 1) + length es ≡ first + suc (length es) = omega arith in
    ap (λ (xs : List ℕ). entry_text first x ++ xs)
    (journal_text-push (first + 1) es e ∙ ap (λ (k : ℕ). journal_text (first + 1) es ++ entry_text k e) n)
    ∙ sym (append_assoc (entry_text first x) (journal_text (first + 1) es) (entry_text (first + suc (length es)) e))

-- one more edit without a reply
alone_push : (es : List Edit) (e : Edit) → answered_edits (es ++ e ∷ []) [] ≡ answered_edits es [] ++ edit_line e
alone_push [] e = append-nil (edit_line e)
alone_push (x ∷ es) e =
    ap (λ (xs : List ℕ). edit_line x ++ xs) (alone_push es e) ∙ sym (append_assoc (edit_line x) (answered_edits es []) (edit_line e))

-- one more edit with its reply
answered_push : (es : List Edit) (rs : List Reply) (e : Edit) (r : Reply) → AreAnswered es rs
    → answered_edits (es ++ e ∷ []) (rs ++ r ∷ []) ≡ answered_edits es rs ++ (edit_line e ++ indented (reply_lines r))
answered_push [] [] e r h = append-nil (edit_line e ++ indented (reply_lines r))
answered_push [] (q ∷ rs) e r h = absurd h
answered_push (x ∷ es) [] e r h = absurd h
answered_push (x ∷ es) (q ∷ rs) e r h =
    ap (λ (xs : List ℕ). answered_edit x (Some q) ++ xs) (answered_push es rs e r h.1)
    ∙ sym (append_assoc (answered_edit x (Some q)) (answered_edits es rs) (edit_line e ++ indented (reply_lines r)))

-- the entry with one more edit, which has no reply as the entry is wide
wide_text : (n : ℕ) (o : Entry) (e : Edit) → o.wide ≡ true → entry_text n (asked_too o e) ≡ entry_text n o ++ edit_line e
wide_text n o e wide =
    ap (λ (b : Bool). head_line n o ++ answered_edits (o.task.edits ++ e ∷ []) (cond b [] o.replies)) wide
    ∙ ap (λ (xs : List ℕ). head_line n o ++ xs) (alone_push o.task.edits e)
    ∙ sym (append_assoc (head_line n o) (answered_edits o.task.edits []) (edit_line e))
    ∙ ap (λ (b : Bool). (head_line n o ++ answered_edits o.task.edits (cond b [] o.replies)) ++ edit_line e) (sym wide)

-- the entry with one more edit and its reply
answered_text : (n : ℕ) (o : Entry) (e : Edit) (r : Reply) → o.wide ≡ false → AreAnswered o.task.edits o.replies
    → entry_text n (answered o e r) ≡ entry_text n o ++ (edit_line e ++ indented (reply_lines r))
answered_text n o e r wide h =
    let more = edit_line e ++ indented (reply_lines r) in
    ap (λ (b : Bool). head_line n o ++ answered_edits (o.task.edits ++ e ∷ []) (cond b [] (o.replies ++ r ∷ []))) wide
    ∙ ap (λ (xs : List ℕ). head_line n o ++ xs) (answered_push o.task.edits o.replies e r h)
    ∙ sym (append_assoc (head_line n o) (answered_edits o.task.edits o.replies) more)
    ∙ ap (λ (b : Bool). (head_line n o ++ answered_edits o.task.edits (cond b [] o.replies)) ++ more) (sym wide)

-- behind other lines one more
pub indented_push : (lines : List (List ℕ)) (last : List ℕ) → indented (lines ++ last ∷ []) ≡ indented lines ++ 32 ∷ 32 ∷ last
indented_push lines last =
    flat_map-append (λ (l : List ℕ). 32 ∷ 32 ∷ l) lines (last ∷ [])
    ∙ ap (λ (more : List ℕ). indented lines ++ 32 ∷ 32 ∷ more) (append-nil last)

steps_push : (ss : List Step) (s : Step) → indented (map step_line (ss ++ s ∷ [])) ≡ indented (map step_line ss) ++ 32 ∷ 32 ∷ step_line s
steps_push [] s = ap (λ (xs : List ℕ). 32 ∷ 32 ∷ xs) (append-nil (step_line s))
steps_push (x ∷ ss) s =
    ap (λ (xs : List ℕ). (32 ∷ 32 ∷ step_line x) ++ xs) (steps_push ss s)
    ∙ sym (append_assoc (32 ∷ 32 ∷ step_line x) (indented (map step_line ss)) (32 ∷ 32 ∷ step_line s))

-- the lines of a reply that is one
pub short_lines : (r : Reply) → IsOneLine r → indented (reply_lines r) ≡ 32 ∷ 32 ∷ reply_text r
unfolding reply_text first_of_lines
short_lines (Unheld v) h = ap (λ (xs : List ℕ). 32 ∷ 32 ∷ xs) (append-nil (reply_text (Unheld v)))
short_lines (Frozen v) h = ap (λ (xs : List ℕ). 32 ∷ 32 ∷ xs) (append-nil (reply_text (Frozen v)))
short_lines (Link v) h = ap (λ (xs : List ℕ). 32 ∷ 32 ∷ xs) (append-nil (reply_text (Link v)))
short_lines Same h = refl
short_lines Apart h = refl
short_lines Border h = refl
short_lines Closed h = refl
short_lines Outside h = refl
short_lines Done h = refl
short_lines (Folds t) h = ap (λ (xs : List ℕ). 32 ∷ 32 ∷ xs) (append-nil (reply_text (Folds t)))
short_lines (Edge c d) h = ap (λ (xs : List ℕ). 32 ∷ 32 ∷ xs) (append-nil (reply_text (Edge c d)))
short_lines (Dear z) h = ap (λ (xs : List ℕ). 32 ∷ 32 ∷ xs) (append-nil (reply_text (Dear z)))
short_lines (DoneAt z) h = ap (λ (xs : List ℕ). 32 ∷ 32 ∷ xs) (append-nil (reply_text (DoneAt z)))
short_lines (Simplified steps left) h = absurd h

-- ---- drafts as lines leave them

abbrev pub IsStep : Step → Type 0
IsStep s = StepFits s × (is_cost s.cost ≡ true)

-- an edit that waits for its reply
pub record IsAsked (o : Entry) (a : Asked) : Type 0 where
  pub narrow : o.wide ≡ false
  pub few : length o.task.edits < MOST_EDITS
  pub edit : IsEdit a.edit
  pub steps : AllByRecursion IsStep a.steps
  pub few_steps : length a.steps ≤ MOST_STEPS
  pub none : is_simplify a.edit ≡ false → a.steps ≡ []

abbrev pub MayWait : Entry → Option Asked → Type 0
MayWait o None = Unit {0}
MayWait o (Some a) = IsAsked o a

pub record IsLast (first : ℕ) (earlier : List Entry) (o : LastEntry) : Type 0 where
  pub numbers : first + length earlier + 1 ≤ 2 ^ 32
  pub each : AllByRecursion IsTold earlier
  pub told : IsTold o.entry
  pub waits : MayWait o.entry o.asked

abbrev pub HasLast : ℕ → List Entry → Option LastEntry → Type 0
HasLast first earlier None = earlier ≡ []
HasLast first earlier (Some o) = IsLast first earlier o

abbrev pub IsDraft : Draft → Type 0
IsDraft d = HasLast d.first d.entries d.last

-- what a line makes of a draft
pub record Goes (d : Draft) (l : JournalLine) (later : Draft) : Type 0 where
  pub draft : IsDraft later
  pub text : draft_text later ≡ draft_text d ++ line_text l

-- ---- one more line

pub all_push : {A : Type 0} (P : A → Type 0) (xs : List A) (x : A) → AllByRecursion P xs → P x → AllByRecursion P (xs ++ x ∷ [])
all_push P [] x all here = (here, tt)
all_push P (y ∷ ys) x all here = (all.0, all_push P ys x all.1 here)

are_push : (es : List Edit) (rs : List Reply) (e : Edit) (r : Reply) → AreAnswered es rs → IsEdit e → IsReplyTo e r
    → AreAnswered (es ++ e ∷ []) (rs ++ r ∷ [])
are_push [] [] e r h edit reply = ((edit, reply), tt)
are_push [] (q ∷ rs) e r h edit reply = absurd h
are_push (x ∷ es) [] e r h edit reply = absurd h
are_push (x ∷ es) (q ∷ rs) e r h edit reply = (h.0, are_push es rs e r h.1 edit reply)

pub narrow_edits : (w : Bool) (es : List Edit) (rs : List Reply) → w ≡ false → HasEdits w es rs → AreAnswered es rs
narrow_edits true es rs is h = absurd (false≢true (sym is))
narrow_edits false es rs is h = h

edits_narrow : (w : Bool) (es : List Edit) (rs : List Reply) → w ≡ false → AreAnswered es rs → HasEdits w es rs
edits_narrow true es rs is h = absurd (false≢true (sym is))
edits_narrow false es rs is h = h

begun_told : (h : EntryHead) → IsHead h → IsTold (begun h)
begun_told h r = record {
  lane = r.lane;
  number = r.task;
  low = r.low;
  high = r.high;
  box = r.box;
  few = omega arith;
  edits = none h.wide;
  core = refl;
} where
  none : (w : Bool) → HasEdits w [] []
  none true = (tt, refl)
  none false = tt

-- the text of an entry without edits
begun_text : (n : ℕ) (h : EntryHead) → entry_text n (begun h) ≡ head_line n (begun h)
begun_text n h = append-nil (head_line n (begun h))

-- the entry with the edit that waited, and its reply
answered_told : (o : Entry) (a : Asked) (r : Reply) → IsTold o → IsAsked o a → IsReplyTo a.edit r → IsTold (answered o a.edit r)
answered_told o a r told asked reply =
    let few = asked.few in
    record {
      lane = told.lane;
      number = told.number;
      low = told.low;
      high = told.high;
      box = told.box;
      few = omega (arith, length-append o.task.edits (a.edit ∷ []));
      edits = edits_narrow o.wide (o.task.edits ++ a.edit ∷ []) (o.replies ++ r ∷ []) asked.narrow
          (are_push o.task.edits o.replies a.edit r (narrow_edits o.wide o.task.edits o.replies asked.narrow told.edits) asked.edit reply);
      core = told.core;
    }

-- an answered entry is the last one
answered_goes : (first : ℕ) (es : List Entry) (o : Entry) (a : Asked) (r : Reply) (l : JournalLine)
    → IsLast first es (record { entry = o; asked = Some a }) → IsReplyTo a.edit r
    → indented (reply_lines r) ≡ indented (map step_line a.steps) ++ line_text l
    → Goes (record { first = first; entries = es; last = Some (record { entry = o; asked = Some a }) }) l
    (record { first = first; entries = es; last = Some (record { entry = answered o a.edit r; asked = None }) })
answered_goes first es o a r l last reply lines =
    let n = first + length es in
    let e = edit_line a.edit in
    let steps = indented (map step_line a.steps) in
    let answered_are = narrow_edits o.wide o.task.edits o.replies last.waits.narrow last.told.edits in
    let J = journal_text first es in
    let more : entry_text n (answered o a.edit r) ≡ entry_text n o ++ (e ++ (steps ++ line_text l)) =
    answered_text n o a.edit r last.waits.narrow answered_are ∙ ap (λ (xs : List ℕ). entry_text n o ++ (e ++ xs)) lines in
    record {
      draft = record {
        numbers = last.numbers;
        each = last.each;
        told = answered_told o a r last.told last.waits reply;
        waits = tt;
      };
      text = append-nil (journal_text first (es ++ answered o a.edit r ∷ []))
          ∙ journal_text-push first es (answered o a.edit r)
          ∙ ap (λ (xs : List ℕ). J ++ xs) more
          ∙ regroup J (entry_text n o) e steps (line_text l)
          ∙ ap (λ (xs : List ℕ). (xs ++ (e ++ steps)) ++ line_text l) (sym (journal_text-push first es o));
    } where
      regroup : (a b c d f : List ℕ) → a ++ (b ++ (c ++ (d ++ f))) ≡ ((a ++ b) ++ (c ++ d)) ++ f
      regroup a b c d f = simp append_assoc

-- what an entry becomes within it
pub record GoesWithin (first : ℕ) (es : List Entry) (o : LastEntry) (l : JournalLine) (later : LastEntry) : Type 0 where
  pub goes : Goes (record { first = first; entries = es; last = Some o }) l (record { first = first; entries = es; last = Some later })

abbrev some_is : {A : Type 0} {x y : A} → Some x ≡ Some y → x ≡ y
some_is e = cc

-- an edit of a wide entry
pub wide_edits : (w : Bool) (es : List Edit) (rs : List Reply) → w ≡ true → HasEdits w es rs → AllByRecursion IsEdit es × (rs ≡ [])
wide_edits true es rs is h = h
wide_edits false es rs is h = absurd (false≢true is)

pub edits_wide : (w : Bool) (es : List Edit) (rs : List Reply) → w ≡ true → AllByRecursion IsEdit es × (rs ≡ []) → HasEdits w es rs
edits_wide true es rs is h = h
edits_wide false es rs is h = absurd (false≢true is)

edit_goes : (first : ℕ) (es : List Entry) (o : Entry) (e : Edit) (later : LastEntry)
    → IsLast first es (record { entry = o; asked = None }) → IsEdit e → after_told o (EditLine e) ≡ Some later
    → GoesWithin first es (record { entry = o; asked = None }) (EditLine e) later
unfolding line_text
edit_goes first es o e later last edit is = few (ltb (length o.task.edits) MOST_EDITS) refl is where
  wide : (w : Bool) → o.wide ≡ w → length o.task.edits < MOST_EDITS
      → cond w (record { entry = asked_too o e; asked = None }) (record { entry = o; asked = Some (record { edit = e; steps = [] }) }) ≡ later
      → GoesWithin first es (record { entry = o; asked = None }) (EditLine e) later
  wide true w lt is =
      let told = last.told in
      let n = first + length es in
      let J = journal_text first es in
      let all = wide_edits o.wide o.task.edits o.replies w told.edits in
      subst (GoesWithin first es (record { entry = o; asked = None }) (EditLine e)) is
      (record {
        goes = record {
          draft = record {
            numbers = last.numbers;
            each = last.each;
            told = record {
              lane = told.lane;
              number = told.number;
              low = told.low;
              high = told.high;
              box = told.box;
              few = omega (arith, length-append o.task.edits (e ∷ []));
              edits = edits_wide o.wide (o.task.edits ++ e ∷ []) o.replies w (all_push IsEdit o.task.edits e all.0 edit, all.1);
              core = told.core;
            };
            waits = tt;
          };
          text = append-nil (journal_text first (es ++ asked_too o e ∷ []))
              ∙ journal_text-push first es (asked_too o e)
              ∙ ap (λ (xs : List ℕ). J ++ xs) (wide_text n o e w)
              ∙ sym (append_assoc J (entry_text n o) (edit_line e))
              ∙ ap (λ (xs : List ℕ). xs ++ edit_line e) (sym (journal_text-push first es o))
              ∙ ap (λ (xs : List ℕ). xs ++ edit_line e) (sym (append-nil (journal_text first (es ++ o ∷ []))));
        };
      })
  wide false w lt is =
      subst (GoesWithin first es (record { entry = o; asked = None }) (EditLine e)) is
      (record {
        goes = record {
          draft = record {
            numbers = last.numbers;
            each = last.each;
            told = last.told;
            waits = record { narrow = w; few = lt; edit = edit; steps = tt; few_steps = omega arith; none = λ _. refl };
          };
          text = ap (λ (xs : List ℕ). journal_text first (es ++ o ∷ []) ++ xs) (append-nil (edit_line e))
              ∙ ap (λ (xs : List ℕ). xs ++ edit_line e) (sym (append-nil (journal_text first (es ++ o ∷ []))));
        };
      })

  few : (b : Bool) → ltb (length o.task.edits) MOST_EDITS ≡ b
      → cond b (Some (cond o.wide (record { entry = asked_too o e; asked = None }) (record { entry = o; asked = Some (record { edit = e; steps = [] }) }))) None ≡ Some later
      → GoesWithin first es (record { entry = o; asked = None }) (EditLine e) later
  few true lt is = wide o.wide refl (ltb-true _ _ lt) (some_is is)
  few false lt is = absurd cc

-- no reply of one line answers a simplification
not_simplify : (e : Edit) (r : Reply) → IsOneLine r → may_answer e r ≡ true → is_simplify e ≡ false
unfolding may_answer
not_simplify (Move v to) r h may = refl
not_simplify (Collapse u v max) r h may = refl
not_simplify (Flip a b) r h may = refl
not_simplify (Simplify max target) (Unheld v) h may = absurd (false≢true may)
not_simplify (Simplify max target) (Frozen v) h may = absurd (false≢true may)
not_simplify (Simplify max target) (Link v) h may = absurd (false≢true may)
not_simplify (Simplify max target) Same h may = absurd (false≢true may)
not_simplify (Simplify max target) Apart h may = absurd (false≢true may)
not_simplify (Simplify max target) Border h may = absurd (false≢true may)
not_simplify (Simplify max target) Closed h may = absurd (false≢true may)
not_simplify (Simplify max target) Outside h may = absurd (false≢true may)
not_simplify (Simplify max target) Done h may = absurd (false≢true may)
not_simplify (Simplify max target) (Folds t) h may = absurd (false≢true may)
not_simplify (Simplify max target) (Edge c d) h may = absurd (false≢true may)
not_simplify (Simplify max target) (Dear z) h may = absurd (false≢true may)
not_simplify (Simplify max target) (DoneAt z) h may = absurd (false≢true may)
not_simplify (Simplify max target) (Simplified steps left) h may = absurd h

pub reply_goes : (first : ℕ) (es : List Entry) (o : Entry) (a : Asked) (r : Reply) (later : LastEntry)
    → IsLast first es (record { entry = o; asked = Some a }) → IsShort r → after_asked o a (ReplyLine r) ≡ Some later
    → GoesWithin first es (record { entry = o; asked = Some a }) (ReplyLine r) later
unfolding line_text
reply_goes first es o a r later last short is = may (may_answer a.edit r) refl is where
  may : (b : Bool) → may_answer a.edit r ≡ b → cond b (Some (record { entry = answered o a.edit r; asked = None })) None ≡ Some later
      → GoesWithin first es (record { entry = o; asked = Some a }) (ReplyLine r) later
  may true h is =
      let none = last.waits.none (not_simplify a.edit r short.one_line h) in
      subst (GoesWithin first es (record { entry = o; asked = Some a }) (ReplyLine r)) (some_is is)
      (record {
        goes = answered_goes first es o a r (ReplyLine r) last (short.fits, h, short.rule)
            (short_lines r short.one_line ∙ ap (λ (ss : List Step). indented (map step_line ss) ++ 32 ∷ 32 ∷ reply_text r) (sym none));
      })
  may false h is = absurd cc

step_goes : (first : ℕ) (es : List Entry) (o : Entry) (a : Asked) (s : Step) (later : LastEntry)
    → IsLast first es (record { entry = o; asked = Some a }) → IsStep s → after_asked o a (StepLine s) ≡ Some later
    → GoesWithin first es (record { entry = o; asked = Some a }) (StepLine s) later
unfolding line_text
step_goes first es o a s later last step is = may (is_simplify a.edit && ltb (length a.steps) MOST_STEPS) refl is where
  may : (b : Bool) → (is_simplify a.edit && ltb (length a.steps) MOST_STEPS) ≡ b
      → cond b (Some (record { entry = o; asked = Some (record a { steps = a.steps ++ s ∷ [] }) })) None ≡ Some later
      → GoesWithin first es (record { entry = o; asked = Some a }) (StepLine s) later
  may true h is =
      let both = and_parts (is_simplify a.edit) (ltb (length a.steps) MOST_STEPS) h in
      let lt = ltb-true (length a.steps) MOST_STEPS both.1 in
      let waits = last.waits in
      let old = journal_text first (es ++ o ∷ []) in
      subst (GoesWithin first es (record { entry = o; asked = Some a }) (StepLine s)) (some_is is)
      (record {
        goes = record {
          draft = record {
            numbers = last.numbers;
            each = last.each;
            told = last.told;
            waits = record {
              narrow = waits.narrow;
              few = waits.few;
              edit = waits.edit;
              steps = all_push IsStep a.steps s waits.steps step;
              few_steps = omega (arith, length-append a.steps (s ∷ []));
              none = λ no. absurd (false≢true (sym no ∙ both.0));
            };
          };
          text = ap (λ (xs : List ℕ). old ++ (edit_line a.edit ++ xs)) (steps_push a.steps s)
              ∙ ap (λ (xs : List ℕ). old ++ xs) (sym (append_assoc (edit_line a.edit) (indented (map step_line a.steps)) (32 ∷ 32 ∷ step_line s)))
              ∙ sym (append_assoc old (edit_line a.edit ++ indented (map step_line a.steps)) (32 ∷ 32 ∷ step_line s));
        };
      })
  may false h is = absurd cc

-- the reply of a simplification
steps_reply : (e : Edit) (ss : List Step) (n : ℕ) → is_simplify e ≡ true → AllByRecursion IsStep ss → length ss ≤ MOST_STEPS → n < 2 ^ 32
    → IsReplyTo e (Simplified ss n)
unfolding may_answer is_reply
steps_reply (Move v to) ss n is all few lt = absurd (false≢true is)
steps_reply (Collapse u v max) ss n is all few lt = absurd (false≢true is)
steps_reply (Flip a b) ss n is all few lt = absurd (false≢true is)
steps_reply (Simplify max target) ss n is all few lt = ((fits ss all, lt), refl, and_from _ _ (le-leb (length ss) MOST_STEPS few) (costs ss all)) where
  fits : (ss : List Step) → AllByRecursion IsStep ss → AllByRecursion StepFits ss
  fits [] all = tt
  fits (s ∷ ss) all = (all.0.0, fits ss all.1)

  costs : (ss : List Step) → AllByRecursion IsStep ss → list_all is_step ss ≡ true
  costs [] all = refl
  costs (s ∷ ss) all = and_from _ _ all.0.1 (costs ss all.1)

pub left_goes : (first : ℕ) (es : List Entry) (o : Entry) (a : Asked) (n : ℕ) (later : LastEntry)
    → IsLast first es (record { entry = o; asked = Some a }) → n < 2 ^ 32 → after_asked o a (LeftLine n) ≡ Some later
    → GoesWithin first es (record { entry = o; asked = Some a }) (LeftLine n) later
unfolding line_text
left_goes first es o a n later last lt is = may (is_simplify a.edit) refl is where
  may : (b : Bool) → is_simplify a.edit ≡ b
      → cond b (Some (record { entry = answered o a.edit (Simplified a.steps n); asked = None })) None ≡ Some later
      → GoesWithin first es (record { entry = o; asked = Some a }) (LeftLine n) later
  may true h is =
      subst (GoesWithin first es (record { entry = o; asked = Some a }) (LeftLine n)) (some_is is)
      (record {
        goes = answered_goes first es o a (Simplified a.steps n) (LeftLine n) last
            (steps_reply a.edit a.steps n h last.waits.steps last.waits.few_steps lt)
            (indented_push (map step_line a.steps) (left_line n));
      })
  may false h is = absurd cc

within_goes : (first : ℕ) (es : List Entry) (o : LastEntry) (l : JournalLine) (later : LastEntry)
    → IsLast first es o → IsLine l → within o.entry o.asked l ≡ Some later → GoesWithin first es o l later
within_goes first es o l later last line is = by o.asked refl l line is where
  by : (asked : Option Asked) → o.asked ≡ asked → (l : JournalLine) → IsLine l → within o.entry asked l ≡ Some later → GoesWithin first es o l later
  by None none (EditLine e) line is =
      let same : record { entry = o.entry; asked = None } ≡ o = λ i. record { entry = o.entry; asked = sym none i } in
      subst (λ (q : LastEntry). GoesWithin first es q (EditLine e) later) same
      (edit_goes first es o.entry e later (subst (IsLast first es) (sym same) last) line is)
  by None none (HeadLine h) line is = absurd cc
  by None none (ReplyLine r) line is = absurd cc
  by None none (StepLine s) line is = absurd cc
  by None none (LeftLine n) line is = absurd cc
  by (Some a) some (ReplyLine r) line is =
      let same : record { entry = o.entry; asked = Some a } ≡ o = λ i. record { entry = o.entry; asked = sym some i } in
      subst (λ (q : LastEntry). GoesWithin first es q (ReplyLine r) later) same
      (reply_goes first es o.entry a r later (subst (IsLast first es) (sym same) last) line is)
  by (Some a) some (StepLine s) line is =
      let same : record { entry = o.entry; asked = Some a } ≡ o = λ i. record { entry = o.entry; asked = sym some i } in
      subst (λ (q : LastEntry). GoesWithin first es q (StepLine s) later) same
      (step_goes first es o.entry a s later (subst (IsLast first es) (sym same) last) line is)
  by (Some a) some (LeftLine n) line is =
      let same : record { entry = o.entry; asked = Some a } ≡ o = λ i. record { entry = o.entry; asked = sym some i } in
      subst (λ (q : LastEntry). GoesWithin first es q (LeftLine n) later) same
      (left_goes first es o.entry a n later (subst (IsLast first es) (sym same) last) line is)
  by (Some a) some (EditLine e) line is = absurd cc
  by (Some a) some (HeadLine h) line is = absurd cc

-- the line that begins the first entry, and that of another one
first_goes : (first : ℕ) (es : List Entry) (h : EntryHead) → es ≡ [] → IsHead h
    → Goes (record { first = first; entries = es; last = None }) (HeadLine h) (record { first = h.number; entries = es; last = Some (opened h) })
unfolding line_text
first_goes first es h none head =
    subst (λ (xs : List Entry). Goes (record { first = first; entries = xs; last = None }) (HeadLine h) (record { first = h.number; entries = xs; last = Some (opened h) })) (sym none)
    (let number = head.number in record {
      draft = record { numbers = omega arith; each = tt; told = begun_told h head; waits = tt };
      text = append-nil (journal_text h.number (begun h ∷ [])) ∙ append-nil (entry_text h.number (begun h)) ∙ begun_text h.number h;
    })

next_goes : (d : Draft) (o : Entry) (h : EntryHead) → IsLast d.first d.entries (record { entry = o; asked = None }) → IsHead h
    → h.number ≡ d.first + length d.entries + 1
    → Goes (record d { last = Some (record { entry = o; asked = None }) }) (HeadLine h)
    (record { first = d.first; entries = d.entries ++ o ∷ []; last = Some (opened h) })
unfolding line_text
next_goes d o h last head is =
    let all = d.entries ++ o ∷ [] in
    let long = length-append d.entries (o ∷ []) in
    let number = head.number in
    let n : d.first + length all ≡ h.number = omega arith in
    record {
      draft = record {
        numbers = omega arith;
        each = all_push IsTold d.entries o last.each last.told;
        told = begun_told h head;
        waits = tt;
      };
      text = append-nil (journal_text d.first (all ++ begun h ∷ []))
          ∙ journal_text-push d.first all (begun h)
          ∙ ap (λ (k : ℕ). journal_text d.first all ++ entry_text k (begun h)) n
          ∙ ap (λ (xs : List ℕ). journal_text d.first all ++ xs) (begun_text h.number h)
          ∙ ap (λ (xs : List ℕ). xs ++ head_line h.number (begun h)) (sym (append-nil (journal_text d.first all)));
    }

inside : (d : Draft) (l : JournalLine) (later : Draft) → IsDraft d → IsLine l → after_within d d.last l ≡ Some later → Goes d l later
inside d l later draft line is = by d.last refl is where
  found : (o : LastEntry) → d.last ≡ Some o → (r : Option LastEntry) → within o.entry o.asked l ≡ r
      → option_map (λ q. record d { last = Some q }) r ≡ Some later → Goes d l later
  found o last (Some q) goes_on is =
      let whole : record d { last = Some o } ≡ d = λ i. record d { last = sym last i } in
      let here = subst (HasLast d.first d.entries) last draft in
      subst (Goes d l) (some_is is)
      (subst (λ (x : Draft). Goes x l (record d { last = Some q })) whole (within_goes d.first d.entries o l q here line goes_on).goes)
  found o last None goes_on is = absurd cc

  by : (last : Option LastEntry) → d.last ≡ last → after_within d last l ≡ Some later → Goes d l later
  by None last is = absurd cc
  by (Some o) last is = found o last (within o.entry o.asked l) refl is

pub goes : (d : Draft) (l : JournalLine) (later : Draft) → IsDraft d → IsLine l → after d l ≡ Some later → Goes d l later
unfolding after
goes d (HeadLine h) later draft line is = by d.last refl is where
  numbered : (o : Entry) → d.last ≡ Some (record { entry = o; asked = None }) → (b : Bool) → eqb h.number (d.first + length d.entries + 1) ≡ b
      → cond b (Some (record { first = d.first; entries = d.entries ++ o ∷ []; last = Some (opened h) })) None ≡ Some later
      → Goes d (HeadLine h) later
  numbered o last true same is =
      let whole : record d { last = Some (record { entry = o; asked = None }) } ≡ d = λ i. record d { last = sym last i } in
      let here = subst (HasLast d.first d.entries) last draft in
      subst (Goes d (HeadLine h)) (some_is is)
      (subst (λ (q : Draft). Goes q (HeadLine h) (record { first = d.first; entries = d.entries ++ o ∷ []; last = Some (opened h) })) whole
      (next_goes d o h here line (eqb-true _ _ same)))
  numbered o last false same is = absurd cc

  told : (o : Entry) (asked : Option Asked) → d.last ≡ Some (record { entry = o; asked = asked }) → next_entry d o asked h ≡ Some later → Goes d (HeadLine h) later
  told o None last is = numbered o last (eqb h.number (d.first + length d.entries + 1)) refl is
  told o (Some a) last is = absurd cc

  by : (last : Option LastEntry) → d.last ≡ last → after_head d last h ≡ Some later → Goes d (HeadLine h) later
  by None last is =
      let whole : record d { last = None } ≡ d = λ i. record d { last = sym last i } in
      let none : d.entries ≡ [] = subst (HasLast d.first d.entries) last draft in
      subst (Goes d (HeadLine h)) (some_is is)
      (subst (λ (q : Draft). Goes q (HeadLine h) (record { first = h.number; entries = d.entries; last = Some (opened h) })) whole
      (first_goes d.first d.entries h none line))
  by (Some o) last is = told o.entry o.asked last is
goes d (EditLine e) later draft line is = inside d (EditLine e) later draft line is
goes d (ReplyLine r) later draft line is = inside d (ReplyLine r) later draft line is
goes d (StepLine s) later draft line is = inside d (StepLine s) later draft line is
goes d (LeftLine n) later draft line is = inside d (LeftLine n) later draft line is
