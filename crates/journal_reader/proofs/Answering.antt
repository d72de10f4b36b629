-- What is read of a whole text is what the text is, and where reading stops the text goes wrong.
use Rattle.std.proofs.Common.{◌≡◌, ℕ, zero, suc, ◌+◌, ◌^◌, ◌<◌, ◌≤◌, Bool, true, false, cond, ◌==◌, List, [], ◌∷◌, ◌++◌, length, take, drop, Option, Some, None, option_and_then, Result, Ok, Err, refl, sym, ap, subst, ◌∙◌, append_assoc, append-nil, arith, length-append, ◌⊎◌, inl, inr}
use Rattle.std.proofs.lemmas.Bool.{eq-eqb, eqb-true, false≢true}
use Rattle.std.proofs.lemmas.Grind.{flat_map-append}
use Rattle.std.proofs.lemmas.List.{take-append-drop, take-append-le, take_at}
use Rattle.std.proofs.lemmas.List.Elements.{All-from_recursion}
use Rattle.std.proofs.lemmas.List.Splits.{join_with_byte-slice_split, slice_split_at}
use Rattle.std.specs.List.{AllByRecursion, flat_map, join_with_byte, onto_first, slice_split}
use Rattle.std.specs.Option.{ok_or, option_map_or}
use Rattle.mesh_data.specs.declared.edits.Edit.{Edit}
use Rattle.mesh_data.specs.declared.edits.Edit.TheVariants.{Move, Collapse, Flip, Simplify}
use Rattle.mesh_data.specs.declared.edits.Entry.{Entry}
use Rattle.mesh_data.specs.declared.edits.Reply.{Reply}
use Rattle.mesh_data.specs.declared.edits.Reply.TheVariants.{Same, Done, Simplified}
use Rattle.byte_grammar.specs.Reader.{IsBytes}
use Rattle.leaf_codec.specs.Replies.{is_reply, may_answer}
use Rattle.commit_journal.specs.Text.{journal_text}
use Rattle.journal_reader.specs.declared.draft.Asked.{Asked}
use Rattle.journal_reader.specs.declared.draft.LastEntry.{LastEntry}
use Rattle.journal_reader.specs.declared.draft.Draft.{Draft}
use Rattle.journal_reader.specs.declared.fault.JournalFault.{JournalFault}
use Rattle.journal_reader.specs.declared.fault.JournalFault.TheVariants.{Syntax, Memory}
use Rattle.journal_reader.specs.declared.lines.JournalLine.{JournalLine}
use Rattle.journal_reader.specs.declared.lines.JournalLine.TheVariants.{HeadLine, LeftLine, ReplyLine}
use Rattle.journal_reader.specs.Drafts.{after, after_asked, after_bytes, all_told, answered, begun, is_simplify, nothing, reading, told, told_with}
use Rattle.journal_reader.specs.Journal.{Answers, BeginsJournal, GoesWrongIn, IsGoodTo, IsJournal, IsTold, ReadsAs, first_lines, is_feed, with_feed}
use Rattle.journal_reader.specs.Readings.{Gives}
use Rattle.journal_reader.proofs.LineSpells.{IsShort, line_text}
use Rattle.journal_reader.proofs.Writing.{Goes, IsDraft, IsLast, HasLast, all_push, asked_text, draft_text, left_goes, reply_goes}
use Rattle.journal_reader.proofs.Reaching.{HasNoFeed, Reaches, at, by_bytes, by_line, head_is_head, head_of, ran, ran-append, reach_entry, stays, then}

-- ---- steps of reading

some_parts : (text : List ℕ) → (p : List ℕ) × (ps : List (List ℕ)) × (slice_split is_feed text ≡ p ∷ ps)
some_parts [] = ([], [], refl)
some_parts (c ∷ cs) = by (is_feed c) (slice_split is_feed cs) where
  by : (b : Bool) (ps : List (List ℕ)) → (q : List ℕ) × (qs : List (List ℕ)) × (cond b ([] ∷ ps) (onto_first c ps) ≡ q ∷ qs)
  by true ps = ([], ps, refl)
  by false [] = (c ∷ [], [], refl)
  by false (p ∷ ps) = (c ∷ p, ps, refl)

pub reading_next : (n : ℕ) (d later : Draft) (l text : List ℕ) → after_bytes d (l ++ 10 ∷ []) ≡ Some later
    → reading n d (l ∷ slice_split is_feed text) ≡ reading (n + 1) later (slice_split is_feed text)
unfolding reading
reading_next n d later l text e =
    let parts = some_parts text in
    rw parts.2 (rw e refl)

pub reading_stuck : (n : ℕ) (d : Draft) (l text : List ℕ) → after_bytes d (l ++ 10 ∷ []) ≡ None
    → reading n d (l ∷ slice_split is_feed text) ≡ Err n
unfolding reading
reading_stuck n d l text e =
    let parts = some_parts text in
    rw parts.2 (rw e refl)

-- ---- what a reading says

-- the lines of a reading that gives entries
record Whole (d : Draft) (parts : List (List ℕ)) (entries : List Entry) : Type 0 where
  bodies : List (List ℕ)
  later : Draft
  cut : parts ≡ bodies ++ [] ∷ []
  run : ran d bodies ≡ Some later
  says : told later ≡ Some entries

no_bytes : (bytes : List ℕ) → (length bytes == 0) ≡ true → bytes ≡ []
no_bytes [] h = refl
no_bytes (c ∷ cs) h = let zero_is = eqb-true (length (c ∷ cs)) 0 h in absurd (omega arith)

told_found : (o : Option (List Entry)) (n : ℕ) (entries : List Entry) → ok_or o n ≡ Ok entries → o ≡ Some entries
told_found None n entries e = absurd cc
told_found (Some x) n entries e = cc

told_lost : (o : Option (List Entry)) (n m : ℕ) → ok_or o n ≡ Err m → (o ≡ None) × (n ≡ m)
told_lost None n m e = (refl, cc)
told_lost (Some x) n m e = absurd cc

reads_whole : (parts : List (List ℕ)) (n : ℕ) (d : Draft) (entries : List Entry) → reading n d parts ≡ Ok entries → Whole d parts entries
unfolding reading
reads_whole [] n d entries e = absurd cc
reads_whole (last ∷ []) n d entries e = by (length last == 0) refl e where
  by : (b : Bool) → (length last == 0) ≡ b → cond b (ok_or (told d) n) (Err n) ≡ Ok entries → Whole d (last ∷ []) entries
  by true is e = record {
    bodies = [];
    later = d;
    cut = ap (λ (x : List ℕ). x ∷ []) (no_bytes last is);
    run = refl;
    says = told_found (told d) n entries e;
  }
  by false is e = absurd cc
reads_whole (l ∷ m ∷ ms) n d entries e = by (after_bytes d (with_feed l)) refl (λ x. reads_whole (m ∷ ms) (n + 1) x entries) e where
  by : (o : Option Draft) → after_bytes d (with_feed l) ≡ o
      → ((x : Draft) → reading (n + 1) x (m ∷ ms) ≡ Ok entries → Whole x (m ∷ ms) entries)
      → option_map_or (λ x. reading (n + 1) x (m ∷ ms)) o (Err n) ≡ Ok entries → Whole d (l ∷ m ∷ ms) entries
  by None is later e = absurd cc
  by (Some x) is later e =
      let w = later x e in
      record {
        bodies = l ∷ w.bodies;
        later = w.later;
        cut = ap (λ (xs : List (List ℕ)). l ∷ xs) w.cut;
        run = ap (λ (o : Option Draft). option_and_then (λ y. ran y w.bodies) o) is ∙ w.run;
        says = w.says;
      }

-- why a line doesn't fit: it stands last, and nothing is to be told there; or no line so can stand there
abbrev Cause : Draft → List ℕ → List (List ℕ) → Type 0
Cause d b more = ((more ≡ []) × (b ≡ [] → told d ≡ None)) ⊎ ((0 < length more) × (after_bytes d (with_feed b) ≡ None))

-- the lines in front of one that doesn't fit
record Fails (n : ℕ) (d : Draft) (parts : List (List ℕ)) (m : ℕ) : Type 0 where
  bodies : List (List ℕ)
  later : Draft
  line : List ℕ
  more : List (List ℕ)
  cut : parts ≡ bodies ++ line ∷ more
  run : ran d bodies ≡ Some later
  place : m ≡ n + length bodies
  cause : Cause later line more

not_empty : (xs : List ℕ) → (length xs == 0) ≡ false → xs ≡ [] → ⊥
not_empty [] is none = cc
not_empty (c ∷ cs) is none = cc

reads_fails : (parts : List (List ℕ)) (n : ℕ) (d : Draft) (m : ℕ) → 0 < length parts → reading n d parts ≡ Err m → Fails n d parts m
unfolding reading
reads_fails [] n d m some e = absurd (omega arith)
reads_fails (last ∷ []) n d m some e = by (length last == 0) refl e where
  by : (b : Bool) → (length last == 0) ≡ b → cond b (ok_or (told d) n) (Err n) ≡ Err m → Fails n d (last ∷ []) m
  by true is e =
      let lost = told_lost (told d) n m e in
      record {
        bodies = [];
        later = d;
        line = last;
        more = [];
        cut = refl;
        run = refl;
        place = sym lost.1 ∙ omega arith;
        cause = inl (refl, λ _. lost.0);
      }
  by false is e =
      let same : n ≡ m = cc in
      record {
        bodies = [];
        later = d;
        line = last;
        more = [];
        cut = refl;
        run = refl;
        place = sym same ∙ omega arith;
        cause = inl (refl, λ none. absurd (not_empty last is none));
      }
reads_fails (l ∷ m' ∷ ms) n d m some e = by (after_bytes d (with_feed l)) refl (λ x. reads_fails (m' ∷ ms) (n + 1) x m (omega arith)) e where
  by : (o : Option Draft) → after_bytes d (with_feed l) ≡ o
      → ((x : Draft) → reading (n + 1) x (m' ∷ ms) ≡ Err m → Fails (n + 1) x (m' ∷ ms) m)
      → option_map_or (λ x. reading (n + 1) x (m' ∷ ms)) o (Err n) ≡ Err m → Fails n d (l ∷ m' ∷ ms) m
  by None is later e =
      let same : n ≡ m = cc in
      record {
        bodies = [];
        later = d;
        line = l;
        more = m' ∷ ms;
        cut = refl;
        run = refl;
        place = sym same ∙ omega arith;
        cause = inr (omega arith, is);
      }
  by (Some x) is later e =
      let f = later x e in
      let place = f.place in
      record {
        bodies = l ∷ f.bodies;
        later = f.later;
        line = f.line;
        more = f.more;
        cut = ap (λ (xs : List (List ℕ)). l ∷ xs) f.cut;
        run = ap (λ (o : Option Draft). option_and_then (λ y. ran y f.bodies) o) is ∙ f.run;
        place = omega arith;
        cause = f.cause;
      }

-- ---- the parts of a text

parts_all : (P : ℕ → Type 0) (text : List ℕ) → AllByRecursion P text → AllByRecursion (AllByRecursion P) (slice_split is_feed text)
parts_all P [] all = (tt, tt)
parts_all P (c ∷ cs) all = by (is_feed c) (slice_split is_feed cs) (parts_all P cs all.1) where
  by : (b : Bool) (ps : List (List ℕ)) → AllByRecursion (AllByRecursion P) ps → AllByRecursion (AllByRecursion P) (cond b ([] ∷ ps) (onto_first c ps))
  by true ps h = (tt, h)
  by false [] h = ((all.0, tt), tt)
  by false (p ∷ ps) h = ((all.0, h.0), h.1)

parts_free : (text : List ℕ) → AllByRecursion HasNoFeed (slice_split is_feed text)
parts_free [] = (tt, tt)
parts_free (c ∷ cs) = by (is_feed c) refl (slice_split is_feed cs) (parts_free cs) where
  by : (b : Bool) → is_feed c ≡ b → (ps : List (List ℕ)) → AllByRecursion HasNoFeed ps → AllByRecursion HasNoFeed (cond b ([] ∷ ps) (onto_first c ps))
  by true is ps h = (tt, h)
  by false is [] h = ((is, tt), tt)
  by false is (p ∷ ps) h = ((is, h.0), h.1)

joined : (bs : List (List ℕ)) (b : List ℕ) → join_with_byte 10 (bs ++ b ∷ []) ≡ flat_map with_feed bs ++ b
joined [] b = refl
joined (x ∷ []) b = sym (append_assoc x (10 ∷ []) b) ∙ ap (λ (xs : List ℕ). xs ++ b) (sym (append-nil (x ++ 10 ∷ [])))
joined (x ∷ y ∷ bs) b =
    ap (λ (xs : List ℕ). x ++ 10 ∷ xs) (joined (y ∷ bs) b) ∙ sym (append_assoc x (10 ∷ []) (flat_map with_feed (y ∷ bs) ++ b))
    ∙ sym (append_assoc (x ++ 10 ∷ []) (flat_map with_feed (y ∷ bs)) b)

-- a text by its parts
text_of_parts : (text : List ℕ) (bs : List (List ℕ)) (b : List ℕ) → slice_split is_feed text ≡ bs ++ b ∷ [] → text ≡ flat_map with_feed bs ++ b
text_of_parts text bs b e = sym (join_with_byte-slice_split 10 text) ∙ ap (join_with_byte 10) e ∙ joined bs b

-- the parts of lines and what stands behind them
pub split_of : (bs : List (List ℕ)) (rest : List ℕ) → AllByRecursion HasNoFeed bs → slice_split is_feed (flat_map with_feed bs ++ rest) ≡ bs ++ slice_split is_feed rest
split_of [] rest free = refl
split_of (b ∷ bs) rest free =
    ap (slice_split is_feed) (append_assoc (b ++ 10 ∷ []) (flat_map with_feed bs) rest ∙ append_assoc b (10 ∷ []) (flat_map with_feed bs ++ rest))
    ∙ slice_split_at is_feed b 10 (flat_map with_feed bs ++ rest) (All-from_recursion (λ c. is_feed c ≡ false) b free.0) refl
    ∙ ap (λ (xs : List (List ℕ)). b ∷ xs) (split_of bs rest free.1)

all_front : {A : Type 0} (P : A → Type 0) (xs ys : List A) → AllByRecursion P (xs ++ ys) → AllByRecursion P xs
all_front P [] ys h = tt
all_front P (x ∷ xs) ys h = (h.0, all_front P xs ys h.1)

front_of : {A : Type 0} (xs ys zs : List A) (z : A) → xs ++ ys ≡ zs ++ z ∷ [] → 0 < length ys → (q : List A) × (zs ≡ xs ++ q)
front_of [] ys zs z e some = (zs, refl)
front_of {A = A} (x ∷ xs) ys [] z e some =
    let none : xs ++ ys ≡ [] = cc in absurd (omega (arith, ap length none, length-append xs ys))
front_of (x ∷ xs) ys (w ∷ ws) z e some =
    let rest : xs ++ ys ≡ ws ++ z ∷ [] = cc in
    let head : x ≡ w = cc in
    let r = front_of xs ys ws z rest some in (r.0, λ i. sym head i ∷ r.1 i)

pub last_of : {A : Type 0} (xs zs : List A) (b z : A) → xs ++ b ∷ [] ≡ zs ++ z ∷ [] → (xs ≡ zs) × (b ≡ z)
last_of [] [] b z e = (refl, cc)
last_of [] (w ∷ ws) b z e =
    let none : [] ≡ ws ++ z ∷ [] = cc in absurd (omega (arith, ap length none, length-append ws (z ∷ [])))
last_of (x ∷ xs) [] b z e =
    let none : xs ++ b ∷ [] ≡ [] = cc in absurd (omega (arith, ap length none, length-append xs (b ∷ [])))
last_of (x ∷ xs) (w ∷ ws) b z e =
    let rest : xs ++ b ∷ [] ≡ ws ++ z ∷ [] = cc in
    let head : x ≡ w = cc in
    let r = last_of xs ws b z rest in ((λ i. head i ∷ r.0 i), r.1)

bytes_all : (xs : List ℕ) → IsBytes xs → AllByRecursion (λ c. c < 256) xs
bytes_all [] h = tt
bytes_all (x ∷ xs) h = (h 0, bytes_all xs (λ i. h (suc i)))

all_bytes : (xs : List ℕ) → AllByRecursion (λ c. c < 256) xs → IsBytes (with_feed xs)
all_bytes [] h zero = omega arith
all_bytes [] h (suc i) = omega arith
all_bytes (x ∷ xs) h zero = h.0
all_bytes (x ∷ xs) h (suc i) = all_bytes xs h.1 i

-- ---- drafts and journals

-- what lines say that were read
record Ran (d : Draft) (bs : List (List ℕ)) (later : Draft) : Type 0 where
  text : draft_text later ≡ draft_text d ++ flat_map with_feed bs
  draft : IsDraft later

ran_is : (bs : List (List ℕ)) (d later : Draft) → IsDraft d → AllByRecursion (AllByRecursion (λ c. c < 256)) bs
    → ran d bs ≡ Some later → Ran d bs later
ran_is [] d later draft bytes e =
    let same : d ≡ later = cc in
    subst (λ (x : Draft). Ran d [] x) same (record { text = sym (append-nil (draft_text d)); draft = draft })
ran_is (b ∷ bs) d later draft bytes e = by (after_bytes d (with_feed b)) refl (λ x h. ran_is bs x later h bytes.1) e where
  by : (o : Option Draft) → after_bytes d (with_feed b) ≡ o → ((x : Draft) → IsDraft x → ran x bs ≡ Some later → Ran x bs later)
      → option_and_then (λ x. ran x bs) o ≡ Some later → Ran d (b ∷ bs) later
  by None is more e = absurd cc
  by (Some x) is more e =
      let one = by_bytes d b x draft (all_bytes b bytes.0) is in
      let rest = more x one.draft e in
      record {
        text = rest.text ∙ ap (λ (xs : List ℕ). xs ++ flat_map with_feed bs) one.text ∙ append_assoc (draft_text d) (with_feed b) (flat_map with_feed bs);
        draft = rest.draft;
      }

-- a draft that is told is a journal
draft_journal : (d : Draft) (entries : List Entry) → IsDraft d → told d ≡ Some entries → ReadsAs (draft_text d) entries
unfolding told
draft_journal d entries draft says = by d.last refl says where
  by : (last : Option LastEntry) → d.last ≡ last → told_with d.entries last ≡ Some entries → ReadsAs (draft_text d) entries
  by None is e =
      let none : d.entries ≡ [] = subst (HasLast d.first d.entries) is draft in
      let same : d.entries ≡ entries = cc in
      let text : draft_text d ≡ [] = λ i. draft_text (record { first = d.first; entries = none i; last = is i }) in
      subst (λ (es : List Entry). ReadsAs (draft_text d) es) same
      (subst (λ (es : List Entry). ReadsAs (draft_text d) es) (sym none)
      (subst (λ (xs : List ℕ). ReadsAs xs []) (sym text) (0, record { numbers = omega arith; each = tt; text_is = refl })))
  by (Some o) is e = waits o.asked refl e where
    waits : (a : Option Asked) → o.asked ≡ a → all_told d.entries o.entry a ≡ Some entries → ReadsAs (draft_text d) entries
    waits None none e =
        let last : IsLast d.first d.entries o = subst (HasLast d.first d.entries) is draft in
        let all = d.entries ++ o.entry ∷ [] in
        let same : all ≡ entries = cc in
        let numbers = last.numbers in
        let text : draft_text d ≡ journal_text d.first all =
        (λ i. draft_text (record { first = d.first; entries = d.entries; last = is i }))
        ∙ ap (λ (a : Option Asked). journal_text d.first all ++ asked_text a) none ∙ append-nil (journal_text d.first all) in
        subst (λ (es : List Entry). ReadsAs (draft_text d) es) same
        (d.first, record { numbers = omega (arith, length-append d.entries (o.entry ∷ [])); each = all_push IsTold d.entries o.entry last.each last.told; text_is = text })
    waits (Some a) some e = absurd cc

-- ---- a journal's lines are read

-- the lines of a journal, and the draft to which they lead
pub record Lines (entries : List Entry) (text : List ℕ) : Type 0 where
  pub bodies : List (List ℕ)
  pub later : Draft
  pub free : AllByRecursion HasNoFeed bodies
  pub text_is : text ≡ flat_map with_feed bodies
  pub run : ran nothing bodies ≡ Some later
  pub says : told later ≡ Some entries

-- the draft of all entries
final : ℕ → List Entry → Entry → List Entry → Draft
final first earlier o [] = at first earlier o None
final first earlier o (e ∷ es) = final first (earlier ++ o ∷ []) e es

final_told : (first : ℕ) (earlier : List Entry) (o : Entry) (es : List Entry) → told (final first earlier o es) ≡ Some (earlier ++ o ∷ es)
unfolding told final
final_told first earlier o [] = refl
final_told first earlier o (e ∷ es) =
    final_told first (earlier ++ o ∷ []) e es ∙ ap (λ (xs : List Entry). Some xs) (append_assoc earlier (o ∷ []) (e ∷ es))

final_text : (first : ℕ) (earlier : List Entry) (o : Entry) (es : List Entry)
    → draft_text (final first earlier o es) ≡ journal_text first (earlier ++ o ∷ es)
unfolding final
final_text first earlier o [] = append-nil (journal_text first (earlier ++ o ∷ []))
final_text first earlier o (e ∷ es) =
    final_text first (earlier ++ o ∷ []) e es ∙ ap (journal_text first) (append_assoc earlier (o ∷ []) (e ∷ es))

reach_all : (first : ℕ) (earlier : List Entry) (o : Entry) (es : List Entry) → first + length earlier + 1 + length es ≤ 2 ^ 32
    → AllByRecursion IsTold es → IsDraft (at first earlier o None) → Reaches (at first earlier o None) (final first earlier o es)
unfolding after final
reach_all first earlier o [] few all draft = stays (at first earlier o None) draft
reach_all first earlier o (e ∷ es) few all draft =
    let n = first + length earlier + 1 in
    let lt : n < 2 ^ 32 = omega arith in
    let long = length-append earlier (o ∷ []) in
    let next = earlier ++ o ∷ [] in
    let h = head_of n e in
    let start = at first earlier o None in
    let begins : after start (HeadLine h) ≡ Some (at first next (begun h) None) = rw (eq-eqb n n refl) refl in
    let head = by_line start (HeadLine h) (at first next (begun h) None) draft (head_is_head n e lt all.0) begins in
    let entry = reach_entry first next n e all.0 head.draft in
    let later = reach_all first next e es (omega arith) all.1 entry.draft in
    then start (at first next (begun h) None) (final first next e es) head
    (then (at first next (begun h) None) (at first next e None) (final first next e es) entry later)

pub journal_lines : (first : ℕ) (entries : List Entry) (text : List ℕ) → IsJournal first entries text → Lines entries text
unfolding after told
journal_lines first [] text journal =
    record { bodies = []; later = nothing; free = tt; text_is = journal.text_is; run = refl; says = refl }
journal_lines first (e ∷ es) text journal =
    let numbers = journal.numbers in
    let lt : first < 2 ^ 32 = omega arith in
    let h = head_of first e in
    let begins : after nothing (HeadLine h) ≡ Some (at first [] (begun h) None) = refl in
    let head = by_line nothing (HeadLine h) (at first [] (begun h) None) refl (head_is_head first e lt journal.each.0) begins in
    let entry = reach_entry first [] first e journal.each.0 head.draft in
    let later = reach_all first [] e es (omega arith) journal.each.1 entry.draft in
    let r =
    then nothing (at first [] (begun h) None) (final first [] e es) head
    (then (at first [] (begun h) None) (at first [] e None) (final first [] e es) entry later) in
    record {
      bodies = r.bodies;
      later = final first [] e es;
      free = r.free;
      text_is = journal.text_is ∙ sym (final_text first [] e es) ∙ r.text;
      run = r.run;
      says = final_told first [] e es;
    }

-- ---- each draft begins a journal

-- a reply of one line
short_reply : (e : Edit) → is_simplify e ≡ false → (r : Reply) × IsShort r × (may_answer e r ≡ true)
unfolding may_answer is_reply
short_reply (Move v to) other = (Done, record { fits = tt; rule = refl; one_line = tt }, refl)
short_reply (Collapse u v max) other = (Same, record { fits = tt; rule = refl; one_line = tt }, refl)
short_reply (Flip a b) other = (Same, record { fits = tt; rule = refl; one_line = tt }, refl)
short_reply (Simplify max target) other = absurd (false≢true (sym other))

-- one line more, and no edit waits
record Rests (d : Draft) : Type 0 where
  line : JournalLine
  later : Draft
  goes : Goes d line later
  entries : List Entry
  says : told later ≡ Some entries

rests : (first : ℕ) (es : List Entry) (o : Entry) (a : Asked) → IsLast first es (record { entry = o; asked = Some a }) → Rests (at first es o (Some a))
unfolding told
rests first es o a last = by (is_simplify a.edit) refl where
  by : (b : Bool) → is_simplify a.edit ≡ b → Rests (at first es o (Some a))
  by true simple =
      let later : LastEntry = record { entry = answered o a.edit (Simplified a.steps 0); asked = None } in
      let goes_on : after_asked o a (LeftLine 0) ≡ Some later = rw simple refl in
      record {
        line = LeftLine 0;
        later = record { first = first; entries = es; last = Some later };
        goes = (left_goes first es o a 0 later last (omega arith) goes_on).goes;
        entries = es ++ later.entry ∷ [];
        says = refl;
      }
  by false other =
      let r = short_reply a.edit other in
      let later : LastEntry = record { entry = answered o a.edit r.0; asked = None } in
      let goes_on : after_asked o a (ReplyLine r.0) ≡ Some later = rw r.2 refl in
      record {
        line = ReplyLine r.0;
        later = record { first = first; entries = es; last = Some later };
        goes = (reply_goes first es o a r.0 later last r.1 goes_on).goes;
        entries = es ++ later.entry ∷ [];
        says = refl;
      }

told_begins : (d : Draft) (entries : List Entry) → IsDraft d → told d ≡ Some entries → BeginsJournal (draft_text d)
told_begins d entries draft says =
    ([], entries, subst (λ (xs : List ℕ). ReadsAs xs entries) (sym (append-nil (draft_text d))) (draft_journal d entries draft says))

begins_with : (first : ℕ) (es : List Entry) (o : Entry) (a : Option Asked) → IsLast first es (record { entry = o; asked = a })
    → BeginsJournal (draft_text (at first es o a))
unfolding told
begins_with first es o None last = told_begins (at first es o None) (es ++ o ∷ []) last refl
begins_with first es o (Some a) last =
    let r = rests first es o a last in
    (line_text r.line, r.entries, subst (λ (xs : List ℕ). ReadsAs xs r.entries) r.goes.text (draft_journal r.later r.entries r.goes.draft r.says))

begins_at : (first : ℕ) (es : List Entry) (last : Option LastEntry) → HasLast first es last
    → BeginsJournal (draft_text (record { first = first; entries = es; last = last }))
unfolding told
begins_at first es None none = told_begins (record { first = first; entries = es; last = None }) es none refl
begins_at first es (Some o) last = begins_with first es o.entry o.asked last

-- the parts of a journal
pub parts_of : (entries : List Entry) (xs : List ℕ) (l : Lines entries xs) → slice_split is_feed xs ≡ l.bodies ++ [] ∷ []
parts_of entries xs l =
    ap (slice_split is_feed) (l.text_is ∙ sym (append-nil (flat_map with_feed l.bodies))) ∙ split_of l.bodies [] l.free

-- ---- the answer

module _ (text : List ℕ) (fits : IsBytes text) where
  byte_parts : AllByRecursion (AllByRecursion (λ c. c < 256)) (slice_split is_feed text)
  byte_parts = parts_all (λ c. c < 256) text (bytes_all text fits)

  ran_front : (bodies : List (List ℕ)) (line : List ℕ) (more : List (List ℕ)) (later : Draft) → slice_split is_feed text ≡ bodies ++ line ∷ more
      → ran nothing bodies ≡ Some later → Ran nothing bodies later
  ran_front bodies line more later cut run =
      ran_is bodies nothing later refl
      (all_front (AllByRecursion (λ c. c < 256)) bodies (line ∷ more) (subst (AllByRecursion (AllByRecursion (λ c. c < 256))) cut byte_parts)) run

  whole_is : (entries : List Entry) → reading 1 nothing (slice_split is_feed text) ≡ Ok entries → ReadsAs text entries
  whole_is entries e =
      let w = reads_whole (slice_split is_feed text) 1 nothing entries e in
      let r = ran_front w.bodies [] [] w.later w.cut w.run in
      let is : text ≡ flat_map with_feed w.bodies = text_of_parts text w.bodies [] w.cut ∙ append-nil (flat_map with_feed w.bodies) in
      subst (λ (xs : List ℕ). ReadsAs xs entries) (r.text ∙ sym is) (draft_journal w.later entries r.draft w.says)

  -- a line that can't stand there stands in no journal
  unfit : (bodies cs more : List (List ℕ)) (line : List ℕ) (later y : Draft) → ran nothing bodies ≡ Some later
      → bodies ++ line ∷ more ≡ cs ++ [] ∷ [] → 0 < length more → after_bytes later (with_feed line) ≡ None → ran nothing cs ≡ Some y → ⊥
  unfit bodies cs more line later y run e some stuck through =
      let q = front_of (bodies ++ line ∷ []) more cs [] (append_assoc bodies (line ∷ []) more ∙ e) some in
      let goes_on : ran nothing cs ≡ ran later (line ∷ q.0) =
      ap (ran nothing) (q.1 ∙ append_assoc bodies (line ∷ []) q.0) ∙ ran-append nothing later bodies (line ∷ q.0) run in
      let stops : ran later (line ∷ q.0) ≡ None = ap (λ (o : Option Draft). option_and_then (λ x. ran x q.0) o) stuck in
      none_some y (sym stops ∙ sym goes_on ∙ through)
    where
      none_some : (y : Draft) → None ≡ Some y → ⊥
      none_some y e = cc

  wrong_is : (m : ℕ) → reading 1 nothing (slice_split is_feed text) ≡ Err m → GoesWrongIn m text
  wrong_is m e = from (reads_fails (slice_split is_feed text) 1 nothing m (has_parts text) e) where
    has_parts : (xs : List ℕ) → 0 < length (slice_split is_feed xs)
    has_parts xs = let p = some_parts xs in rw p.2 (omega arith)

    same_later : (a b : Draft) (bs cs : List (List ℕ)) → bs ≡ cs → ran nothing bs ≡ Some a → ran nothing cs ≡ Some b → a ≡ b
    same_later a b bs cs same f g = let h : Some a ≡ Some b = sym f ∙ ap (ran nothing) same ∙ g in cc

    ended_early : (d y : Draft) (entries : List Entry) → d ≡ y → told d ≡ None → told y ≡ Some entries → ⊥
    ended_early d y entries same none says = let h : None ≡ Some entries = sym none ∙ ap told same ∙ says in cc

    no_journal : (f : Fails 1 nothing (slice_split is_feed text) m) (entries : List Entry) → ReadsAs text entries → ⊥
    no_journal f entries (first, journal) = by f.cause where
      by : Cause f.later f.line f.more → ⊥
      by (inl (last, none)) =
          let l = journal_lines first entries text journal in
          let cut : f.bodies ++ f.line ∷ [] ≡ l.bodies ++ [] ∷ [] =
          ap (λ (xs : List (List ℕ)). f.bodies ++ f.line ∷ xs) (sym last) ∙ sym f.cut ∙ parts_of entries text l in
          let both = last_of f.bodies l.bodies f.line [] cut in
          ended_early f.later l.later entries (same_later f.later l.later f.bodies l.bodies both.0 f.run l.run) (none both.1) l.says
      by (inr (some, stuck)) =
          let l = journal_lines first entries text journal in
          unfit f.bodies l.bodies f.more f.line f.later l.later f.run (sym f.cut ∙ parts_of entries text l) some stuck l.run

    not_good : (f : Fails 1 nothing (slice_split is_feed text) m) → IsGoodTo m text → ⊥
    not_good f good = by f.cause good.begins where
      long : 0 < length f.more
      long =
          let place = f.place in
          let ended = good.ended in
          omega (arith, ap length f.cut, length-append f.bodies (f.line ∷ f.more))

      by : Cause f.later f.line f.more → BeginsJournal (first_lines m text) → ⊥
      by (inl (last, none)) begins = absurd (omega (arith, ap length last, long))
      by (inr (some, stuck)) (rest, entries, (first, journal)) =
          let l = journal_lines first entries (first_lines m text ++ rest) journal in
          let front = f.bodies ++ f.line ∷ [] in
          let place = f.place in
          let cut : slice_split is_feed text ≡ front ++ f.more = f.cut ∙ sym (append_assoc f.bodies (f.line ∷ []) f.more) in
          let taken : take m (slice_split is_feed text) ≡ front =
          ap (take m) cut ∙ take_at front f.more m (omega (arith, length-append f.bodies (f.line ∷ []))) in
          let free : AllByRecursion HasNoFeed front = all_front HasNoFeed front f.more (subst (AllByRecursion HasNoFeed) cut (parts_free text)) in
          let whole : front ++ slice_split is_feed rest ≡ l.bodies ++ [] ∷ [] =
          sym (split_of front rest free) ∙ ap (λ (xs : List (List ℕ)). slice_split is_feed (flat_map with_feed xs ++ rest)) (sym taken)
          ∙ parts_of entries (first_lines m text ++ rest) l in
          unfit f.bodies l.bodies (slice_split is_feed rest) f.line f.later l.later f.run
          (sym (append_assoc f.bodies (f.line ∷ []) (slice_split is_feed rest)) ∙ whole) (has_parts rest) stuck l.run

    good_before : (f : Fails 1 nothing (slice_split is_feed text) m) (n : ℕ) → n < m → IsGoodTo n text
    good_before f n lt =
        let place = f.place in
        let r = ran_front f.bodies f.line f.more f.later f.cut f.run in
        let b = begins_at f.later.first f.later.entries f.later.last r.draft in
        let le : n ≤ length f.bodies = omega arith in
        let taken : take n (slice_split is_feed text) ≡ take n f.bodies =
        ap (take n) f.cut ∙ take-append-le n f.bodies (f.line ∷ f.more) le in
        let front = flat_map with_feed (take n f.bodies) in
        let back = flat_map with_feed (drop n f.bodies) in
        let is : draft_text f.later ≡ front ++ back =
        r.text ∙ ap (flat_map with_feed) (sym (take-append-drop n f.bodies)) ∙ flat_map-append with_feed (take n f.bodies) (drop n f.bodies) in
        let whole : draft_text f.later ++ b.0 ≡ first_lines n text ++ (back ++ b.0) =
        ap (λ (xs : List ℕ). xs ++ b.0) is ∙ append_assoc front back b.0
        ∙ ap (λ (xs : List (List ℕ)). flat_map with_feed xs ++ (back ++ b.0)) (sym taken) in
        record {
          ended = omega (arith, ap length f.cut, length-append f.bodies (f.line ∷ f.more));
          begins = (back ++ b.0, b.1, subst (λ (xs : List ℕ). ReadsAs xs b.1) whole b.2);
        }

    from : Fails 1 nothing (slice_split is_feed text) m → GoesWrongIn m text
    from f = record { none = no_journal f; before = good_before f; here = not_good f }

  pub answers : (r : Result (List Entry) JournalFault) → Gives r (reading 1 nothing (slice_split is_feed text)) → Answers text r
  answers (Ok entries) e = whole_is entries e
  answers (Err (Syntax line)) e = wrong_is line e
  answers (Err Memory) e = tt
