-- What a text says is said once, and entries that have spellings can be told.
use Rattle.std.proofs.Common.{◌≡◌, ℕ, suc, ◌+◌, ◌^◌, ◌<◌, ◌≤◌, Bool, true, false, List, [], ◌∷◌, ◌++◌, length, map, slice_get, Option, Some, Result, Ok, Err, ℤ, FitsSigned, w16, refl, sym, ap, ◌∙◌, append_assoc, arith, length-append, ◌⊎◌, inl, inr}
use Rattle.std.proofs.lemmas.Bool.{and_parts, cases_order}
use Rattle.std.proofs.lemmas.Int.{ints}
use Rattle.std.specs.List.{AllByRecursion}
use Rattle.std.specs.Option.{option_map_or}
use Rattle.oemm_octree.specs.Octree.{IsOnGrid, on_grid}
use Rattle.oemm_octree.specs.declared.points.Point.{Point}
use Rattle.mesh_data.specs.declared.edits.Edit.{Edit}
use Rattle.mesh_data.specs.declared.edits.Edit.TheVariants.{Move, Collapse, Flip, Simplify}
use Rattle.mesh_data.specs.declared.edits.Entry.{Entry}
use Rattle.mesh_data.specs.declared.edits.Reply.{Reply}
use Rattle.mesh_data.specs.declared.edits.Reply.TheVariants.{Unheld, Frozen, Same, Apart, Border, Link, Closed, Folds, Dear, Edge, Outside, Done, DoneAt, Simplified}
use Rattle.mesh_data.specs.declared.edits.Step.{Step}
use Rattle.sheet_data.specs.declared.index.NumberedEntry.{NumberedEntry}
use Rattle.byte_grammar.specs.Keeps.{Keeps}
use Rattle.geometry_bytes.specs.Geometry.{FitsPoint}
use Rattle.leaf_codec.specs.Edits.{FitsEdit, is_edit}
use Rattle.leaf_codec.specs.Entries.{FitsEntry, KeepsEntryRules, replies_of}
use Rattle.leaf_codec.specs.Replies.{FitsReply, FitsStep, is_reply, may_answer, reply_follows}
use Rattle.commit_journal.specs.Text.{entry_text, journal_text}
use Rattle.journal_reader.specs.declared.fault.JournalFault.{JournalFault}
use Rattle.journal_reader.specs.declared.fault.JournalFault.TheVariants.{Syntax, Memory}
use Rattle.journal_reader.specs.Drafts.{nothing, told}
use Rattle.journal_reader.specs.Journal.{Answers, AreAnswered, EditFits, GoesWrongIn, HasEdits, IsEdit, IsTold, ReadsAs, ReplyFits, StepFits, bare}
use Rattle.journal_reader.proofs.Reaching.{ran}
use Rattle.journal_reader.proofs.Answering.{journal_lines, last_of, parts_of}

-- ---- one reading, one line

pub one_reading : (text : List ℕ) (a b : List Entry) → ReadsAs text a → ReadsAs text b → a ≡ b
one_reading text a b (m, of_a) (n, of_b) =
    let k = journal_lines m a text of_a in
    let l = journal_lines n b text of_b in
    let same = (last_of k.bodies l.bodies [] [] (sym (parts_of a text k) ∙ parts_of b text l)).0 in
    let later : Some k.later ≡ Some l.later = sym k.run ∙ ap (ran nothing) same ∙ l.run in
    let drafts : k.later ≡ l.later = cc in
    let lists : Some a ≡ Some b = sym k.says ∙ ap told drafts ∙ l.says in
    cc

pub one_line : (text : List ℕ) (m n : ℕ) → GoesWrongIn m text → GoesWrongIn n text → m ≡ n
one_line text m n f g = by (cases_order m n) where
  by : (m ≡ n) ⊎ ((m < n) ⊎ (n < m)) → m ≡ n
  by (inl same) = same
  by (inr (inl lt)) = absurd (f.here (g.before m lt))
  by (inr (inr lt)) = absurd (g.here (f.before n lt))

pub again : (text : List ℕ) (entries : List Entry) (answer : Result (List Entry) JournalFault) → ReadsAs text entries
    → Answers text answer → (answer ≡ Ok entries) ⊎ (answer ≡ Err Memory)
again text entries (Ok read) reads answer = inl (ap (λ (es : List Entry). Ok es) (one_reading text read entries answer reads))
again text entries (Err (Syntax line)) reads answer = absurd (answer.none entries reads)
again text entries (Err Memory) reads answer = inr refl

-- ---- leaves aren't told

bare_text : (first : ℕ) (entries : List Entry) → journal_text first entries ≡ journal_text first (map bare entries)
bare_text first [] = refl
bare_text first (e ∷ es) = ap (λ (xs : List ℕ). entry_text first e ++ xs) (bare_text (first + 1) es)

bare_length : (entries : List Entry) → length (map bare entries) ≡ length entries
bare_length [] = refl
bare_length (e ∷ es) = ap suc (bare_length es)

pub bare_reads : (first : ℕ) (entries : List Entry) → first + length entries ≤ 2 ^ 32 → AllByRecursion IsTold (map bare entries)
    → ReadsAs (journal_text first entries) (map bare entries)
bare_reads first entries few all =
    (first, record { numbers = omega (arith, bare_length entries); each = all; text_is = bare_text first entries })

-- ---- what has a spelling can be told

on : (n : ℤ) → FitsSigned w16 n → on_grid n ≡ true
on n fits = grind (arith, ints)

point_on : (p : Point) → FitsPoint p → IsOnGrid p
point_on p fits = (on p.x fits.1.0, on p.y fits.1.1.0, on p.z fits.1.1.1)

edit_fits : (e : Edit) → FitsEdit e → EditFits e
edit_fits (Move v to) fits = (fits.0, point_on to fits.1)
edit_fits (Collapse u v max) fits = (fits.0, fits.1.0)
edit_fits (Flip a b) fits = fits
edit_fits (Simplify max target) fits = fits.1

steps_fit : (ss : List Step) → AllByRecursion FitsStep ss → AllByRecursion StepFits ss
steps_fit [] fits = tt
steps_fit (s ∷ ss) fits = ((fits.0.1.0, fits.0.1.1.0), steps_fit ss fits.1)

reply_fits : (r : Reply) → FitsReply r → ReplyFits r
reply_fits (Unheld v) fits = fits
reply_fits (Frozen v) fits = fits
reply_fits (Link w) fits = fits
reply_fits (Folds t) fits = (fits.1.0, fits.1.1.0, fits.1.1.1)
reply_fits (Edge c d) fits = fits
reply_fits (Simplified ss left) fits = (steps_fit ss fits.1.0, fits.1.1)
reply_fits Same fits = tt
reply_fits Apart fits = tt
reply_fits Border fits = tt
reply_fits Closed fits = tt
reply_fits (Dear cost) fits = tt
reply_fits Outside fits = tt
reply_fits Done fits = tt
reply_fits (DoneAt cost) fits = tt

edits_told : (es before : List Edit) → AllByRecursion FitsEdit es → Keeps (λ before k. is_edit k ≡ true) before es → AllByRecursion IsEdit es
edits_told [] before fits keeps = tt
edits_told (e ∷ es) before fits keeps = ((edit_fits e fits.0, keeps.0), edits_told es (before ++ e ∷ []) fits.1 keeps.1)

no_reply : (rs : List Reply) → length rs ≡ 0 → rs ≡ []
no_reply [] none = refl
no_reply (r ∷ rs) none = absurd (omega arith)

-- the edit behind as many as there are replies before
edit_at : (before es : List Edit) (e : Edit) → slice_get (before ++ e ∷ es) (length before) ≡ Some e
edit_at [] es e = refl
edit_at (x ∷ before) es e = edit_at before es e

answered_told : (all before es : List Edit) (past rs : List Reply) → all ≡ before ++ es → length past ≡ length before
    → AllByRecursion IsEdit es → AllByRecursion FitsReply rs → length rs ≡ length es
    → Keeps (λ p r. reply_follows all p r ≡ true) past rs → AreAnswered es rs
unfolding reply_follows
answered_told all before [] past [] is long edits fits count keeps = tt
answered_told all before [] past (r ∷ rs) is long edits fits count keeps = absurd (omega arith)
answered_told all before (e ∷ es) past [] is long edits fits count keeps = absurd (omega arith)
answered_told all before (e ∷ es) past (r ∷ rs) is long edits fits count keeps =
    let found : slice_get all (length past) ≡ Some e = ap (λ (xs : List Edit). slice_get xs (length past)) is ∙ ap (slice_get (before ++ e ∷ es)) long ∙ edit_at before es e in
    let rule = and_parts (option_map_or (λ x. may_answer x r) (slice_get all (length past)) false) (is_reply r) keeps.0 in
    let may : may_answer e r ≡ true = ap (λ (o : Option Edit). option_map_or (λ x. may_answer x r) o false) (sym found) ∙ rule.0 in (
      (edits.0, (reply_fits r fits.0, may, rule.1)),
      answered_told all (before ++ e ∷ []) es (past ++ r ∷ []) rs (is ∙ sym (append_assoc before (e ∷ []) es))
          (omega (arith, length-append past (r ∷ []), length-append before (e ∷ []))) edits.1 fits.1 (omega arith) keeps.1,
    )

pub spelled_told : (n : NumberedEntry) → FitsEntry n → KeepsEntryRules n → IsTold (bare n.entry)
spelled_told n fits rules =
    let e = n.entry in
    let t = e.task in
    record {
      lane = rules.lane;
      number = fits.task;
      low = point_on t.low fits.low;
      high = point_on t.high fits.high;
      box = rules.box;
      few = rules.edit_count;
      edits = told e.wide refl;
      core = refl;
    } where
      told : (w : Bool) → n.entry.wide ≡ w → HasEdits w n.entry.task.edits n.entry.replies
      told true wide =
          let none : length n.entry.replies ≡ 0 = rules.reply_count ∙ ap (λ (b : Bool). replies_of b (length n.entry.task.edits)) wide in
          (edits_told n.entry.task.edits [] fits.edits rules.edits, no_reply n.entry.replies none)
      told false narrow =
          let count : length n.entry.replies ≡ length n.entry.task.edits =
          rules.reply_count ∙ ap (λ (b : Bool). replies_of b (length n.entry.task.edits)) narrow in
          answered_told n.entry.task.edits [] n.entry.task.edits [] n.entry.replies refl refl
          (edits_told n.entry.task.edits [] fits.edits rules.edits) fits.replies count rules.replies
