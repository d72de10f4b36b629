-- Entries behind others.
use Rattle.std.proofs.Common.{◌≡◌, ℕ, suc, ◌+◌, ◌-◌, ◌<◌, ◌≤◌, Bool, true, false, cond, ◌&&◌, eqb, ltb, List, [], ◌∷◌, ◌++◌, length, length-append, refl, sym, ap, ◌∙◌, subst, arith, Option, Some, None, Result, Ok, Err}
use Rattle.std.specs.Prelude.{slice_index, IfSome}
use Rattle.std.specs.List.{list_all}
use Rattle.std.proofs.lemmas.Bool.{and_parts, eqb-true}
use Rattle.std.proofs.lemmas.List.Elements.{All-push, All-nil}
use Rattle.oemm_limits.specs.declared.TheConstants.{LAST_LANE, MOST_TASKS}
use Rattle.oemm_octree.specs.Leaves.{AreBelow}
use Rattle.mesh_data.specs.declared.edits.Entry.{Entry}
use Rattle.oemm_blobs.specs.Content.{Content, blob_at}
use Rattle.oemm_blobs.specs.Store.{IfTold}
use Rattle.oemm_blobs.specs.declared.keys.Key.{Key}
use Rattle.oemm_blobs.specs.declared.keys.Key.TheVariants as key
use Rattle.sheet_data.specs.declared.index.IndexSheet.{IndexSheet}
use Rattle.sheet_data.specs.declared.index.NumberedEntry.{NumberedEntry}
use Rattle.stored_mesh.specs.Versions.{next_of}
use Rattle.stored_mesh.proofs.Versions.{numbered_push}
use Rattle.oemm_shelf.specs.Opened.{entries_from, entries_upto, entry_answer, entry_in, is_next}
use Rattle.oemm_shelf.specs.Readings.{Answers, if_passes, or_damaged}
use Rattle.oemm_shelf.specs.Shown.{AreEntries, CountLanes, IsNext}
use Rattle.oemm_shelf.specs.declared.fault.ShelfFault.{ShelfFault}
use Rattle.oemm_shelf.specs.declared.fault.ShelfFault.TheVariants as fault
use Rattle.oemm_shelf.proofs.Formed.{below_of, each_of_all}

pub next_is : (i : IndexSheet) (before : List Entry) (n : NumberedEntry) (lanes : List ℕ) (cells : ℕ) (r : Bool)
    → CountLanes lanes before → n.entry.task.lane ≤ LAST_LANE → cells ≡ length i.cells
    → r ≡ (eqb n.number (length before) && (eqb n.entry.task.number (slice_index lanes n.entry.task.lane) && list_all (λ l. ltb l cells) n.entry.core))
    → is_next i before n ≡ r
next_is i before n lanes cells r counted lane many is =
    let same = counted.1 n.entry.task.lane (omega (arith, lane)) in
    sym (is ∙ (λ j. eqb n.number (length before) && (eqb n.entry.task.number (same j) && list_all (λ l. ltb l (many j)) n.entry.core)))

damaged_ok : {T : Type 0} (k : Key) (bytes : List ℕ) (o : Option T) (x : T) → Ok x ≡ or_damaged k bytes o → o ≡ Some x
damaged_ok k bytes None x is = absurd (cc)
damaged_ok k bytes (Some y) x is = let same : x ≡ y = cc in ap Some (sym same)

passed : {T : Type 0} (test : T → Bool) (o : Option T) (x : T) → if_passes test o ≡ Some x → test x ≡ true
passed test None x is = absurd (cc)
passed test (Some y) x is =
    elim (test y) as (λ b. test y ≡ b → cond b (Some y) None ≡ Some x → test x ≡ true) [
      | true ↦ λ on some. let same : y ≡ x = cc in ap test (sym same) ∙ on
      | false ↦ λ _ some. absurd (cc)
    ] refl is

pub next_told : (i : IndexSheet) (before : List Entry) (bytes : List ℕ) (n : NumberedEntry) (found : Option NumberedEntry)
    (k : Key) (given : List ℕ) → found ≡ entry_in i before bytes → IfSome found (λ n. n.entry.task.lane ≤ LAST_LANE)
    → Ok n ≡ or_damaged k given found → IsNext i before n
next_told i before bytes n found k given is lane ok =
    let some : found ≡ Some n = damaged_ok k given found n ok in
    let test : is_next i before n ≡ true = passed (is_next i before) _ n (sym is ∙ some) in
    let first = and_parts (eqb n.number (length before)) _ test in
    let second = and_parts (eqb n.entry.task.number (next_of before n.entry.task.lane)) _ first.1 in
    record {
      number = eqb-true n.number (length before) first.0;
      task = eqb-true n.entry.task.number (next_of before n.entry.task.lane) second.0;
      lane = subst (λ (o : Option NumberedEntry). IfSome o (λ n. n.entry.task.lane ≤ LAST_LANE)) some lane;
      core = below_of (length i.cells) n.entry.core (each_of_all (λ (l : ℕ). ltb l (length i.cells)) n.entry.core second.1);
    }

-- ---- entries one after another

pub no_entries : (i : IndexSheet) → AreEntries i []
no_entries i = record {
  few = omega arith;
  numbered = tt;
  lanes = All-nil (λ e. e.task.lane ≤ LAST_LANE);
  cores = All-nil (λ e. AreBelow (length i.cells) e.core);
}

pub one_more : (i : IndexSheet) (es : List Entry) (n : NumberedEntry) → length es < MOST_TASKS → AreEntries i es
    → IsNext i es n → AreEntries i (es ++ n.entry ∷ [])
one_more i es n room given next = record {
  few = omega (arith, length-append es (n.entry ∷ []), room);
  numbered = numbered_push es n.entry given.numbered next.task;
  lanes = All-push (λ e. e.task.lane ≤ LAST_LANE) es n.entry given.lanes next.lane;
  cores = All-push (λ e. AreBelow (length i.cells) e.core) es n.entry given.cores next.core;
}

turn : (i : IndexSheet) (k : ℕ) (es : List Entry) (m : Content) → entries_from i (suc k) es m
    ≡ entries_upto es (entry_answer i es (blob_at m (key.Entry (length es)))) (λ now. entries_from i k now m)
unfolding entries_from
turn i k es m = refl

pub no_turn : (i : IndexSheet) (es : List Entry) (m : Content) → entries_from i 0 es m ≡ Ok es
unfolding entries_from
no_turn i es m = refl

pub one_turn : (i : IndexSheet) (most : ℕ) (es : List Entry) (m : Content) → length es < most → entries_from i (most - length es) es m
    ≡ entries_upto es (entry_answer i es (blob_at m (key.Entry (length es)))) (λ now. entries_from i (most - (length es + 1)) now m)
one_turn i most es m lt =
    let e : most - length es ≡ suc (most - (length es + 1)) = omega arith in
    ap (λ (k : ℕ). entries_from i k es m) e ∙ turn i (most - (length es + 1)) es m

abbrev pub Continues : Option Content → IndexSheet → ℕ → List Entry → Type 0
Continues told i most es = IfTold told (λ m. entries_from i most [] m ≡ entries_from i (most - length es) es m)

stops : (why : ShelfFault) (es : List Entry) (want : Result (Option NumberedEntry) ShelfFault)
    (more : List Entry → Result (List Entry) ShelfFault) (all : Result (List Entry) ShelfFault)
    → Answers {T = Option NumberedEntry} (Err why) want → all ≡ entries_upto es want more → Answers {T = List Entry} (Err why) all
stops fault.Store es want more all is split = tt
stops fault.Memory es want more all is split = tt
stops (fault.Damaged k bytes) es want more all is split = split ∙ ap (λ (w : Result (Option NumberedEntry) ShelfFault). entries_upto es w more) is
stops (fault.Absent k) es want more all is split = split ∙ ap (λ (w : Result (Option NumberedEntry) ShelfFault). entries_upto es w more) is
stops (fault.Clash clash) es want more all is split = split ∙ ap (λ (w : Result (Option NumberedEntry) ShelfFault). entries_upto es w more) is

module _ (told : Option Content) (i : IndexSheet) (most : ℕ) where
  pub continues_none : Continues told i most []
  continues_none = λ m is. ap (λ (k : ℕ). entries_from i k [] m) (omega arith)

  module _ (es : List Entry) (so_far : Continues told i most es) where
    pub continues_full : most ≤ length es → IfTold told (λ m. Answers (Ok es) (entries_from i most [] m))
    continues_full le = λ m is.
        let none : most - length es ≡ 0 = omega arith in
        so_far m is ∙ ap (λ (k : ℕ). entries_from i k es m) none ∙ no_turn i es m

    module _ (lt : length es < most) (now : Option Content) (same : now ≡ told) where
      there : (m : Content) → told ≡ Some m → entries_from i most [] m
          ≡ entries_upto es (entry_answer i es (blob_at m (key.Entry (length es)))) (λ now. entries_from i (most - (length es + 1)) now m)
      there m is = so_far m is ∙ one_turn i most es m lt

      pub continues_more : (n : NumberedEntry)
          → IfTold now (λ m. Answers (Ok (Some n)) (entry_answer i es (blob_at m (key.Entry (length es)))))
          → Continues told i most (es ++ n.entry ∷ [])
      continues_more n answer = λ m is.
          there m is
          ∙ ap (λ (w : Result (Option NumberedEntry) ShelfFault). entries_upto es w (λ now. entries_from i (most - (length es + 1)) now m)) (answer m (same ∙ is))
          ∙ ap (λ (k : ℕ). entries_from i (most - k) (es ++ n.entry ∷ []) m) (sym (length-append es (n.entry ∷ [])))

      pub continues_end : IfTold now (λ m. Answers (Ok None) (entry_answer i es (blob_at m (key.Entry (length es)))))
          → IfTold told (λ m. Answers (Ok es) (entries_from i most [] m))
      continues_end answer = λ m is.
          there m is
          ∙ ap (λ (w : Result (Option NumberedEntry) ShelfFault). entries_upto es w (λ now. entries_from i (most - (length es + 1)) now m)) (answer m (same ∙ is))

      pub continues_stop : (why : ShelfFault)
          → IfTold now (λ m. Answers {T = Option NumberedEntry} (Err why) (entry_answer i es (blob_at m (key.Entry (length es)))))
          → IfTold told (λ m. Answers {T = List Entry} (Err why) (entries_from i most [] m))
      continues_stop why answer = λ m is.
          stops why es (entry_answer i es (blob_at m (key.Entry (length es)))) (λ now. entries_from i (most - (length es + 1)) now m)
          (entries_from i most [] m) (answer m (same ∙ is)) (there m is)
