-- An opening over a checked store finds its index and its journal.
use Rattle.std.proofs.Common.{◌≡◌, ℕ, ◌+◌, ◌-◌, ◌<◌, ◌≤◌, true, false, cond, eqb, ltb, nat_lt, List, [], ◌∷◌, ◌++◌, length, length-append, append_assoc, get_or, refl, sym, ap, ◌∙◌, subst, arith, Option, Some, None, Result, Ok, inl, inr}
use Rattle.std.proofs.Math.Seq.{get_or-append_seam}
use Rattle.std.proofs.lemmas.Bool.{and_from, cases_lt, eq-eqb, false≢true}
use Rattle.std.proofs.lemmas.List.{append-nil}
use Rattle.std.specs.List.{AllByRecursion}
use Rattle.oemm_limits.specs.declared.TheConstants.{MOST_TASKS}
use Rattle.oemm_octree.specs.declared.cells.Cell.{Cell}
use Rattle.oemm_octree.specs.Leaves.{AreBelow, AreTiles}
use Rattle.oemm_octree.specs.Octree.{area_of, core_of, is_inside}
use Rattle.oemm_octree.proofs.CoreHomes.{core_below}
use Rattle.oemm_octree.proofs.Tilings.{leaves_tile}
use Rattle.mesh_data.specs.declared.edits.Entry.{Entry}
use Rattle.mesh_data.specs.declared.edits.Task.{Task}
use Rattle.mesh_data.specs.Keeps.{tasks_of}
use Rattle.mesh_data.specs.Mesh.{Mesh, start}
use Rattle.mesh_data.specs.Work.{Did, do_task, play, wide_entry, work}
use Rattle.oemm_blobs.specs.Content.{Content, blob_at}
use Rattle.oemm_blobs.specs.declared.keys.Key.TheVariants as key
use Rattle.sheet_data.specs.declared.index.IndexSheet.{IndexSheet}
use Rattle.sheet_data.specs.declared.index.NumberedEntry.{NumberedEntry}
use Rattle.store_spelling.specs.Spelled.{store_spelling}
use Rattle.stored_mesh.specs.Stored.{Base, HasEntries, IsChecked, IsSound, spelled}
use Rattle.stored_mesh.specs.Versions.{AreNumberedAfter, next_of}
use Rattle.stored_mesh.proofs.Commits.{sound_checked}
use Rattle.oemm_shelf.specs.Opened.{entries_from, entries_upto, entry_answer, found_in, index_found, is_next, or_fault, tile_cube, with_entries}
use Rattle.oemm_shelf.specs.Readings.{◌>>=◌, or_damaged}
use Rattle.oemm_shelf.specs.Shelves.{AreVersions, IsOver}
use Rattle.oemm_shelf.specs.declared.fault.FoundFault.{FoundFault}
use Rattle.oemm_shelf.specs.declared.fault.ShelfFault.{ShelfFault}
use Rattle.oemm_shelf.proofs.Entering.{no_turn, one_turn}
use Rattle.oemm_shelf.proofs.Indexes.{passes, tile_cube_is}
use Rattle.oemm_shelf.proofs.Sound.{all_of_each, each_below}

-- ---- the leaves of a journal's cores are among the index's

task_core : (cells : List Cell) (limit : ℕ) (m : Mesh) (t : Task) → AreBelow (length cells) (do_task cells limit m t).entry.core
task_core cells limit m t =
    let core = core_of cells t.low t.high in
    let worked = work (is_inside (area_of cells core)) m t.edits in
    elim (nat_lt limit (length core)) as (λ b.
    let d : Did = cond b (record { mesh = m; entry = wide_entry t }) (record {
      mesh = worked.mesh;
      entry = record { task = t; wide = false; replies = worked.replies; core = core };
    }) in
    AreBelow (length cells) d.entry.core) [
      | true ↦ λ l on. absurd (false≢true on)
      | false ↦ core_below cells t.low t.high
    ]

play_cores : (cells : List Cell) (limit : ℕ) (ts : List Task) (m : Mesh)
    → AllByRecursion (λ e. AreBelow (length cells) e.core) (play cells limit m ts).journal
play_cores cells limit [] m = tt
play_cores cells limit (t ∷ ts) m = (task_core cells limit m t, play_cores cells limit ts (do_task cells limit m t).mesh)

-- ---- one entry

found_entry : (i : IndexSheet) (before : List Entry) (e : Entry) (o : Option (List ℕ))
    → spelled store_spelling.entry o ≡ Some (record { number = length before; entry = e })
    → e.task.number ≡ next_of before e.task.lane → AreBelow (length i.cells) e.core
    → entry_answer i before o ≡ Ok (Some (record { number = length before; entry = e }))
found_entry i before e None is task core = absurd (cc)
found_entry i before e (Some bytes) is task core =
    let n : NumberedEntry = record { number = length before; entry = e } in
    let test : is_next i before n ≡ true =
    and_from _ _ (eq-eqb (length before) (length before) refl)
    (and_from _ _ (eq-eqb e.task.number (next_of before e.task.lane) task)
    (all_of_each (λ (l : ℕ). ltb l (length i.cells)) e.core (each_below (length i.cells) e.core core))) in
    ap (λ (found : Option NumberedEntry). or_damaged (key.Entry (length before)) bytes found >>= (λ n. Ok (Some n)))
    (sym (passes (is_next i before) (store_spelling.entry bytes) n is test))

-- ---- all of them

module _ (i : IndexSheet) (m : Content) (journal : List Entry) (most : ℕ) (few : length journal ≤ most)
    (there : HasEntries store_spelling (blob_at m) journal)
    (ends : length journal < most → blob_at m (key.Entry (length journal)) ≡ None) where
  no_more : (before : List Entry) → before ≡ journal → entries_from i (most - length before) before m ≡ Ok journal
  no_more before is =
      elim (cases_lt (length before) most) [
        | inl lt ↦
            one_turn i most before m lt
            ∙ ap (λ (o : Option (List ℕ)). entries_upto before (entry_answer i before o) (λ now. entries_from i (most - (length before + 1)) now m))
            (ap (λ (es : List Entry). blob_at m (key.Entry (length es))) is ∙ ends (subst (λ (es : List Entry). length es < most) is lt))
            ∙ ap Ok is
        | inr le ↦
            let none : most - length before ≡ 0 = omega arith in
            ap (λ (k : ℕ). entries_from i k before m) none ∙ no_turn i before m ∙ ap Ok is
      ]

  entries_found : (rest before : List Entry) → before ++ rest ≡ journal → AreNumberedAfter before rest
      → AllByRecursion (λ e. AreBelow (length i.cells) e.core) rest
      → entries_from i (most - length before) before m ≡ Ok journal
  entries_found [] before is numbered cores = no_more before (sym (append-nil before) ∙ is)
  entries_found (e ∷ rest) before is numbered cores =
      let long = ap (λ (es : List Entry). length es) is in
      let lt : length before < length journal = omega (arith, long, length-append before (e ∷ rest)) in
      let stands : spelled store_spelling.entry (blob_at m (key.Entry (length before))) ≡ Some (record { number = length before; entry = e }) =
      there (length before) e lt
      ∙ ap (λ (x : Entry). Some (record { number = length before; entry = x }))
      (ap (λ (es : List Entry). get_or es (length before) e) (sym is) ∙ get_or-append_seam before e rest e) in
      one_turn i most before m (omega (arith, lt, few))
      ∙ ap (λ (w : Result (Option NumberedEntry) ShelfFault). entries_upto before w (λ now. entries_from i (most - (length before + 1)) now m))
      (found_entry i before e (blob_at m (key.Entry (length before))) stands numbered.0 cores.0)
      ∙ ap (λ (k : ℕ). entries_from i (most - k) (before ++ e ∷ []) m) (sym (length-append before (e ∷ [])))
      ∙ entries_found rest (before ++ e ∷ []) (append_assoc before (e ∷ []) rest ∙ is) numbered.1 cores.1

-- ---- the index, and all of it

index_there : (o : Option (List ℕ)) (i : IndexSheet) → spelled store_spelling.index o ≡ Some i → AreTiles i.cells
    → index_found o ≡ Ok i
index_there None i is tiles = absurd (cc)
index_there (Some bytes) i is tiles =
    ap (λ (found : Option IndexSheet). or_fault (or_damaged key.Index bytes found))
    (sym (passes (λ (i : IndexSheet). tile_cube i.cells) (store_spelling.index bytes) i is ((tile_cube_is i.cells).1 tiles)))

pub found_checked : (b : Base) (journal : List Entry) (m : Content) → IsChecked store_spelling (blob_at m) b journal
    → found_in m ≡ Ok (b.index, journal)
found_checked b journal m checked =
    let stored = checked.stored in
    let tiles = subst AreTiles (sym stored.built.cells) (leaves_tile b.soup.points b.index.cap) in
    let cores = subst (AllByRecursion (λ e. AreBelow (length b.index.cells) e.core)) stored.given
    (play_cores b.index.cells b.index.core (tasks_of journal) (start b.soup)) in
    ap (with_entries m) (index_there (blob_at m key.Index) b.index stored.built.index tiles)
    ∙ ap (λ (entries : Result (List Entry) ShelfFault). or_fault (entries >>= (λ entries. Ok (b.index, entries))))
    (entries_found b.index m journal MOST_TASKS stored.few stored.entries checked.ends journal [] refl stored.numbered cores)

one_answer : (r : Result (IndexSheet × List Entry) FoundFault) (x y : IndexSheet × List Entry) → r ≡ Ok x → r ≡ Ok y → x ≡ y
one_answer r x y first second = let same = sym first ∙ second in cc

-- so a shelf that is opened over a sound store is over it
pub opened_over : (b : Base) (journal : List Entry) (m : Content) (i : IndexSheet) (entries : List Entry) (versions : List ℕ)
    → IsSound store_spelling (blob_at m) b journal → found_in m ≡ Ok (i, entries) → AreVersions i entries versions
    → IsOver i versions m b journal
opened_over b journal m i entries versions sound is each =
    let same = one_answer (found_in m) (i, entries) (b.index, journal) is
    (found_checked b journal m (sound_checked store_spelling (blob_at m) b journal sound)) in
    record {
      sound = sound;
      index = ap (λ (x : IndexSheet × List Entry). x.0) same;
      each = subst (λ (x : IndexSheet × List Entry). AreVersions i x.1 versions) same each;
    }
