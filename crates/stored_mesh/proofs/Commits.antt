-- A store stays sound through commits.
use Rattle.std.proofs.Common.{◌≡◌, ◌≢◌, ℕ, ◌+◌, ◌<◌, ◌≤◌, true, cond, List, [], ◌∷◌, ◌++◌, map, length, Some, None, sym, ap, ◌∙◌, subst, arith, inl, inr, length-append}
use Rattle.std.proofs.lemmas.Bool.{cases_lt, cases_Bool}
use Rattle.std.proofs.lemmas.List.{get_or_append_left, get_or_at, map-append}
use Rattle.oemm_limits.specs.declared.TheConstants.{MOST_TASKS}
use Rattle.oemm_octree.specs.declared.cells.Cell.{Cell}
use Rattle.mesh_data.specs.declared.edits.Entry.{Entry}
use Rattle.mesh_data.specs.declared.edits.Task.{Task}
use Rattle.mesh_data.specs.Mesh.{Mesh, start}
use Rattle.mesh_data.specs.Work.{do_task, play, Played}
use Rattle.sheet_data.specs.declared.index.NumberedEntry.{NumberedEntry}
use Rattle.oemm_blobs.specs.declared.keys.Key.TheVariants as key
use Rattle.oemm_octree.specs.Leaves.{AreTiles, is_one_of}
use Rattle.mesh_sheets.specs.Sheets.{sheet}
use Rattle.stored_mesh.specs.Stored.{BytesAt, Spelling, spelled, Base, mesh_of, played, IsBuilt, IsSound, IsChecked}
use Rattle.stored_mesh.specs.Versions.{version, next_of}
use Rattle.stored_mesh.specs.Commits.{IsSameBut}
use Rattle.oemm_octree.proofs.Tilings.{leaves_tile}
use Rattle.stored_mesh.proofs.Versions.{version_push, version_below, numbered_push}
use Rattle.sheet_frame.proofs.Plays.{play_push, entry_task, task_leaves, clean_play, start_clean}
use Rattle.mesh_sheets.specs.Clean.{IsClean}

-- what is sound is checked
pub sound_checked : (spell : Spelling) (at : BytesAt) (b : Base) (journal : List Entry) → IsSound spell at b journal → IsChecked spell at b journal
sound_checked spell at b journal sound = record { stored = sound.stored; ends = λ _. sound.ends (length journal) (omega arith) }

module _ (spell : Spelling) (at new : BytesAt) (b : Base) (journal : List Entry) (sound : IsSound spell at b journal) (same : IsSameBut (length journal) at new) where
  cells : List Cell
  cells = b.index.cells

  old_sheet : (leaf v : ℕ) → v ≤ length journal → new (key.Leaf leaf v) ≡ at (key.Leaf leaf v)
  old_sheet leaf v le = same (key.Leaf leaf v) (λ is. absurd (omega arith))

  old_entry : (n : ℕ) → n ≢ length journal → new (key.Entry n) ≡ at (key.Entry n)
  old_entry n other = same (key.Entry n) other

  built_still : IsBuilt spell new b
  built_still =
      let old = sound.stored.built in
      record {
        index = ap (spelled spell.index) (same key.Index (λ never. never)) ∙ old.index;
        grid = old.grid;
        few_points = old.few_points;
        few_faces = old.few_faces;
        cells = old.cells;
        good = old.good;
        sheets = λ leaf lt. ap (spelled spell.sheet) (old_sheet leaf 0 (omega arith)) ∙ old.sheets leaf lt;
      }

  -- as long as its entry isn't there, a commit has changed nothing
  pub sound_before : new (key.Entry (length journal)) ≡ None → IsSound spell new b journal
  sound_before none = record {
    stored = record {
      built = built_still;
      few = sound.stored.few;
      entries = λ n d lt. ap (spelled spell.entry) (old_entry n (λ is. absurd (omega arith))) ∙ sound.stored.entries n d lt;
      numbered = sound.stored.numbered;
      given = sound.stored.given;
      sheets = λ leaf lt. ap (spelled spell.sheet) (old_sheet leaf (version journal leaf) (version_below journal leaf)) ∙ sound.stored.sheets leaf lt;
    };
    ends = λ n le. elim (cases_lt (length journal) n) [
      | inl above ↦ old_entry n (λ is. absurd (omega arith)) ∙ sound.ends n le
      | inr under ↦ let is : n ≡ length journal = omega arith in ap (λ (k : ℕ). new (key.Entry k)) is ∙ none
    ];
  }

  pub tiles : AreTiles b.index.cells
  tiles = subst AreTiles (sym sound.stored.built.cells) (leaves_tile b.soup.points b.index.cap)

  -- the mesh of a sound store is clean
  pub mesh_clean : IsClean (mesh_of b journal)
  mesh_clean = (clean_play b.index.cells b.index.core (map (λ e. e.task) journal) (start b.soup) (start_clean b.soup sound.stored.built.good.0)).clean

  -- once the sheets of its core and its entry are there, a commit has done its task
  pub sound_after : (t : Task) → length journal < MOST_TASKS → t.number ≡ next_of journal t.lane
      → let d = do_task b.index.cells b.index.core (mesh_of b journal) t in
      spelled spell.entry (new (key.Entry (length journal))) ≡ Some (record { number = length journal; entry = d.entry })
      → ((leaf : ℕ) → is_one_of d.entry.core leaf ≡ true → leaf < length b.index.cells → spelled spell.sheet (new (key.Leaf leaf (length journal + 1))) ≡ Some (sheet b.index.cells d.mesh leaf))
      → IsSound spell new b (journal ++ d.entry ∷ [])
  sound_after t room number entry sheets =
      let limit = b.index.core in
      let m = mesh_of b journal in
      let d = do_task b.index.cells limit m t in
      let e = d.entry in
      let more = journal ++ e ∷ [] in
      let task : e.task ≡ t = entry_task b.index.cells limit m t in
      let tasks : map (λ (x : Entry). x.task) more ≡ map (λ (x : Entry). x.task) journal ++ t ∷ [] =
      map-append (λ (x : Entry). x.task) journal (e ∷ []) ∙ ap (λ (x : Task). map (λ (x : Entry). x.task) journal ++ x ∷ []) task in
      let plays : play b.index.cells limit (start b.soup) (map (λ (x : Entry). x.task) more) ≡ record { mesh = d.mesh; journal = (played b journal).journal ++ e ∷ [] } =
      ap (play b.index.cells limit (start b.soup)) tasks ∙ play_push b.index.cells limit (start b.soup) (map (λ (x : Entry). x.task) journal) t in
      let mesh : mesh_of b more ≡ d.mesh = ap (λ (p : Played). p.mesh) plays in
      let same_given : (played b more).journal ≡ more = ap (λ (p : Played). p.journal) plays ∙ ap (λ (es : List Entry). es ++ e ∷ []) sound.stored.given in
      let long : length more ≡ length journal + 1 = length-append journal (e ∷ []) ∙ omega arith in
      let leaves_on = task_leaves b.index.cells limit m t tiles mesh_clean in
      record {
        stored = record {
          built = built_still;
          few = omega arith;
          entries = λ n x lt. elim (cases_lt n (length journal)) [
            | inl under ↦ ap (spelled spell.entry) (old_entry n (λ is. absurd (omega arith))) ∙ sound.stored.entries n x under
                ∙ ap (λ (y : Entry). let e : NumberedEntry = record { number = n; entry = y } in Some e) (sym (get_or_append_left journal (e ∷ []) x n under))
            | inr above ↦
                let is : n ≡ length journal = omega arith in
                ap (λ (k : ℕ). spelled spell.entry (new (key.Entry k))) is ∙ entry
                ∙ (λ i. let f : NumberedEntry = record { number = sym is i; entry = sym (get_or_at journal e [] x n (sym is)) i } in Some f)
          ];
          numbered = numbered_push journal e sound.stored.numbered (ap (λ (x : Task). x.number) task ∙ number ∙ ap (λ (x : Task). next_of journal x.lane) (sym task));
          given = same_given;
          sheets = λ leaf lt. elim (cases_Bool (is_one_of e.core leaf)) [
            | inl on ↦
                ap (λ (v : ℕ). spelled spell.sheet (new (key.Leaf leaf v))) (version_push journal e leaf ∙ ap (λ b. cond b (length journal + 1) (version journal leaf)) on)
                ∙ sheets leaf on lt
                ∙ ap (λ (n : Mesh). Some (sheet b.index.cells n leaf)) (sym mesh)
            | inr out ↦
                ap (λ (v : ℕ). spelled spell.sheet (new (key.Leaf leaf v))) (version_push journal e leaf ∙ ap (λ b. cond b (length journal + 1) (version journal leaf)) out)
                ∙ ap (spelled spell.sheet) (old_sheet leaf (version journal leaf) (version_below journal leaf))
                ∙ sound.stored.sheets leaf lt
                ∙ (λ i. Some (leaves_on.sheets leaf out i))
                ∙ ap (λ (n : Mesh). Some (sheet b.index.cells n leaf)) (sym mesh)
          ];
        };
        ends = λ n le. old_entry n (λ is. absurd (omega arith)) ∙ sound.ends n (omega arith);
      }
