-- The puts of a commit, one by one.
use Rattle.std.proofs.Common.{◌≡◌, ◌≢◌, ℕ, ◌+◌, ◌<◌, ◌≤◌, Bool, true, false, cond, eqb, List, [], ◌∷◌, ◌++◌, map, length, Some, sym, ap, ◌∙◌, refl, subst, arith, inl, inr}
use Rattle.std.proofs.lemmas.Bool.{or_cases, eqb-true, eqb-false, false≢true, or_parts, le-ltb}
use Rattle.std.specs.List.{AllByRecursion}
use Rattle.oemm_limits.specs.declared.TheConstants.{MOST_TASKS}
use Rattle.oemm_octree.specs.declared.cells.Cell.{Cell}
use Rattle.mesh_data.specs.declared.edits.Entry.{Entry}
use Rattle.mesh_data.specs.declared.edits.Reply.{Reply}
use Rattle.mesh_data.specs.declared.edits.Task.{Task}
use Rattle.mesh_data.specs.Mesh.{Mesh}
use Rattle.oemm_octree.specs.Octree.{core_of, area_of, is_inside}
use Rattle.mesh_data.specs.Work.{do_task, work, Did, wide_entry}
use Rattle.sheet_data.specs.declared.sheets.LeafSheet.{LeafSheet}
use Rattle.sheet_data.specs.declared.patches.Patch.{Patch}
use Rattle.sheet_data.specs.declared.index.NumberedEntry.{NumberedEntry}
use Rattle.oemm_blobs.specs.declared.keys.Key.{Key}
use Rattle.oemm_blobs.specs.declared.keys.Key.TheVariants as key
use Rattle.mesh_sheets.specs.Written.{sheets_of}
use Rattle.oemm_octree.specs.Leaves.{AreBelow, is_one_of}
use Rattle.mesh_sheets.specs.Sheets.{sheet}
use Rattle.stored_mesh.specs.Stored.{BytesAt, Spelling, spelled, Base, mesh_of, IsSound}
use Rattle.stored_mesh.specs.Versions.{next_of}
use Rattle.stored_mesh.specs.Commits.{IsOfCommit, IsSameBut, IsPut, IsUnderWay, IsFinished, entry_of}
use Rattle.stored_mesh.proofs.Commits.{sound_before, sound_after, mesh_clean}
use Rattle.oemm_octree.proofs.CoreHomes.{core_below}
use Rattle.sheet_frame.proofs.Cleans.{clean_work}
use Rattle.mesh_sheets.proofs.Writing.{sheets_of_is}

key_leaf : Key → ℕ
key_leaf (key.Leaf leaf version) = leaf
key_leaf _ = 0

leaves_apart : (k l v : ℕ) → k ≢ l → key.Leaf k v ≢ key.Leaf l v
unfolding key_leaf
leaves_apart k l v apart is = apart (ap key_leaf is)

abbrev is_leaf : Key → Bool
is_leaf (key.Leaf leaf version) = true
is_leaf _ = false

leaf_no_entry : (l v n : ℕ) → key.Entry n ≢ key.Leaf l v
leaf_no_entry l v n is = false≢true (ap is_leaf is)

entry_no_leaf : (l v n : ℕ) → key.Leaf l v ≢ key.Entry n
entry_no_leaf l v n is = false≢true (sym (ap is_leaf is))

module _ (spell : Spelling) (at : BytesAt) (n : ℕ) where
  pub none_put : IsUnderWay spell at at n []
  none_put = record { same = λ k other. refl; entry = refl; there = tt }

  still_there : (now new : BytesAt) (s : LeafSheet) (bytes : List ℕ) (done : List LeafSheet) → IsPut now (key.Leaf s.leaf (n + 1)) bytes new → spell.sheet bytes ≡ Some s → is_one_of (map (λ (x : LeafSheet). x.leaf) done) s.leaf ≡ false
      → AllByRecursion (λ (x : LeafSheet). spelled spell.sheet (now (key.Leaf x.leaf (n + 1))) ≡ Some x) done
      → AllByRecursion (λ (x : LeafSheet). spelled spell.sheet (new (key.Leaf x.leaf (n + 1))) ≡ Some x) (done ++ s ∷ [])
  still_there now new s bytes [] put is other all = (ap (spelled spell.sheet) put.there ∙ is, tt)
  still_there now new s bytes (x ∷ done) put is other all =
      let parts = or_parts (eqb s.leaf x.leaf) (is_one_of (map (λ (x : LeafSheet). x.leaf) done) s.leaf) other in
      (ap (spelled spell.sheet) (put.others (key.Leaf x.leaf (n + 1)) (leaves_apart x.leaf s.leaf (n + 1) (λ e. eqb-false s.leaf x.leaf parts.0 (sym e)))) ∙ all.0, still_there now new s bytes done put is parts.1 all.1)

  -- one sheet more
  pub sheet_put : (now new : BytesAt) (done : List LeafSheet) (s : LeafSheet) (bytes : List ℕ) → IsUnderWay spell at now n done → IsPut now (key.Leaf s.leaf (n + 1)) bytes new → spell.sheet bytes ≡ Some s
      → is_one_of (map (λ (x : LeafSheet). x.leaf) done) s.leaf ≡ false → IsUnderWay spell at new n (done ++ s ∷ [])
  sheet_put now new done s bytes way put is other =
      record {
        same = λ k out. put.others k (λ e. out (subst (IsOfCommit n) (sym e) refl)) ∙ way.same k out;
        entry = put.others (key.Entry n) (leaf_no_entry s.leaf (n + 1) n) ∙ way.entry;
        there = still_there now new s bytes done put is other way.there;
      }

-- the entry of a task that is finished is the one that doing it gives
pub entry_is : (cells : List Cell) (limit : ℕ) (m : Mesh) (t : Task) (replies : List Reply) (core : List ℕ) (p : Patch) → IsFinished cells limit m t replies core p
    → do_task cells limit m t ≡ record { mesh = (work (is_inside (area_of cells core)) m t.edits).mesh; entry = entry_of t replies core }
entry_is cells limit m t replies core p done =
    let box = core_of cells t.low t.high in
    let few : length box ≤ limit = subst (λ (ls : List ℕ). length ls ≤ limit) done.box done.few in
    let worked = work (is_inside (area_of cells box)) m t.edits in
    ap (λ b. let d : Did = cond b (record { mesh = m; entry = wide_entry t }) (record { mesh = worked.mesh; entry = record { task = t; wide = false; replies = worked.replies; core = box } }) in d) (le-ltb limit (length box) few)
    ∙ (λ i. record { mesh = (work (is_inside (area_of cells (sym done.box i))) m t.edits).mesh; entry = record { task = t; wide = false; replies = (work (is_inside (area_of cells (sym done.box i))) m t.edits).replies; core = sym done.box i } })
    ∙ (λ i. record { mesh = (work (is_inside (area_of cells core)) m t.edits).mesh; entry = record { task = t; wide = false; replies = sym done.said i; core = core } })

there_at : (spell : Spelling) (now : BytesAt) (v : ℕ) (cells : List Cell) (m : Mesh) (core : List ℕ) → AllByRecursion (λ (s : LeafSheet). spelled spell.sheet (now (key.Leaf s.leaf v)) ≡ Some s) (map (sheet cells m) core)
    → (leaf : ℕ) → is_one_of core leaf ≡ true → spelled spell.sheet (now (key.Leaf leaf v)) ≡ Some (sheet cells m leaf)
unfolding sheet
there_at spell now v cells m [] all leaf on = absurd (false≢true on)
there_at spell now v cells m (l ∷ core) all leaf on =
    elim (or_cases (eqb leaf l) (is_one_of core leaf) on) [
      | inl here ↦ subst (λ (k : ℕ). spelled spell.sheet (now (key.Leaf k v)) ≡ Some (sheet cells m k)) (sym (eqb-true leaf l here)) all.0
      | inr more ↦ there_at spell now v cells m core all.1 leaf more
    ]

module _ (spell : Spelling) (at : BytesAt) (b : Base) (journal : List Entry) (sound : IsSound spell at b journal) where
  -- a commit under way has changed nothing
  pub sound_under_way : (now : BytesAt) (done : List LeafSheet) → IsUnderWay spell at now (length journal) done → IsSound spell now b journal
  sound_under_way now done way = sound_before spell at now b journal sound way.same (way.entry ∙ sound.ends (length journal) (omega arith))

  -- with its entry it has done its task
  pub sound_with_entry : (t : Task) (replies : List Reply) (core : List ℕ) (p : Patch) (bytes : List ℕ) (now new : BytesAt) → length journal < MOST_TASKS → t.number ≡ next_of journal t.lane
      → IsFinished b.index.cells b.index.core (mesh_of b journal) t replies core p
      → IsUnderWay spell at now (length journal) (sheets_of b.index.cells p)
      → let e : Entry = entry_of t replies core in
      IsPut now (key.Entry (length journal)) bytes new → spell.entry bytes ≡ Some (record { number = length journal; entry = e })
      → IsSound spell new b (journal ++ e ∷ [])
  sound_with_entry t replies core p bytes now new room number done way put spells =
      let n = length journal in
      let cells = b.index.cells in
      let m = mesh_of b journal in
      let e : Entry = entry_of t replies core in
      let d = do_task cells b.index.core m t in
      let is = entry_is cells b.index.core m t replies core p done in
      let entry : d.entry ≡ e = ap (λ (d : Did). d.entry) is in
      let mesh : d.mesh ≡ (work (is_inside (area_of cells core)) m t.edits).mesh = ap (λ (d : Did). d.mesh) is in
      let below : AreBelow (length cells) core = subst (AreBelow (length cells)) (sym done.box) (core_below cells t.low t.high) in
      let clean = (clean_work (is_inside (area_of cells core)) t.edits m (mesh_clean spell at at b journal sound (λ k out. refl))).clean in
      let sheets : sheets_of cells p ≡ map (sheet cells d.mesh) core =
      ap (sheets_of cells) done.left ∙ sheets_of_is cells (work (is_inside (area_of cells core)) m t.edits).mesh core below clean.sorted ∙ ap (λ (k : Mesh). map (sheet cells k) core) (sym mesh) in
      let there = there_at spell now (n + 1) cells d.mesh core (subst (AllByRecursion (λ (s : LeafSheet). spelled spell.sheet (now (key.Leaf s.leaf (n + 1))) ≡ Some s)) sheets way.there) in
      let same : IsSameBut n at new = λ k out. put.others k (λ is. out (subst (IsOfCommit n) (sym is) refl)) ∙ way.same k out in
      subst (λ (x : Entry). IsSound spell new b (journal ++ x ∷ [])) entry
      (sound_after spell at new b journal sound same t room number
      (ap (spelled spell.entry) put.there ∙ spells ∙ ap (λ (x : Entry). let f : NumberedEntry = record { number = n; entry = x } in Some f) (sym entry))
      (λ leaf on lt. ap (spelled spell.sheet) (put.others (key.Leaf leaf (n + 1)) (entry_no_leaf leaf (n + 1) n)) ∙ there leaf (ap (λ (x : Entry). is_one_of x.core leaf) (sym entry) ∙ on)))
