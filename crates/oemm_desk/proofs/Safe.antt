-- What a commit keeps of a sound store, and of its mesh.
use Rattle.std.proofs.Common.{◌≡◌, ◌⊎◌, ℕ, ◌+◌, ◌<◌, ◌≤◌, Bool, true, false, cond, nat_lt, List, [], ◌∷◌, ◌++◌, map, length, Option, Some, None, Result, Ok, Err, OnErr, OnOk, sym, ap, ◌∙◌, refl, subst, arith, inl, inr, ⊎_elim}
use Rattle.std.proofs.lemmas.Bool.{false≢true, lt-ltb}
use Rattle.std.proofs.lemmas.List.{map-append}
use Rattle.oemm_limits.specs.declared.TheConstants.{MOST_TASKS}
use Rattle.oemm_octree.specs.Leaves.{is_one_of}
use Rattle.oemm_octree.specs.Octree.{area_of, core_of, is_inside}
use Rattle.mesh_data.specs.declared.edits.Entry.{Entry}
use Rattle.mesh_data.specs.declared.edits.Reply.{Reply}
use Rattle.mesh_data.specs.declared.edits.Task.{Task}
use Rattle.mesh_data.specs.Keeps.{Keeps, tasks_of}
use Rattle.mesh_data.specs.Manifold.{IsManifold}
use Rattle.mesh_data.specs.Mesh.{start}
use Rattle.mesh_data.specs.Work.{Did, Played, do_task, play, wide_entry, work}
use Rattle.work_topology.proofs.WorkKeeps.{play_keeps, task_keeps}
use Rattle.sheet_data.specs.declared.index.IndexSheet.{IndexSheet}
use Rattle.sheet_data.specs.declared.patches.Patch.{Patch}
use Rattle.sheet_data.specs.declared.sheets.LeafSheet.{LeafSheet}
use Rattle.oemm_blobs.specs.Content.{Content, blob_at}
use Rattle.oemm_blobs.specs.Store.{IsCalmWith, StoreState}
use Rattle.oemm_blobs.proofs.Crashes.{at_start, weakened}
use Rattle.mesh_sheets.specs.Sheets.{AreApart, patch}
use Rattle.mesh_sheets.specs.Written.{sheets_of}
use Rattle.sheet_frame.proofs.Plays.{entry_task, play_push, task_leaves}
use Rattle.stored_mesh.specs.Commits.{IsFinished, entry_of}
use Rattle.stored_mesh.specs.Stored.{Base, BytesAt, IsSound, mesh_of, spelled}
use Rattle.stored_mesh.specs.Versions.{next_of}
use Rattle.stored_mesh.proofs.Commits.{mesh_clean, sound_after, sound_before, tiles}
use Rattle.stored_mesh.proofs.Puts.{entry_is, sound_with_entry}
use Rattle.store_spelling.specs.Spelled.{store_spelling}
use Rattle.mesh_data.specs.declared.edits.Edit.{Edit}
use Rattle.oemm_desk.specs.Answered.{CommitAnswers, HasCause, MayCommit, WideAnswers, finished_entry}
use Rattle.oemm_desk.specs.Commits.{CommitsSafely, IsWithEntry, IsWithoutEntry, PutsCommit, TellsAfter}
use Rattle.oemm_desk.specs.Desks.{DeskState, IsSoundAt}
use Rattle.oemm_desk.specs.declared.fault.CommitFault.{CommitFault}
use Rattle.oemm_desk.specs.declared.fault.CommitFault.TheVariants as commit
use Rattle.oemm_desk.specs.declared.fault.Finished.{Finished}
use Rattle.oemm_desk.proofs.Ways.{with_same}

-- ---- contents

module _ (b : Base) (journal : List Entry) (at : BytesAt) (sound : IsSound store_spelling at b journal) where
  -- without its entry a commit has done nothing
  pub still_sound : (now : BytesAt) → IsWithoutEntry (length journal) at now → IsSound store_spelling now b journal
  still_sound now is =
      sound_before store_spelling at now b journal sound is.same (is.entry ∙ sound.ends (length journal) (omega arith))

  -- with its entry it has done its task
  pub finished_sound : (task : Task) (replies : List Reply) (core : List ℕ) (p : Patch) (now : BytesAt)
      → MayCommit journal task.lane task.number
      → IsFinished b.index.cells b.index.core (mesh_of b journal) task replies core p
      → IsWithEntry (length journal) (sheets_of b.index.cells p) (entry_of task replies core) at now
      → IsSound store_spelling now b (journal ++ entry_of task replies core ∷ [])
  finished_sound task replies core p now may finished done =
      sound_with_entry store_spelling at b journal sound task replies core p done.bytes done.before now may.room may.turn
      finished done.way done.put done.spelled

  -- and so has one whose core is too wide, with its entry alone
  pub wide_did : (task : Task) → b.index.core < length (core_of b.index.cells task.low task.high)
      → do_task b.index.cells b.index.core (mesh_of b journal) task ≡ record { mesh = mesh_of b journal; entry = wide_entry task }
  wide_did task wide =
      let m = mesh_of b journal in
      let core = core_of b.index.cells task.low task.high in
      let worked = work (is_inside (area_of b.index.cells core)) m task.edits in
      ap (λ b. let d : Did = cond b (record { mesh = m; entry = wide_entry task }) (record { mesh = worked.mesh; entry = record { task = task; wide = false; replies = worked.replies; core = core } }) in d)
      (lt-ltb b.index.core (length core) wide)

  pub wide_sound : (task : Task) (now : BytesAt) → MayCommit journal task.lane task.number
      → b.index.core < length (core_of b.index.cells task.low task.high)
      → IsWithEntry (length journal) [] (wide_entry task) at now
      → IsSound store_spelling now b (journal ++ wide_entry task ∷ [])
  wide_sound task now may wide done =
      let did = do_task b.index.cells b.index.core (mesh_of b journal) task in
      let entry : did.entry ≡ wide_entry task = ap (λ (d : Did). d.entry) (wide_did task wide) in
      subst (λ (e : Entry). IsSound store_spelling now b (journal ++ e ∷ [])) entry
      (sound_after store_spelling at now b journal sound (with_same (length journal) [] (wide_entry task) at now done) task may.room may.turn
      (ap (spelled store_spelling.entry) done.put.there ∙ done.spelled ∙ (λ i. Some (record { number = length journal; entry = sym entry i })))
      (λ leaf on lt. absurd (false≢true (ap (λ (e : Entry). is_one_of e.core leaf) (sym entry) ∙ on))))

-- ---- stores

some_same : {X : Type 0} (o : Option X) (x y : X) → o ≡ Some x → o ≡ Some y → x ≡ y
some_same o x y is also = let e : Some x ≡ Some y = sym is ∙ also in cc

-- a commit whose entry leads to a sound store is safe
pub commits_safely : {T E : Type 0} (b : Base) (i : IndexSheet) (sheets : List LeafSheet) (e : Entry) (before now : List Entry)
    (old new : StoreState) (result : Result T E) → IsSoundAt old i before b
    → ((at left : BytesAt) → IsSound store_spelling at b before → IsWithEntry (length before) sheets e at left
    → IsSound store_spelling left b (before ++ e ∷ []))
    → OnOk result (now ≡ before ++ e ∷ []) → OnErr result (now ≡ before)
    → PutsCommit (length before) sheets e old new result
    → CommitsSafely b i e before now old new result
commits_safely b i sheets e before now old new result sound leads grown same puts = record {
  sound = elim result as (λ r. OnOk r (now ≡ before ++ e ∷ []) → OnErr r (now ≡ before)
      → PutsCommit (length before) sheets e old new r → IsSoundAt new i now b) [
        | Ok v ↦ λ grew kept put.
            let is = put.done sound.content sound.told in
            let there : IsSound store_spelling (blob_at is.0) b (before ++ e ∷ []) = leads (blob_at sound.content) (blob_at is.0) sound.sound is.2 in
            record {
              content = is.0;
              told = is.1;
              sound = subst (IsSound store_spelling (blob_at is.0) b) (sym grew) there;
              index = sound.index;
            }
        | Err why ↦ λ grew kept put.
            let is = put.refused sound.content sound.told in
            record {
              content = is.0;
              told = is.1;
              sound = subst (IsSound store_spelling (blob_at is.0) b) (sym kept)
                  (still_sound b before (blob_at sound.content) sound.sound (blob_at is.0) is.2);
              index = sound.index;
            }
      ] grown same puts;
  crash = λ m calm.
      let at : IsSound store_spelling (blob_at m) b before =
      subst (λ (c : Content). IsSound store_spelling (blob_at c) b before) (some_same old.content sound.content m sound.told calm.told) sound.sound in
      weakened old new (λ left. IsWithoutEntry (length before) (blob_at m) (blob_at left) ⊎ IsWithEntry (length before) sheets e (blob_at m) (blob_at left))
      (λ left. IsSound store_spelling (blob_at left) b before ⊎ IsSound store_spelling (blob_at left) b (before ++ e ∷ []))
      (puts.crash m calm)
      (λ left is. ⊎_elim (λ out. inl (still_sound b before (blob_at m) at (blob_at left) out))
      (λ done. inr (leads (blob_at m) (blob_at left) at done)) is);
  calm = puts.calm;
}

-- ---- meshes

module _ (b : Base) (journal : List Entry) (e : Entry) where
  -- the mesh after one entry more
  pub mesh_push : mesh_of b (journal ++ e ∷ []) ≡ (do_task b.index.cells b.index.core (mesh_of b journal) e.task).mesh
  mesh_push =
      ap (λ (ts : List Task). (play b.index.cells b.index.core (start b.soup) ts).mesh) (map-append (λ (x : Entry). x.task) journal (e ∷ []))
      ∙ ap (λ (p : Played). p.mesh) (play_push b.index.cells b.index.core (start b.soup) (tasks_of journal) e.task)

  module _ (at : BytesAt) (sound : IsSound store_spelling at b journal) where
    -- it is a manifold with the Euler characteristic and the border of the one before
    pub push_keeps : Keeps (mesh_of b journal) (mesh_of b (journal ++ e ∷ []))
    push_keeps =
        let begun : IsManifold (start b.soup) = sound.stored.built.good.0 in
        let here = (play_keeps b.index.cells b.index.core (start b.soup) (tasks_of journal) begun).manifold in
        subst (Keeps (mesh_of b journal)) (sym mesh_push) (task_keeps b.index.cells b.index.core (mesh_of b journal) e.task here)

    -- and the patches of cores apart from the entry's are as they were
    pub push_patches : (other : List ℕ) → e ≡ (do_task b.index.cells b.index.core (mesh_of b journal) e.task).entry
        → AreApart e.core other
        → patch b.index.cells (mesh_of b (journal ++ e ∷ [])) other ≡ patch b.index.cells (mesh_of b journal) other
    push_patches other is apart =
        let tile = tiles store_spelling at at b journal sound (λ k out. refl) in
        let clean = mesh_clean store_spelling at at b journal sound (λ k out. refl) in
        let leaves = task_leaves b.index.cells b.index.core (mesh_of b journal) e.task tile clean in
        (λ i. patch b.index.cells (mesh_push i) other)
        ∙ sym (leaves.patches other (subst (λ (x : Entry). AreApart x.core other) is apart))

-- the entry of what is finished is the one that its task gives
pub finished_is : (b : Base) (journal : List Entry) (task : Task) (replies : List Reply) (core : List ℕ) (p : Patch)
    → IsFinished b.index.cells b.index.core (mesh_of b journal) task replies core p
    → entry_of task replies core ≡ (do_task b.index.cells b.index.core (mesh_of b journal) task).entry
finished_is b journal task replies core p finished =
    sym (ap (λ (d : Did). d.entry) (entry_is b.index.cells b.index.core (mesh_of b journal) task replies core p finished))

-- ---- no put

-- what was told is told still
pub told_nothing : (s : StoreState) (P : BytesAt → BytesAt → Type 0) → ((at : BytesAt) → P at at) → TellsAfter s s P
told_nothing s P same = λ m is. (m, is, same (blob_at m))

pub nothing_safe : {T E : Type 0} (b : Base) (i : IndexSheet) (e : Entry) (journal : List Entry) (s : StoreState) (why : E)
    → IsSoundAt s i journal b → CommitsSafely {T = T} b i e journal journal s s (Err why)
nothing_safe b i e journal s why sound = record {
  sound = sound;
  crash = λ m calm. at_start s (λ left. IsSound store_spelling (blob_at left) b journal ⊎ IsSound store_spelling (blob_at left) b (journal ++ e ∷ []))
      (λ left was. inl (subst (λ (c : Content). IsSound store_spelling (blob_at c) b journal)
      (some_same s.content sound.content m sound.told calm.told ∙ sym (calm.alone left was)) sound.sound));
  calm = tt;
}

-- ---- calls

-- the commit of what is finished is safe
pub finished_safe : {T E : Type 0} (b : Base) (done : Finished) (i : IndexSheet) (sheets : List LeafSheet)
    (before now : List Entry) (old new : StoreState) (result : Result T E)
    → sheets ≡ sheets_of i.cells done.patch → MayCommit before done.task.lane done.task.number
    → OnOk result (now ≡ before ++ finished_entry done ∷ []) → OnErr result (now ≡ before)
    → PutsCommit (length before) sheets (finished_entry done) old new result → IsSoundAt old i before b
    → IsFinished b.index.cells b.index.core (mesh_of b before) done.task done.replies done.core done.patch
    → CommitsSafely b i (finished_entry done) before now old new result
finished_safe b done i sheets before now old new result are may grew kept puts sound finished =
    commits_safely b i sheets (finished_entry done) before now old new result sound
    (λ at left is with. finished_sound b before at is done.task done.replies done.core done.patch left may finished
    (subst (λ (s : List LeafSheet). IsWithEntry (length before) s (finished_entry done) at left)
    (are ∙ ap (λ (j : IndexSheet). sheets_of j.cells done.patch) sound.index) with))
    grew kept puts

-- and so is that of a task whose core is too wide
pub wide_safe : {T E : Type 0} (b : Base) (task : Task) (i : IndexSheet) (before now : List Entry) (old new : StoreState)
    (result : Result T E) → MayCommit before task.lane task.number
    → i.core < length (core_of i.cells task.low task.high)
    → OnOk result (now ≡ before ++ wide_entry task ∷ []) → OnErr result (now ≡ before)
    → PutsCommit (length before) [] (wide_entry task) old new result → IsSoundAt old i before b
    → CommitsSafely b i (wide_entry task) before now old new result
wide_safe b task i before now old new result may wide grew kept puts sound =
    commits_safely b i [] (wide_entry task) before now old new result sound
    (λ at left is with. wide_sound b before at is task left may
    (subst (λ (j : IndexSheet). j.core < length (core_of j.cells task.low task.high)) sound.index wide) with)
    grew kept puts

-- what a commit makes of the mesh
pub commit_mesh : {T E : Type 0} (b : Base) (i : IndexSheet) (e : Entry) (before now : List Entry) (store : StoreState)
    (result : Result T E) → OnOk result (now ≡ before ++ e ∷ []) → IsSoundAt store i before b
    → OnOk result (Keeps (mesh_of b before) (mesh_of b now))
commit_mesh b i e before now store (Ok v) grew sound =
    subst (λ (js : List Entry). Keeps (mesh_of b before) (mesh_of b js)) (sym grew)
    (push_keeps b before e (blob_at sound.content) sound.sound)
commit_mesh b i e before now store (Err why) grew sound = tt

-- and of the patches of other cores
pub commit_frame : {T E : Type 0} (b : Base) (i : IndexSheet) (done : Finished) (before now : List Entry)
    (store : StoreState) (result : Result T E) → OnOk result (now ≡ before ++ finished_entry done ∷ [])
    → OnErr result (now ≡ before) → IsSoundAt store i before b
    → IsFinished b.index.cells b.index.core (mesh_of b before) done.task done.replies done.core done.patch
    → (other : List ℕ) → AreApart done.core other
    → patch b.index.cells (mesh_of b now) other ≡ patch b.index.cells (mesh_of b before) other
commit_frame b i done before now store (Ok v) grew kept sound finished other apart =
    ap (λ (js : List Entry). patch b.index.cells (mesh_of b js) other) grew
    ∙ push_patches b before (finished_entry done) (blob_at sound.content) sound.sound other
    (finished_is b before done.task done.replies done.core done.patch finished) apart
commit_frame b i done before now store (Err why) grew kept sound finished other apart =
    ap (λ (js : List Entry). patch b.index.cells (mesh_of b js) other) kept

-- a task with too wide a core leaves the mesh as it was
pub wide_mesh : {T E : Type 0} (b : Base) (i : IndexSheet) (task : Task) (before now : List Entry) (store : StoreState)
    (result : Result T E) → i.core < length (core_of i.cells task.low task.high)
    → OnOk result (now ≡ before ++ wide_entry task ∷ []) → OnErr result (now ≡ before) → IsSoundAt store i before b
    → mesh_of b now ≡ mesh_of b before
wide_mesh b i task before now store (Ok v) wide grew kept sound =
    ap (mesh_of b) grew ∙ mesh_push b before (wide_entry task)
    ∙ ap (λ (d : Did). d.mesh) (wide_did b before (blob_at sound.content) sound.sound task
    (subst (λ (j : IndexSheet). j.core < length (core_of j.cells task.low task.high)) sound.index wide))
wide_mesh b i task before now store (Err why) wide grew kept sound = ap (mesh_of b) kept

-- ---- journals

pub commit_grew : {B : Type 0} (done : Finished) (old new : DeskState B) (r : Result ℕ (Finished × CommitFault))
    → CommitAnswers done old new r → OnOk r (new.journal ≡ old.journal ++ finished_entry done ∷ [])
commit_grew done old new (Ok n) is = is.0.journal
commit_grew done old new (Err refused) is = tt

pub commit_kept : {B : Type 0} (done : Finished) (old new : DeskState B) (r : Result ℕ (Finished × CommitFault))
    → CommitAnswers done old new r → OnErr r (new.journal ≡ old.journal)
commit_kept done old new (Ok n) is = tt
commit_kept done old new (Err refused) is = is.1.journal

pub wide_grew : {B : Type 0} (task : Task) (old new : DeskState B) (r : Result ℕ (List Edit × CommitFault))
    → WideAnswers task old new r → OnOk r (new.journal ≡ old.journal ++ wide_entry task ∷ [])
wide_grew task old new (Ok n) is = is.0.journal
wide_grew task old new (Err refused) is = tt

pub wide_kept : {B : Type 0} (task : Task) (old new : DeskState B) (r : Result ℕ (List Edit × CommitFault))
    → WideAnswers task old new r → OnErr r (new.journal ≡ old.journal)
wide_kept task old new (Ok n) is = tt
wide_kept task old new (Err refused) is = is.1.journal

-- ---- answers

-- a task that is refused could have been committed, or nothing was touched
refused_tried : {B : Type 0} (lane number : ℕ) (old new : DeskState B) (why : CommitFault)
    → HasCause lane number old new why → MayCommit old.journal lane number ⊎ (new ≡ old)
refused_tried lane number old new (commit.OutOfTurn expected) is = inr is.2
refused_tried lane number old new (commit.Full entries) is = inr is.3
refused_tried lane number old new commit.Store is = inl is
refused_tried lane number old new commit.Memory is = inl is

module _ {B : Type 0} (store : B → StoreState) (b : Base) (old new : DeskState B) where
  untouched_safe : {T E : Type 0} (e : Entry) (why : E) → new ≡ old
      → IsSoundAt (store old.shelf.blobs) old.shelf.index old.journal b
      → CommitsSafely {T = T} b old.shelf.index e old.journal new.journal (store old.shelf.blobs) (store new.shelf.blobs) (Err why)
  untouched_safe {T = T} e why same sound =
      subst (λ (d : DeskState B). CommitsSafely {T = T} b old.shelf.index e old.journal d.journal (store old.shelf.blobs) (store d.shelf.blobs) (Err why))
      (sym same) (nothing_safe b old.shelf.index e old.journal (store old.shelf.blobs) why sound)

  -- what a commit answers of what is finished, it is safe
  pub commit_safe : (done : Finished) (r : Result ℕ (Finished × CommitFault)) → CommitAnswers done old new r
      → PutsCommit (length old.journal) (sheets_of old.shelf.index.cells done.patch) (finished_entry done)
      (store old.shelf.blobs) (store new.shelf.blobs) r
      → IsSoundAt (store old.shelf.blobs) old.shelf.index old.journal b
      → IsFinished b.index.cells b.index.core (mesh_of b old.journal) done.task done.replies done.core done.patch
      → CommitsSafely b old.shelf.index (finished_entry done) old.journal new.journal (store old.shelf.blobs) (store new.shelf.blobs) r
  commit_safe done (Ok n) is puts sound finished =
      finished_safe b done old.shelf.index (sheets_of old.shelf.index.cells done.patch) old.journal new.journal
      (store old.shelf.blobs) (store new.shelf.blobs) (Ok n) refl is.0.may is.0.journal tt puts sound finished
  commit_safe done (Err refused) is puts sound finished =
      ⊎_elim
      (λ may. finished_safe b done old.shelf.index (sheets_of old.shelf.index.cells done.patch) old.journal new.journal
      (store old.shelf.blobs) (store new.shelf.blobs) (Err refused) refl may tt is.1.journal puts sound finished)
      (λ same. untouched_safe (finished_entry done) refused same sound)
      (refused_tried done.task.lane done.task.number old new refused.1 is.2)

  -- and so is that of a task whose core is too wide
  pub commit_wide_safe : (task : Task) (r : Result ℕ (List Edit × CommitFault)) → WideAnswers task old new r
      → PutsCommit (length old.journal) [] (wide_entry task) (store old.shelf.blobs) (store new.shelf.blobs) r
      → old.shelf.index.core < length (core_of old.shelf.index.cells task.low task.high)
      → IsSoundAt (store old.shelf.blobs) old.shelf.index old.journal b
      → CommitsSafely b old.shelf.index (wide_entry task) old.journal new.journal (store old.shelf.blobs) (store new.shelf.blobs) r
  commit_wide_safe task (Ok n) is puts wide sound =
      wide_safe b task old.shelf.index old.journal new.journal (store old.shelf.blobs) (store new.shelf.blobs) (Ok n)
      is.0.may wide is.0.journal tt puts sound
  commit_wide_safe task (Err refused) is puts wide sound =
      ⊎_elim
      (λ may. wide_safe b task old.shelf.index old.journal new.journal (store old.shelf.blobs) (store new.shelf.blobs) (Err refused)
      may wide tt is.1.journal puts sound)
      (λ same. untouched_safe (wide_entry task) refused same sound)
      (refused_tried task.lane task.number old new refused.1 is.2)
