-- What the calls of a desk answer, and why.
use Rattle.std.specs.Prelude.{◌≡◌, ◌≢◌, ℕ, ◌<◌, ◌≤◌, List, [], ◌∷◌, ◌++◌, length, Some, Result, Ok, Err, None, ⊤}
use Rattle.oemm_limits.specs.declared.TheConstants.{MOST_TASKS}
use Rattle.oemm_octree.specs.declared.points.Point.{Point}
use Rattle.oemm_octree.specs.Octree.{core_of}
use Rattle.mesh_data.specs.declared.edits.Edit.{Edit}
use Rattle.mesh_data.specs.declared.edits.Entry.{Entry}
use Rattle.mesh_data.specs.declared.edits.Task.{Task}
use Rattle.mesh_data.specs.Work.{wide_entry}
use Rattle.sheet_data.specs.declared.index.IndexSheet.{IndexSheet}
use Rattle.sheet_data.specs.declared.patches.Patch.{Patch}
use Rattle.oemm_blobs.specs.declared.blobs.StoreFail.{StoreFail}
use Rattle.oemm_blobs.specs.declared.blobs.StoreFail.TheVariants as store
use Rattle.checkout_table.specs.Holders.{AreFree, HoldersSet, IsLeastHeld}
use Rattle.sheet_forms.specs.Formed.{IsPatchFor}
use Rattle.stored_mesh.specs.Commits.{entry_of}
use Rattle.stored_mesh.specs.Versions.{next_of}
use Rattle.oemm_shelf.specs.Readings.{IsOfStore}
use Rattle.oemm_shelf.specs.declared.fault.FoundFault.{FoundFault}
use Rattle.oemm_shelf.specs.declared.fault.ShelfFault.{ShelfFault}
use Rattle.oemm_desk.specs.Desks.{DeskState, IsDesk, IsFree, SameHolders}
use Rattle.oemm_desk.specs.declared.fault.CommitFault.{CommitFault}
use Rattle.oemm_desk.specs.declared.fault.CommitFault.TheVariants as commit
use Rattle.oemm_desk.specs.declared.fault.Finished.{Finished}
use Rattle.oemm_desk.specs.declared.fault.TakeFault.{TakeFault}
use Rattle.oemm_desk.specs.declared.fault.TakeFault.TheVariants as take
use Rattle.oemm_desk.specs.declared.fault.Taken.{Taken}

-- ---- founding

-- what was found by a call that gives a desk, or the store back
abbrev pub found_by : {B : Type 0} → Result (DeskState B) (B × FoundFault) → Result (IndexSheet × List Entry) FoundFault
found_by (Ok desk) = Ok (desk.shelf.index, desk.journal)
found_by (Err failed) = Err failed.1

-- and the store after it
abbrev pub left_by : {B : Type 0} → Result (DeskState B) (B × FoundFault) → B
left_by (Ok desk) = desk.shelf.blobs
left_by (Err failed) = failed.0

-- a desk as it is founded: no leaf is held, and no sheet kept
pub record IsFounded {B : Type 0} (desk : DeskState B) (cache : ℕ) : Type 0 where
  pub is_desk : IsDesk desk.shelf.index desk.shelf.versions desk.holders desk.journal
  pub free : IsFree desk.holders
  pub capacity : desk.shelf.capacity ≡ cache
  pub cached : desk.shelf.cached ≡ []

-- ---- checkouts

-- the core of a box
abbrev pub box_core : {B : Type 0} → DeskState B → Point → Point → List ℕ
box_core desk low high = core_of desk.shelf.index.cells low high

-- the core of the box is no more than a task may check out, and was free; the lane holds it now, and has its patch
pub record IsTaken {B : Type 0} (lane : ℕ) (low high : Point) (old new : DeskState B) (taken : Taken) : Type 0 where
  pub few : length (box_core old low high) ≤ old.shelf.index.core
  pub free : AreFree old.holders (box_core old low high)
  pub held : HoldersSet (Some lane) (box_core old low high) old.holders new.holders
  pub of_lane : taken.lane ≡ lane
  pub number : taken.number ≡ next_of old.journal lane
  pub of_low : taken.low ≡ low
  pub of_high : taken.high ≡ high
  pub core : taken.core ≡ box_core old low high
  pub formed : IsPatchFor old.shelf.index.cells taken.core taken.patch

-- the core was taken, and given back as its patch can't be read
pub record IsGivenBack {B : Type 0} (low high : Point) (old new : DeskState B) : Type 0 where
  pub few : length (box_core old low high) ≤ old.shelf.index.core
  pub free : AreFree old.holders (box_core old low high)
  pub holders : SameHolders old.holders new.holders

-- What a checkout answers: `Wide` exactly where the core has too many leaves; else `Busy` exactly where one of them is
-- held; else what the shelf says. The first two have touched nothing, nor has want of memory before it.
abbrev pub TakeAnswers : {B : Type 0} → ℕ → Point → Point → DeskState B → DeskState B → Result Taken TakeFault → Type 0
TakeAnswers lane low high old new (Ok taken) = IsTaken lane low high old new taken
TakeAnswers lane low high old new (Err (take.Wide leaves)) =
    (old.shelf.index.core < length (box_core old low high)) × (leaves ≡ length (box_core old low high)) × (new ≡ old)
TakeAnswers lane low high old new (Err (take.Busy leaf of)) =
    (length (box_core old low high) ≤ old.shelf.index.core)
    × IsLeastHeld old.holders (box_core old low high) (record { leaf = leaf; lane = of }) × (new ≡ old)
TakeAnswers lane low high old new (Err (take.Shelf why)) = IsGivenBack low high old new
TakeAnswers lane low high old new (Err take.Memory) = new ≡ old

-- what the shelf answered, if it was asked, has P
abbrev pub AsksPatch : (Result Patch ShelfFault → Type 0) → Result Taken TakeFault → Type 0
AsksPatch P (Ok taken) = P (Ok taken.patch)
AsksPatch P (Err (take.Shelf why)) = P (Err why)
AsksPatch P (Err _) = ⊤

-- ---- commits

-- the fault that tells why a store's call failed
abbrev pub commit_fault : StoreFail → CommitFault
commit_fault store.Failed = commit.Store
commit_fault store.Memory = commit.Memory

-- the entry of what was done
abbrev pub finished_entry : Finished → Entry
finished_entry done = entry_of done.task done.replies done.core

-- the lane's next task
abbrev pub next_task : List Entry → ℕ → Point → Point → List Edit → Task
next_task journal lane low high edits =
    record { lane = lane; number = next_of journal lane; low = low; high = high; edits = edits }

-- the number of the task is its lane's next, and the journal has room
pub record MayCommit (journal : List Entry) (lane number : ℕ) : Type 0 where
  pub turn : number ≡ next_of journal lane
  pub room : length journal < MOST_TASKS

-- the entry stands behind the others, under this number
pub record IsCommitted (e : Entry) (before now : List Entry) (n : ℕ) : Type 0 where
  pub may : MayCommit before e.task.lane e.task.number
  pub number : n ≡ length before
  pub journal : now ≡ before ++ e ∷ []

-- Why a task was refused: `OutOfTurn` exactly where it isn't its lane's next, else `Full` exactly where the journal is
-- full; these two have touched nothing.
abbrev pub HasCause : {B : Type 0} → ℕ → ℕ → DeskState B → DeskState B → CommitFault → Type 0
HasCause lane number old new (commit.OutOfTurn expected) =
    (expected ≡ next_of old.journal lane) × (number ≢ expected) × (new ≡ old)
HasCause lane number old new (commit.Full entries) =
    (number ≡ next_of old.journal lane) × (entries ≡ length old.journal) × (length old.journal ≡ MOST_TASKS) × (new ≡ old)
HasCause lane number old new commit.Store = MayCommit old.journal lane number
HasCause lane number old new commit.Memory = MayCommit old.journal lane number

-- holders, journal and versions are as they were
pub record IsRefused {B : Type 0} (old new : DeskState B) : Type 0 where
  pub holders : new.holders ≡ old.holders
  pub journal : new.journal ≡ old.journal
  pub versions : new.shelf.versions ≡ old.shelf.versions

-- what a commit answers
abbrev pub CommitAnswers : {B : Type 0} → Finished → DeskState B → DeskState B → Result ℕ (Finished × CommitFault) → Type 0
CommitAnswers done old new (Ok n) =
    IsCommitted (finished_entry done) old.journal new.journal n × HoldersSet None done.core old.holders new.holders
CommitAnswers done old new (Err refused) =
    (refused.0 ≡ done) × IsRefused old new × HasCause done.task.lane done.task.number old new refused.1

-- and what one of a task with too wide a core does
abbrev pub WideAnswers : {B : Type 0} → Task → DeskState B → DeskState B → Result ℕ (List Edit × CommitFault) → Type 0
WideAnswers task old new (Ok n) =
    IsCommitted (wide_entry task) old.journal new.journal n × (new.holders ≡ old.holders)
WideAnswers task old new (Err refused) =
    (refused.0 ≡ task.edits) × IsRefused old new × HasCause task.lane task.number old new refused.1

-- the answer without what is handed back
abbrev pub told_by : {X : Type 0} → Result ℕ (X × CommitFault) → Result ℕ CommitFault
told_by (Ok n) = Ok n
told_by (Err refused) = Err refused.1

-- ---- over a sound store

-- the patch is this one, or the store failed, or memory was wanting
abbrev pub GivesPatch : Patch → Result Patch ShelfFault → Type 0
GivesPatch p (Ok q) = q ≡ p
GivesPatch p (Err why) = IsOfStore why
