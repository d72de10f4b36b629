-- A desk: the shelf of a store, the holder of each leaf, and the journal.
use Rattle.std.specs.Prelude.{◌≡◌, ◌≢◌, ℕ, true, List, length, Option, Some, None}
use Rattle.oemm_octree.specs.Leaves.{is_one_of}
use Rattle.mesh_data.specs.declared.edits.Entry.{Entry}
use Rattle.sheet_data.specs.declared.index.IndexSheet.{IndexSheet}
use Rattle.oemm_blobs.specs.Content.{Content, blob_at}
use Rattle.oemm_blobs.specs.Store.{StoreState}
use Rattle.checkout_table.specs.Holders.{holder}
use Rattle.stored_mesh.specs.Stored.{Base, IsSound}
use Rattle.store_spelling.specs.Spelled.{store_spelling}
use Rattle.oemm_shelf.specs.Shelves.{AreVersions, IsShelf, ShelfState}
use Rattle.oemm_shelf.specs.Shown.{AreEntries}

-- the shelf, the holder of each leaf, if it has one, and the entries of the journal
pub record DeskState (B : Type 0) : Type 0 where
  pub shelf : ShelfState B
  pub holders : List (Option ℕ)
  pub journal : List Entry

-- what holds of every desk: each lane below 64, the tasks of each lane numbered in their order, each leaf in its version
-- by the journal, and a holder's place for each leaf
pub record IsDesk (i : IndexSheet) (versions : List ℕ) (holders : List (Option ℕ)) (journal : List Entry) : Type 0 where
  pub shelf : IsShelf i versions
  pub given : AreEntries i journal
  pub each : AreVersions i journal versions
  pub places : length holders ≡ length i.cells

-- ---- holders

-- the lane holds no leaf
abbrev pub HoldsNone : List (Option ℕ) → ℕ → Type 0
HoldsNone holders lane = (leaf : ℕ) → holder holders leaf ≢ Some lane

-- the lane holds these leaves, and no others
pub record HoldsJust (holders : List (Option ℕ)) (lane : ℕ) (core : List ℕ) : Type 0 where
  pub these : (leaf : ℕ) → is_one_of core leaf ≡ true → holder holders leaf ≡ Some lane
  pub no_other : (leaf : ℕ) → holder holders leaf ≡ Some lane → is_one_of core leaf ≡ true

-- each of these leaves is held
abbrev pub AreHeld : List (Option ℕ) → List ℕ → Type 0
AreHeld holders core = (leaf : ℕ) → is_one_of core leaf ≡ true → (lane : ℕ) × (holder holders leaf ≡ Some lane)

-- no leaf is held
abbrev pub IsFree : List (Option ℕ) → Type 0
IsFree holders = (leaf : ℕ) → holder holders leaf ≡ None

-- each leaf has the holder that it had
pub record SameHolders (old new : List (Option ℕ)) : Type 0 where
  pub leaves : length new ≡ length old
  pub each : (leaf : ℕ) → holder new leaf ≡ holder old leaf

-- ---- the store

-- the store tells a content that is sound over the base with this journal, and the index is the base's
pub record IsSoundAt (store : StoreState) (i : IndexSheet) (journal : List Entry) (b : Base) : Type 0 where
  pub content : Content
  pub told : store.content ≡ Some content
  pub sound : IsSound store_spelling (blob_at content) b journal
  pub index : i ≡ b.index
