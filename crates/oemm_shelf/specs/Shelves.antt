-- A shelf, and what its calls make of it.
use Rattle.std.specs.Prelude.{◌≡◌, ◌⊎◌, ℕ, ◌+◌, ◌<◌, ◌≤◌, List, length, slice_index, if◌then◌else◌, Some, Result, IsErr, OnOk}
use Rattle.oemm_octree.specs.Leaves.{AreTiles, is_one_of}
use Rattle.sheet_data.specs.declared.index.IndexSheet.{IndexSheet}
use Rattle.leaf_codec.specs.Index.{KeepsIndexRules}
use Rattle.oemm_blobs.specs.Content.{Content, blob_at}
use Rattle.oemm_blobs.specs.Store.{StoreState, Keeps, Changes, CountsOne}
use Rattle.oemm_blobs.specs.declared.blobs.StoreFail.{StoreFail}
use Rattle.oemm_blobs.specs.declared.keys.Key.{Key}
use Rattle.mesh_data.specs.declared.edits.Entry.{Entry}
use Rattle.stored_mesh.specs.Stored.{Base, IsSound}
use Rattle.stored_mesh.specs.Versions.{version}
use Rattle.store_spelling.specs.Spelled.{store_spelling}

-- the store, its index, the version of each leaf, how many sheets may be kept in memory, and of which leaves, in which
-- versions, there are some
pub record ShelfState (B : Type 0) : Type 0 where
  pub blobs : B
  pub index : IndexSheet
  pub versions : List ℕ
  pub capacity : ℕ
  pub cached : List (ℕ × ℕ)

-- what holds of every shelf's index and versions
pub record IsShelf (i : IndexSheet) (versions : List ℕ) : Type 0 where
  pub tiles : AreTiles i.cells
  pub rules : KeepsIndexRules i
  pub each : length versions ≡ length i.cells

-- each leaf has its version by a journal
abbrev pub AreVersions : IndexSheet → List Entry → List ℕ → Type 0
AreVersions i journal versions =
    (leaf : ℕ) → leaf < length i.cells → slice_index versions leaf ≡ version journal leaf

-- the leaves of a core have the version of an entry of this number, and all others theirs
pub record AreRaised (core : List ℕ) (number : ℕ) (old new : List ℕ) : Type 0 where
  pub each : length new ≡ length old
  pub is : (leaf : ℕ) → leaf < length old
      → slice_index new leaf ≡ (if is_one_of core leaf then number + 1 else slice_index old leaf)

-- the index is that of a sound content, and each leaf has its version by the journal
pub record IsOver (i : IndexSheet) (versions : List ℕ) (m : Content) (b : Base) (journal : List Entry) : Type 0 where
  pub sound : IsSound store_spelling (blob_at m) b journal
  pub index : i ≡ b.index
  pub each : AreVersions i journal versions

-- a call made at most so many gets, no put, and no change
pub record Reads (most : ℕ) (old new : StoreState) : Type 0 where
  pub keeps : Keeps old new
  pub kept_gets : old.gets ≤ new.gets
  pub gets : new.gets ≤ old.gets + most
  pub puts : new.puts ≡ old.puts

-- the index, the versions and the capacity are as they were
pub record IsSame {B : Type 0} (old new : ShelfState B) : Type 0 where
  pub index : new.index ≡ old.index
  pub versions : new.versions ≡ old.versions
  pub capacity : new.capacity ≡ old.capacity

-- A value was to be put under a key: these bytes, which spell it, were asked for, unless memory ran out before. A put
-- that answers Ok was counted.
pub record Puts {T : Type 0} (k : Key) (Spells : List ℕ → Type 0) (old new : StoreState)
    (result : Result T StoreFail) : Type 0 where
  pub bytes : List ℕ
  pub changes : Changes (record { key = k; bytes = Some bytes }) old new result
  pub spelled : Spells bytes ⊎ (IsErr result × Keeps old new)
  pub gets : new.gets ≡ old.gets
  pub kept_puts : old.puts ≤ new.puts
  pub puts : new.puts ≤ old.puts + 1
  pub one : OnOk result (CountsOne old.puts new.puts)
