-- A store while sheets and an index are put into it.
use Rattle.std.specs.Prelude.{◌≡◌, ◌⊎◌, ℕ, ◌<◌, List, length, Some, Result, OnOk, OnErr, ⊤}
use Rattle.oemm_limits.specs.declared.TheConstants.{MOST_LEAVES}
use Rattle.oemm_octree.specs.declared.cells.Cell.{Cell}
use Rattle.mesh_data.specs.Mesh.{Mesh}
use Rattle.sheet_data.specs.declared.index.IndexSheet.{IndexSheet}
use Rattle.oemm_blobs.specs.Content.{Content, blob_at}
use Rattle.oemm_blobs.specs.Store.{IsCalmWith, LeavesOnly, StoreState}
use Rattle.oemm_blobs.specs.declared.keys.Key.{Key}
use Rattle.oemm_blobs.specs.declared.keys.Key.TheVariants as key
use Rattle.mesh_sheets.specs.Sheets.{sheet}
use Rattle.stored_mesh.specs.Stored.{BytesAt, spelled}
use Rattle.store_spelling.specs.Spelled.{store_spelling}

-- the key is that of the sheet of version 0 of one of the first n leaves
abbrev pub IsFirstSheet : ℕ → Key → Type 0
IsFirstSheet n (key.Leaf leaf version) = (leaf < n) × (version ≡ 0)
IsFirstSheet n _ = ⊥

-- the bytes are the same but under such keys
abbrev pub IsSameButSheets : ℕ → BytesAt → BytesAt → Type 0
IsSameButSheets n at now = (k : Key) → (IsFirstSheet n k → ⊥) → now k ≡ at k

-- the first n leaves have their sheets of the mesh in version 0
abbrev pub HasFirstSheets : BytesAt → List Cell → Mesh → ℕ → Type 0
HasFirstSheets now cells m n = (leaf : ℕ) → leaf < n
    → spelled store_spelling.sheet (now (key.Leaf leaf 0)) ≡ Some (sheet cells m leaf)

-- so they have, and all else is as it was
pub record AreLaid (cells : List Cell) (m : Mesh) (n : ℕ) (at now : BytesAt) : Type 0 where
  pub there : HasFirstSheets now cells m n
  pub others : IsSameButSheets n at now

-- the key is that of the index, or of such a sheet
abbrev pub IsOfBuild : ℕ → Key → Type 0
IsOfBuild n key.Index = ⊤
IsOfBuild n (key.Leaf leaf version) = IsFirstSheet n (key.Leaf leaf version)
IsOfBuild n _ = ⊥

-- the index stands there, and for all its leaves the sheets of the mesh in version 0; and all else is as it was
pub record IsBuiltOver (i : IndexSheet) (m : Mesh) (at now : BytesAt) : Type 0 where
  pub index : spelled store_spelling.index (now key.Index) ≡ Some i
  pub there : HasFirstSheets now i.cells m (length i.cells)
  pub others : (k : Key) → (IsOfBuild (length i.cells) k → ⊥) → now k ≡ at k

-- ---- what is told, and what crashes leave

-- where a content was told one is told still, and the two are so related
abbrev pub TellsStill : (BytesAt → BytesAt → Type 0) → StoreState → StoreState → Type 0
TellsStill R old new = (content : Content) → old.content ≡ Some content
    → (now : Content) × (new.content ≡ Some now) × R (blob_at content) (blob_at now)

-- the store was calm, and a crash since then leaves what is so related to its content alone
abbrev pub LeavesSo : (BytesAt → BytesAt → Type 0) → StoreState → StoreState → Type 0
LeavesSo R old new = (content : Content) → IsCalmWith old content
    → LeavesOnly old new (λ left. R (blob_at content) (blob_at left))

-- the sheets of the first n leaves were put
pub record Lays (cells : List Cell) (m : Mesh) (n : ℕ) (old new : StoreState) : Type 0 where
  pub told : TellsStill (AreLaid cells m n) old new
  pub crash : LeavesSo (IsSameButSheets n) old new
  pub calm : (content : Content) → IsCalmWith old content
      → (now : Content) × IsCalmWith new now × AreLaid cells m n (blob_at content) (blob_at now)

-- some sheets of version 0 were put, and no more
pub record Stops (old new : StoreState) : Type 0 where
  pub told : TellsStill (IsSameButSheets MOST_LEAVES) old new
  pub crash : LeavesSo (IsSameButSheets MOST_LEAVES) old new

-- no more than such sheets, or all that is to be put
abbrev pub MayLeave : IndexSheet → Mesh → BytesAt → BytesAt → Type 0
MayLeave i m at left = IsSameButSheets MOST_LEAVES at left ⊎ IsBuiltOver i m at left

-- the sheets and then the index were put, up to the first put that was refused
pub record LaysAll {T E : Type 0} (i : IndexSheet) (m : Mesh) (old new : StoreState) (result : Result T E) : Type 0 where
  pub ok : OnOk result (TellsStill (IsBuiltOver i m) old new)
  pub err : OnErr result (TellsStill (IsSameButSheets MOST_LEAVES) old new)
  pub crash : LeavesSo (MayLeave i m) old new
  pub calm : OnOk result ((content : Content) → IsCalmWith old content → (now : Content) × IsCalmWith new now)
