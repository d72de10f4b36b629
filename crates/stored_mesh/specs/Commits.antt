-- How a commit leaves a store.
use Rattle.std.specs.Prelude.{◌≡◌, ◌≢◌, ℕ, ◌+◌, ◌≤◌, false, List, length, Some}
use Rattle.std.specs.List.{AllByRecursion}
use Rattle.oemm_octree.specs.declared.cells.Cell.{Cell}
use Rattle.oemm_octree.specs.Octree.{area_of, core_of, is_inside}
use Rattle.mesh_data.specs.declared.edits.Entry.{Entry}
use Rattle.mesh_data.specs.declared.edits.Reply.{Reply}
use Rattle.mesh_data.specs.declared.edits.Task.{Task}
use Rattle.mesh_data.specs.Mesh.{Mesh}
use Rattle.mesh_data.specs.Work.{work}
use Rattle.sheet_data.specs.declared.patches.Patch.{Patch}
use Rattle.sheet_data.specs.declared.sheets.LeafSheet.{LeafSheet}
use Rattle.oemm_blobs.specs.declared.keys.Key.{Key}
use Rattle.oemm_blobs.specs.declared.keys.Key.TheVariants as key
use Rattle.mesh_sheets.specs.Sheets.{patch}
use Rattle.stored_mesh.specs.Stored.{BytesAt, Spelling, spelled}

-- the keys that commit n can change: leaves in version n + 1, and entry n
abbrev pub IsOfCommit : ℕ → Key → Type 0
IsOfCommit n (key.Leaf leaf version) = version ≡ n + 1
IsOfCommit n (key.Entry k) = k ≡ n
IsOfCommit n _ = ⊥

-- the bytes are the same but under keys of commit n
abbrev pub IsSameBut : ℕ → BytesAt → BytesAt → Type 0
IsSameBut n at new = (k : Key) → (IsOfCommit n k → ⊥) → new k ≡ at k

-- what a put leaves: its bytes under its key, and all else as it was
pub record IsPut (at : BytesAt) (k : Key) (bytes : List ℕ) (new : BytesAt) : Type 0 where
  pub there : new k ≡ Some bytes
  pub others : (q : Key) → q ≢ k → new q ≡ at q

-- commit n has put these sheets, and not its entry
pub record IsUnderWay (spell : Spelling) (at now : BytesAt) (n : ℕ) (sheets : List LeafSheet) : Type 0 where
  pub same : IsSameBut n at now
  pub entry : now (key.Entry n) ≡ at (key.Entry n)
  pub there : AllByRecursion (λ s. spelled spell.sheet (now (key.Leaf s.leaf (n + 1))) ≡ Some s) sheets

-- the entry of a task that isn't wide
abbrev pub entry_of : Task → List Reply → List ℕ → Entry
entry_of task replies core = record { task = task; wide = false; replies = replies; core = core }

-- What the commit of a task is given: the core of its box, which isn't wide, the replies of its edits on it, and its
-- patch of the mesh that they leave.
pub record IsFinished (cells : List Cell) (limit : ℕ) (m : Mesh) (task : Task) (replies : List Reply) (core : List ℕ)
    (p : Patch) : Type 0 where
  pub box : core ≡ core_of cells task.low task.high
  pub few : length core ≤ limit
  pub said : replies ≡ (work (is_inside (area_of cells core)) m task.edits).replies
  pub left : p ≡ patch cells (work (is_inside (area_of cells core)) m task.edits).mesh core
