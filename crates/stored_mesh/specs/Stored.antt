-- When what a store has under its keys is a mesh and the journal that led to it.
use Rattle.std.specs.Prelude.{◌≡◌, ℕ, ◌<◌, ◌≤◌, List, length, Option, Some, None, slice_index_or, All}
use Rattle.oemm_limits.specs.declared.TheConstants.{MOST_ITEMS, MOST_TASKS}
use Rattle.oemm_octree.specs.Leaves.{leaves}
use Rattle.oemm_octree.specs.Octree.{IsOnGrid}
use Rattle.mesh_data.specs.declared.edits.Entry.{Entry}
use Rattle.mesh_data.specs.declared.geometry.Soup.{Soup}
use Rattle.mesh_data.specs.declared.shapes.Audit.TheVariants.{Good}
use Rattle.mesh_data.specs.Keeps.{tasks_of}
use Rattle.mesh_data.specs.Manifold.{Audits}
use Rattle.mesh_data.specs.Mesh.{Mesh, start}
use Rattle.mesh_data.specs.Work.{Played, play}
use Rattle.sheet_data.specs.declared.index.IndexSheet.{IndexSheet}
use Rattle.sheet_data.specs.declared.index.NumberedEntry.{NumberedEntry}
use Rattle.sheet_data.specs.declared.sheets.LeafSheet.{LeafSheet}
use Rattle.oemm_blobs.specs.declared.keys.Key.{Key}
use Rattle.oemm_blobs.specs.declared.keys.Key.TheVariants as key
use Rattle.mesh_sheets.specs.Sheets.{sheet}
use Rattle.stored_mesh.specs.Versions.{AreNumbered, version}

-- the bytes under each key, or none
abbrev pub BytesAt : Type 0
BytesAt = Key → Option (List ℕ)

-- which index, sheet and entry bytes spell, and none where they spell nothing
pub record Spelling : Type 0 where
  pub index : List ℕ → Option IndexSheet
  pub sheet : List ℕ → Option LeafSheet
  pub entry : List ℕ → Option NumberedEntry

-- what the bytes that stand somewhere spell, if some do
abbrev pub spelled : {X : Type 0} → (List ℕ → Option X) → Option (List ℕ) → Option X
spelled spells None = None
spelled spells (Some bytes) = spells bytes

-- what a store was built from: its octree, limits and numbers, and the points and faces of its first mesh
pub record Base : Type 0 where
  pub index : IndexSheet
  pub soup : Soup

-- the play of a journal's tasks from the base
abbrev pub played : Base → List Entry → Played
played b journal = play b.index.cells b.index.core (start b.soup) (tasks_of journal)

-- the mesh that they leave
abbrev pub mesh_of : Base → List Entry → Mesh
mesh_of b journal = (played b journal).mesh

-- each leaf has its sheet of the mesh in a version
abbrev pub HasSheets : Spelling → BytesAt → Base → Mesh → (ℕ → ℕ) → Type 0
HasSheets spell at b m version_of =
    (leaf : ℕ) → leaf < length b.index.cells
    → spelled spell.sheet (at (key.Leaf leaf (version_of leaf))) ≡ Some (sheet b.index.cells m leaf)

-- each of these entries stands under its number
abbrev pub HasEntries : Spelling → BytesAt → List Entry → Type 0
HasEntries spell at journal =
    (n : ℕ) (d : Entry) → n < length journal
    → spelled spell.entry (at (key.Entry n)) ≡ Some (record { number = n; entry = slice_index_or journal n d })

-- the index and the sheets of version 0 are those of the base, whose cells are the leaves over its points, and whose
-- audit is good with the numbers of the index
pub record IsBuilt (spell : Spelling) (at : BytesAt) (b : Base) : Type 0 where
  pub index : spelled spell.index (at key.Index) ≡ Some b.index
  pub grid : All IsOnGrid b.soup.points
  pub few_points : length b.soup.points ≤ MOST_ITEMS
  pub few_faces : length b.soup.faces ≤ MOST_ITEMS
  pub cells : b.index.cells ≡ leaves b.soup.points b.index.cap
  pub good : Audits (start b.soup) (Good b.index.vertices b.index.faces b.index.euler b.index.border)
  pub sheets : HasSheets spell at b (start b.soup) (λ _. 0)

-- the entries are those of the journal, which the play of its own tasks from the base gives, and each leaf has its
-- sheet of the mesh of that play in its version by the journal
pub record IsStored (spell : Spelling) (at : BytesAt) (b : Base) (journal : List Entry) : Type 0 where
  pub built : IsBuilt spell at b
  pub few : length journal ≤ MOST_TASKS
  pub entries : HasEntries spell at journal
  pub numbered : AreNumbered journal
  pub given : (played b journal).journal ≡ journal
  pub sheets : HasSheets spell at b (mesh_of b journal) (version journal)

-- and no entry stands behind them
pub record IsSound (spell : Spelling) (at : BytesAt) (b : Base) (journal : List Entry) : Type 0 where
  pub stored : IsStored spell at b journal
  pub ends : (n : ℕ) → length journal ≤ n → at (key.Entry n) ≡ None

-- and none stands right behind them, where there is room for one
pub record IsChecked (spell : Spelling) (at : BytesAt) (b : Base) (journal : List Entry) : Type 0 where
  pub stored : IsStored spell at b journal
  pub ends : length journal < MOST_TASKS → at (key.Entry (length journal)) ≡ None

-- neither an index nor an entry
abbrev pub IsUnbuilt : BytesAt → Type 0
IsUnbuilt at = (at key.Index ≡ None) × ((n : ℕ) → at (key.Entry n) ≡ None)
