-- What answers show by themselves, whether the store tells its content or not.
use Rattle.std.specs.Prelude.{◌≡◌, ◌⊎◌, ℕ, ◌+◌, ◌<◌, ◌≤◌, true, List, [], ◌++◌, map, length, slice_index, None, Result, Ok, Err, ⊤}
use Rattle.std.specs.Prelude.{Option, All}
use Rattle.oemm_limits.specs.declared.TheConstants.{LAST_LANE, MOST_TASKS}
use Rattle.oemm_octree.specs.Leaves.{AreBelow, is_one_of}
use Rattle.mesh_data.specs.declared.edits.Entry.{Entry}
use Rattle.sheet_data.specs.declared.index.IndexSheet.{IndexSheet}
use Rattle.sheet_data.specs.declared.patches.Patch.{Patch}
use Rattle.sheet_data.specs.declared.sheets.LeafSheet.{LeafSheet}
use Rattle.oemm_blobs.specs.Content.{Content}
use Rattle.oemm_blobs.specs.Store.{IfTold}
use Rattle.oemm_blobs.specs.declared.keys.Key.{Key}
use Rattle.oemm_blobs.specs.declared.keys.Key.TheVariants as key
use Rattle.mesh_sheets.specs.Assembled.{rim_of}
use Rattle.sheet_forms.specs.Formed.{AreGiven, IsSheetOf}
use Rattle.sheet_data.specs.declared.index.NumberedEntry.{NumberedEntry}
use Rattle.stored_mesh.specs.Versions.{AreNumbered, next_of}
use Rattle.patch_assembly.specs.Clashes.{made}
use Rattle.oemm_shelf.specs.Cached.{Lists}
use Rattle.oemm_shelf.specs.Opened.{entry_in, index_in}
use Rattle.oemm_shelf.specs.Readings.{current_sheets, leaf_key, sheet_in}
use Rattle.oemm_shelf.specs.Shelves.{AreVersions, IsShelf, ShelfState}
use Rattle.oemm_shelf.specs.declared.fault.FoundFault.{FoundFault}
use Rattle.oemm_shelf.specs.declared.fault.FoundFault.TheVariants as found
use Rattle.oemm_shelf.specs.declared.fault.ShelfFault.{ShelfFault}
use Rattle.oemm_shelf.specs.declared.fault.ShelfFault.TheVariants as fault

-- a sheet that the leaf can have, or bytes under its key that are none, or that nothing is there
abbrev pub ShowsSheet : IndexSheet → ℕ → Key → Result LeafSheet ShelfFault → Type 0
ShowsSheet i leaf k (Ok s) = IsSheetOf i.cells i.vertices leaf s
ShowsSheet i leaf k (Err (fault.Damaged at bytes)) = (at ≡ k) × (sheet_in i leaf bytes ≡ None)
ShowsSheet i leaf k (Err (fault.Absent at)) = at ≡ k
ShowsSheet i leaf k (Err (fault.Clash clash)) = ⊥
ShowsSheet i leaf k (Err fault.Store) = ⊤
ShowsSheet i leaf k (Err fault.Memory) = ⊤

-- a sheet of one of the leaves that isn't there, or isn't one of it
abbrev pub ShowsLeaf : IndexSheet → List ℕ → ShelfFault → Type 0
ShowsLeaf i versions (fault.Damaged at bytes) =
    (leaf : ℕ) × (leaf < length i.cells) × (at ≡ leaf_key versions leaf) × (sheet_in i leaf bytes ≡ None)
ShowsLeaf i versions (fault.Absent at) = (leaf : ℕ) × (leaf < length i.cells) × (at ≡ leaf_key versions leaf)
ShowsLeaf i versions (fault.Clash clash) = ⊥
ShowsLeaf i versions fault.Store = ⊤
ShowsLeaf i versions fault.Memory = ⊤

-- the sheets of a core, and those of the leaves outside of it that these name, each one that its leaf can have
pub record AreGathered (i : IndexSheet) (core : List ℕ) (inner outer : List LeafSheet) : Type 0 where
  pub given : AreGiven i.cells i.vertices core inner outer
  pub rim : map (λ s. s.leaf) outer ≡ rim_of i.cells core inner

-- a patch that such sheets make, with at most one get for each, or a clash of such sheets, or a leaf's fault
abbrev pub ShowsPatch : IndexSheet → List ℕ → List ℕ → ℕ → ℕ → Result Patch ShelfFault → Type 0
ShowsPatch i versions core before now (Ok p) =
    (inner : List LeafSheet) × (outer : List LeafSheet) × AreGathered i core inner outer
    × (made core inner outer ≡ Ok p) × (now ≤ before + (length core + length outer))
ShowsPatch i versions core before now (Err (fault.Clash clash)) =
    (inner : List LeafSheet) × (outer : List LeafSheet) × AreGathered i core inner outer
    × (made core inner outer ≡ Err clash) × (now ≤ before + (length core + length outer))
ShowsPatch i versions core before now (Err why) = ShowsLeaf i versions why

-- At most one get was made for each leaf of the core, and for each leaf outside of it that the core's own sheets name,
-- if these were read; and no other sheets were kept.
pub record IsWithinRim (i : IndexSheet) (versions core : List ℕ) (told : Option Content)
    (before now : ℕ) (old new : List (ℕ × ℕ)) : Type 0 where
  pub inner : List LeafSheet
  pub own : (now ≤ before + length core) ⊎ IfTold told (λ m. current_sheets i versions m core ≡ Ok inner)
  pub most : now ≤ before + (length core + length (rim_of i.cells core inner))
  pub lists : Lists (λ leaf version. (version ≡ slice_index versions leaf)
      × (is_one_of (core ++ rim_of i.cells core inner) leaf ≡ true)) old new before now

-- the entries of a journal, numbered lane by lane, each with a lane and a core that there are
pub record AreEntries (i : IndexSheet) (entries : List Entry) : Type 0 where
  pub few : length entries ≤ MOST_TASKS
  pub numbered : AreNumbered entries
  pub lanes : All (λ e. e.task.lane ≤ LAST_LANE) entries
  pub cores : All (λ e. AreBelow (length i.cells) e.core) entries

-- an entry that can stand behind these
pub record IsNext (i : IndexSheet) (before : List Entry) (n : NumberedEntry) : Type 0 where
  pub number : n.number ≡ length before
  pub task : n.entry.task.number ≡ next_of before n.entry.task.lane
  pub lane : n.entry.task.lane ≤ LAST_LANE
  pub core : AreBelow (length i.cells) n.entry.core

-- so many of these entries are of each lane
abbrev pub CountLanes : List ℕ → List Entry → Type 0
CountLanes lanes entries =
    (length lanes ≡ 64) × ((lane : ℕ) → lane < 64 → slice_index lanes lane ≡ next_of entries lane)

-- bytes that are not the entry behind these
abbrev pub ShowsEntry : IndexSheet → List Entry → ShelfFault → Type 0
ShowsEntry i before (fault.Damaged at bytes) =
    (at ≡ key.Entry (length before)) × (entry_in i before bytes ≡ None)
ShowsEntry i before (fault.Absent at) = ⊥
ShowsEntry i before (fault.Clash clash) = ⊥
ShowsEntry i before fault.Store = ⊤
ShowsEntry i before fault.Memory = ⊤

-- a shelf as it is opened: with each version by the entries, and no sheet kept
pub record IsOpened {B : Type 0} (s : ShelfState B) (entries : List Entry) (cache : ℕ) : Type 0 where
  pub shelf : IsShelf s.index s.versions
  pub given : AreEntries s.index entries
  pub versions : AreVersions s.index entries s.versions
  pub capacity : s.capacity ≡ cache
  pub cached : s.cached ≡ []

-- bytes that are no index, or not the entry behind those before it
abbrev pub ShowsShelf : ShelfFault → Type 0
ShowsShelf (fault.Damaged at bytes) =
    ((at ≡ key.Index) × (index_in bytes ≡ None))
    ⊎ ((i : IndexSheet) × (before : List Entry) × AreEntries i before × ShowsEntry i before (fault.Damaged at bytes))
ShowsShelf (fault.Absent at) = ⊥
ShowsShelf (fault.Clash clash) = ⊥
ShowsShelf fault.Store = ⊤
ShowsShelf fault.Memory = ⊤

abbrev pub ShowsFound : FoundFault → Type 0
ShowsFound found.NotBuilt = ⊤
ShowsFound (found.Shelf why) = ShowsShelf why

-- the index and the entries that were read
abbrev pub found_of : {V : Type 0} → Result (IndexSheet × V × List Entry) FoundFault
    → Result (IndexSheet × List Entry) FoundFault
found_of (Ok x) = Ok (x.0, x.2)
found_of (Err why) = Err why

-- what was found by a call that gives a shelf, or the store back
abbrev pub found_by : {B : Type 0} → Result (ShelfState B × List Entry) (B × FoundFault)
    → Result (IndexSheet × List Entry) FoundFault
found_by (Ok opened) = Ok (opened.0.index, opened.1)
found_by (Err failed) = Err failed.1

-- and the store after it
abbrev pub left_by : {B : Type 0} → Result (ShelfState B × List Entry) (B × FoundFault) → B
left_by (Ok opened) = opened.0.blobs
left_by (Err failed) = failed.0
