-- What is found in the content of a store when it is opened.
use Rattle.std.specs.Prelude.{◌≡◌, ℕ, zero, suc, Bool, false, ◌&&◌, ◌==◌, nat_lt, List, [], ◌∷◌, ◌++◌, length}
use Rattle.std.specs.Prelude.{Option, Some, None, Result, Ok, Err, ⊤}
use Rattle.std.specs.List.{list_all}
use Rattle.oemm_limits.specs.declared.TheConstants.{MOST_DEPTH, MOST_TASKS}
use Rattle.oemm_octree.specs.declared.cells.Cell.{Cell}
use Rattle.oemm_octree.specs.Octree.{root_cell}
use Rattle.oemm_octree.specs.Walks.{walk}
use Rattle.mesh_data.specs.declared.edits.Entry.{Entry}
use Rattle.sheet_data.specs.declared.index.IndexSheet.{IndexSheet}
use Rattle.sheet_data.specs.declared.index.NumberedEntry.{NumberedEntry}
use Rattle.oemm_blobs.specs.Content.{Content, blob_at}
use Rattle.oemm_blobs.specs.declared.keys.Key.TheVariants as key
use Rattle.stored_mesh.specs.Versions.{next_of}
use Rattle.store_spelling.specs.Spelled.{store_spelling}
use Rattle.oemm_shelf.specs.Readings.{◌>>=◌, if_passes, or_damaged}
use Rattle.oemm_shelf.specs.declared.fault.FoundFault.{FoundFault}
use Rattle.oemm_shelf.specs.declared.fault.FoundFault.TheVariants as found
use Rattle.oemm_shelf.specs.declared.fault.ShelfFault.{ShelfFault}
use Rattle.oemm_shelf.specs.declared.fault.ShelfFault.TheVariants as fault

-- ---- the index

-- nothing is left
abbrev pub is_all : Option (List Cell) → Bool
is_all None = false
is_all (Some rest) = length rest == 0

-- a walk along the cells finds that they tile the cube
abbrev pub tile_cube : List Cell → Bool
tile_cube cells = is_all (walk MOST_DEPTH root_cell cells)

-- the index that bytes are, if they are one: its cells tile the cube
abbrev pub index_in : List ℕ → Option IndexSheet
index_in bytes = if_passes (λ i. tile_cube i.cells) (store_spelling.index bytes)

-- ---- the entries

-- What an entry that bytes spell must be, besides, to stand behind these: it has the next number, its task is its lane's
-- next, and each leaf of its core is one of the index's.
abbrev pub is_next : IndexSheet → List Entry → NumberedEntry → Bool
is_next i before n =
    (n.number == length before)
    && ((n.entry.task.number == next_of before n.entry.task.lane)
    && list_all (λ l. nat_lt l (length i.cells)) n.entry.core)

-- the entry behind these that bytes are, if they are one
abbrev pub entry_in : IndexSheet → List Entry → List ℕ → Option NumberedEntry
entry_in i before bytes = if_passes (is_next i before) (store_spelling.entry bytes)

-- what is answered of the entry behind these where this stands under its key: that it is absent, or the entry
abbrev pub entry_answer : IndexSheet → List Entry → Option (List ℕ) → Result (Option NumberedEntry) ShelfFault
entry_answer i before None = Ok None
entry_answer i before (Some bytes) = do
  n ← or_damaged (key.Entry (length before)) bytes (entry_in i before bytes)
  Ok (Some n)

-- these, if the next one is absent, and else what its follow-up gives
abbrev pub entries_upto : List Entry → Result (Option NumberedEntry) ShelfFault
    → (List Entry → Result (List Entry) ShelfFault) → Result (List Entry) ShelfFault
entries_upto before (Ok None) more = Ok before
entries_upto before (Ok (Some n)) more = more (before ++ n.entry ∷ [])
entries_upto before (Err why) more = Err why

-- these entries and those behind them, so many more at most, up to the first that is absent
unfoldable pub entries_from : IndexSheet → ℕ → List Entry → Content → Result (List Entry) ShelfFault
entries_from i zero before m = Ok before
entries_from i (suc most) before m =
    entries_upto before (entry_answer i before (blob_at m (key.Entry (length before))))
    (λ now. entries_from i most now m)

-- ---- all of it

abbrev pub or_fault : {T : Type 0} → Result T ShelfFault → Result T FoundFault
or_fault (Ok x) = Ok x
or_fault (Err why) = Err (found.Shelf why)

-- the index where this stands under its key
abbrev pub index_found : Option (List ℕ) → Result IndexSheet FoundFault
index_found None = Err found.NotBuilt
index_found (Some bytes) = or_fault (or_damaged key.Index bytes (index_in bytes))

-- an index with its entries
abbrev pub with_entries : Content → Result IndexSheet FoundFault → Result (IndexSheet × List Entry) FoundFault
with_entries m (Ok i) = or_fault (do
  entries ← entries_from i MOST_TASKS [] m
  Ok (i, entries))
with_entries m (Err why) = Err why

-- What is found: the index, and the entries 0, 1, .. up to the first that is absent, 2^20 at most; or that there is no
-- index; or the first of them that is damaged.
abbrev pub found_in : Content → Result (IndexSheet × List Entry) FoundFault
found_in m = with_entries m (index_found (blob_at m key.Index))

-- this is answered, unless the store failed or memory was wanting
abbrev pub Finds : {T : Type 0} → Result T FoundFault → Result T FoundFault → Type 0
Finds (Ok x) want = want ≡ Ok x
Finds (Err (found.Shelf fault.Store)) want = ⊤
Finds (Err (found.Shelf fault.Memory)) want = ⊤
Finds (Err why) want = want ≡ Err why
