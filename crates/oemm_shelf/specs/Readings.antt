-- What a shelf answers of leaves over the content of a store.
use Rattle.std.specs.Prelude.{◌≡◌, ◌⊎◌, ℕ, Bool, ◌&&◌, ◌==◌, nat_lt, if◌then◌else◌, List, [], ◌∷◌, length, slice_index}
use Rattle.std.specs.Prelude.{Option, Some, None, Result, Ok, Err, ⊤}
use Rattle.std.specs.List.{list_all}
use Rattle.oemm_octree.specs.Leaves.{home}
use Rattle.mesh_data.specs.Triangles.{corners}
use Rattle.sheet_data.specs.declared.index.IndexSheet.{IndexSheet}
use Rattle.sheet_data.specs.declared.patches.Patch.{Patch}
use Rattle.sheet_data.specs.declared.sheets.LeafSheet.{LeafSheet}
use Rattle.oemm_blobs.specs.Content.{Content, blob_at}
use Rattle.oemm_blobs.specs.declared.blobs.StoreFail.{StoreFail}
use Rattle.oemm_blobs.specs.declared.blobs.StoreFail.TheVariants as store
use Rattle.oemm_blobs.specs.declared.keys.Key.{Key}
use Rattle.oemm_blobs.specs.declared.keys.Key.TheVariants as key
use Rattle.mesh_sheets.specs.Assembled.{rim_of}
use Rattle.patch_assembly.specs.Clashes.{made}
use Rattle.patch_assembly.specs.declared.clash.AssemblyFault.{AssemblyFault}
use Rattle.patch_assembly.specs.declared.clash.AssemblyFault.TheVariants as assembly
use Rattle.patch_assembly.specs.declared.clash.Clash.{Clash}
use Rattle.store_spelling.specs.Spelled.{store_spelling}
use Rattle.oemm_shelf.specs.declared.fault.ShelfFault.{ShelfFault}
use Rattle.oemm_shelf.specs.declared.fault.ShelfFault.TheVariants as fault

-- ---- one leaf

-- What a sheet that bytes spell must be, besides, to be one of the leaf: it says this leaf; each of its names, those of
-- faces too, is below the index's number of vertices; the home of each point is the leaf; and each near leaf is one of
-- the index's.
abbrev pub is_of_leaf : IndexSheet → ℕ → LeafSheet → Bool
is_of_leaf i leaf s =
    (s.leaf == leaf)
    && (list_all (λ x. nat_lt x.name i.vertices && (home i.cells x.point == leaf)) s.vertices
    && (list_all (λ t. list_all (λ v. nat_lt v i.vertices) (corners t)) s.faces
    && list_all (λ l. nat_lt l (length i.cells)) s.near))

-- the value, where there is one and it passes the test
abbrev pub if_passes : {T : Type 0} → (T → Bool) → Option T → Option T
if_passes test None = None
if_passes test (Some x) = if test x then Some x else None

-- the sheet of the leaf that bytes are, if they are one
abbrev pub sheet_in : IndexSheet → ℕ → List ℕ → Option LeafSheet
sheet_in i leaf bytes = if_passes (is_of_leaf i leaf) (store_spelling.sheet bytes)

-- what bytes under a key are, or that they are damaged
abbrev pub or_damaged : {T : Type 0} → Key → List ℕ → Option T → Result T ShelfFault
or_damaged k bytes None = Err (fault.Damaged k bytes)
or_damaged k bytes (Some x) = Ok x

-- what is answered of the leaf where this stands under the key
abbrev pub sheet_answer : IndexSheet → ℕ → Key → Option (List ℕ) → Result LeafSheet ShelfFault
sheet_answer i leaf k None = Err (fault.Absent k)
sheet_answer i leaf k (Some bytes) = or_damaged k bytes (sheet_in i leaf bytes)

-- what is answered of the leaf in a version
abbrev pub sheet_at : IndexSheet → Content → ℕ → ℕ → Result LeafSheet ShelfFault
sheet_at i m leaf version = sheet_answer i leaf (key.Leaf leaf version) (blob_at m (key.Leaf leaf version))

-- the key of the leaf in its present version
abbrev pub leaf_key : List ℕ → ℕ → Key
leaf_key versions leaf = key.Leaf leaf (slice_index versions leaf)

-- what is answered of the leaf in its present version
abbrev pub current_sheet : IndexSheet → List ℕ → Content → ℕ → Result LeafSheet ShelfFault
current_sheet i versions m leaf = sheet_at i m leaf (slice_index versions leaf)

-- ---- several leaves, and a core

infixl 10 ◌>>=◌
abbrev pub ◌>>=◌ : {A B : Type 0} → Result A ShelfFault → (A → Result B ShelfFault) → Result B ShelfFault
Ok x >>= f = f x
Err why >>= f = Err why

-- the sheets of the leaves in their present versions, or the fault of the first that has one
abbrev pub current_sheets : IndexSheet → List ℕ → Content → List ℕ → Result (List LeafSheet) ShelfFault
current_sheets i versions m [] = Ok []
current_sheets i versions m (leaf ∷ leaves) = do
  s ← current_sheet i versions m leaf
  sheets ← current_sheets i versions m leaves
  Ok (s ∷ sheets)

-- a clash is a fault
abbrev pub or_clash : {T : Type 0} → Result T Clash → Result T ShelfFault
or_clash (Ok x) = Ok x
or_clash (Err clash) = Err (fault.Clash clash)

-- The patch of a core: what the sheets of its leaves, and of those leaves outside of it that these name, make; or the
-- fault of the first leaf that has one, those of the core before those of the rim, or what shows that the sheets clash.
abbrev pub current_patch : IndexSheet → List ℕ → Content → List ℕ → Result Patch ShelfFault
current_patch i versions m core = do
  inner ← current_sheets i versions m core
  outer ← current_sheets i versions m (rim_of i.cells core inner)
  or_clash (made core inner outer)

-- ---- answers

-- this is answered, unless the store failed or memory was wanting
abbrev pub Answers : {T : Type 0} → Result T ShelfFault → Result T ShelfFault → Type 0
Answers (Ok x) want = want ≡ Ok x
Answers (Err fault.Store) want = ⊤
Answers (Err fault.Memory) want = ⊤
Answers (Err why) want = want ≡ Err why

-- the fault that tells why a store's call failed
abbrev pub store_fault : StoreFail → ShelfFault
store_fault store.Failed = fault.Store
store_fault store.Memory = fault.Memory

-- the fault that tells why sheets make no patch
abbrev pub assembly_fault : AssemblyFault → ShelfFault
assembly_fault (assembly.Clash clash) = fault.Clash clash
assembly_fault assembly.Memory = fault.Memory

-- the store failed, or memory was wanting
abbrev pub IsOfStore : ShelfFault → Type 0
IsOfStore why = (why ≡ fault.Store) ⊎ (why ≡ fault.Memory)
