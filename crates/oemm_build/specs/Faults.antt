-- The faults that a build answers.
use Rattle.std.specs.Prelude.{◌≡◌, ℕ, List, Option, Some, None, Result, Ok, Err, ⊤}
use Rattle.mesh_items.specs.declared.items.MeshFault.{MeshFault}
use Rattle.mesh_soup.specs.declared.soup.SoupFault.{SoupFault}
use Rattle.mesh_soup.specs.declared.soup.SoupFault.TheVariants as soup
use Rattle.oemm_blobs.specs.declared.blobs.StoreFail.{StoreFail}
use Rattle.oemm_blobs.specs.declared.blobs.StoreFail.TheVariants as store
use Rattle.oemm_build.specs.declared.fault.BuildFault.{BuildFault}
use Rattle.oemm_build.specs.declared.fault.BuildFault.TheVariants.{Mesh, Shape, AlreadyBuilt, Shelf, Memory}
use Rattle.oemm_shelf.specs.declared.fault.ShelfFault.TheVariants as shelf

-- the fault that tells why points and faces can't be read
abbrev pub fault_of_soup : SoupFault → BuildFault
fault_of_soup (soup.Mesh fault) = Mesh fault
fault_of_soup soup.Memory = Memory

-- the fault that tells why a store's call failed
abbrev pub fault_of_store : StoreFail → BuildFault
fault_of_store store.Failed = Shelf shelf.Store
fault_of_store store.Memory = Memory

-- the fault of the items that is answered, if one is
abbrev pub fault_of_items : {T : Type 0} → Result T BuildFault → Option MeshFault
fault_of_items (Ok x) = None
fault_of_items (Err (Mesh fault)) = Some fault
fault_of_items (Err (Shape shape)) = None
fault_of_items (Err AlreadyBuilt) = None
fault_of_items (Err (Shelf why)) = None
fault_of_items (Err Memory) = None

-- what was found under the key of the index, by the answer: bytes, or none; and nothing is said where the store failed or
-- memory was wanting
abbrev pub FindsIndex : {T : Type 0} → Result T BuildFault → Option (List ℕ) → Type 0
FindsIndex (Ok x) found = found ≡ None
FindsIndex (Err (Mesh fault)) found = found ≡ None
FindsIndex (Err (Shape shape)) found = found ≡ None
FindsIndex (Err AlreadyBuilt) found = (bytes : List ℕ) × (found ≡ Some bytes)
FindsIndex (Err (Shelf why)) found = ⊤
FindsIndex (Err Memory) found = ⊤

-- the answer is that there is an index
abbrev pub IsAlreadyBuilt : {T : Type 0} → Result T BuildFault → Type 0
IsAlreadyBuilt (Err AlreadyBuilt) = ⊤
IsAlreadyBuilt _ = ⊥

-- the answer is one of those that come before the first put alone
abbrev pub IsBeforePuts : {T : Type 0} → Result T BuildFault → Type 0
IsBeforePuts (Err (Mesh fault)) = ⊤
IsBeforePuts (Err (Shape shape)) = ⊤
IsBeforePuts (Err AlreadyBuilt) = ⊤
IsBeforePuts _ = ⊥

-- there is an index, or the store failed, or memory was wanting
abbrev pub IsOfIndex : BuildFault → Type 0
IsOfIndex AlreadyBuilt = ⊤
IsOfIndex (Shelf why) = why ≡ shelf.Store
IsOfIndex Memory = ⊤
IsOfIndex _ = ⊥

-- the items have a fault, or their audit finds one, or memory was wanting
abbrev pub IsOfItems : BuildFault → Type 0
IsOfItems (Mesh fault) = ⊤
IsOfItems (Shape shape) = ⊤
IsOfItems Memory = ⊤
IsOfItems _ = ⊥

-- the store failed, or memory was wanting
abbrev pub IsOfStore : BuildFault → Type 0
IsOfStore (Shelf why) = why ≡ shelf.Store
IsOfStore Memory = ⊤
IsOfStore _ = ⊥
