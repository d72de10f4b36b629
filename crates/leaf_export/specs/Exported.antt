-- What an export answers of a shelf, and what it puts into a sink.
use Rattle.std.specs.Prelude.{◌≡◌, ℕ, ◌≤◌, List, map, length, Option, Result, Ok, Err, ⊤, All}
use Rattle.fault_counts.specs.Told.{Told, Puts, PutsPrefix}
use Rattle.oemm_limits.specs.declared.TheConstants.{MOST_ITEMS}
use Rattle.mesh_data.specs.Triangles.{IsBelow}
use Rattle.sheet_data.specs.declared.index.IndexSheet.{IndexSheet}
use Rattle.sheet_data.specs.declared.sheets.LeafSheet.{LeafSheet}
use Rattle.mesh_out.specs.declared.form.Form.{Form}
use Rattle.mesh_out.specs.declared.form.OutFault.{OutFault}
use Rattle.mesh_out.specs.declared.form.OutFault.TheVariants as out
use Rattle.mesh_out.specs.Form.{form_text}
use Rattle.oemm_blobs.specs.Content.{Content}
use Rattle.oemm_blobs.specs.Store.{IfTold}
use Rattle.mesh_sheets.specs.Export.{all_leaves}
use Rattle.sheet_forms.specs.Formed.{IsSheetOf}
use Rattle.patch_assembly.specs.declared.clash.AssemblyFault.{AssemblyFault}
use Rattle.oemm_shelf.specs.Readings.{◌>>=◌, Answers, assembly_fault, current_sheets, or_clash}
use Rattle.oemm_shelf.specs.Shown.{ShowsLeaf}
use Rattle.oemm_shelf.specs.declared.fault.ShelfFault.{ShelfFault}
use Rattle.oemm_shelf.specs.declared.fault.ShelfFault.TheVariants as fault
use Rattle.leaf_export.specs.Files.{Parts, parts_in}
use Rattle.leaf_export.specs.declared.fault.ExportFault.{ExportFault}
use Rattle.leaf_export.specs.declared.fault.ExportFault.TheVariants as export

-- ---- the file of what stands in a store

-- The points and the faces of the file of the present sheets of all leaves; or the fault of the first leaf that has one,
-- or what shows that these sheets are of no mesh.
abbrev pub stored_parts : IndexSheet → List ℕ → Content → Result Parts ShelfFault
stored_parts i versions m = do
  sheets ← current_sheets i versions m (all_leaves i.cells)
  or_clash (parts_in sheets)

-- a sheet of each leaf, in their order, that it can have
pub record AreOfAll (i : IndexSheet) (sheets : List LeafSheet) : Type 0 where
  pub leaves : map (λ s. s.leaf) sheets ≡ all_leaves i.cells
  pub formed : All (λ s. IsSheetOf i.cells i.vertices s.leaf s) sheets

-- What an answer shows by itself, whether the store tells its content or not: such sheets, of which it is the file; or
-- such sheets, that clash so; or a sheet that isn't there, or isn't one of its leaf.
abbrev pub ShowsParts : IndexSheet → List ℕ → Result Parts ShelfFault → Type 0
ShowsParts i versions (Ok parts) = (sheets : List LeafSheet) × AreOfAll i sheets × (parts_in sheets ≡ Ok parts)
ShowsParts i versions (Err (fault.Clash clash)) =
    (sheets : List LeafSheet) × AreOfAll i sheets × (parts_in sheets ≡ Err clash)
ShowsParts i versions (Err why) = ShowsLeaf i versions why

-- it is answered of a store's content, where this is told, and shown by itself
pub record GivesParts (content : Option Content) (i : IndexSheet) (versions : List ℕ) (result : Result Parts ShelfFault)
    : Type 0 where
  pub told : IfTold content (λ m. Answers result (stored_parts i versions m))
  pub shows : ShowsParts i versions result

-- no more vertices and faces than a mesh may have, and indices below as many
pub record AreFew (parts : Parts) : Type 0 where
  pub points : length parts.0 ≤ MOST_ITEMS
  pub faces : length parts.1 ≤ MOST_ITEMS
  pub names : All (IsBelow MOST_ITEMS) parts.1

-- what is answered of parts that are made
abbrev pub or_assembly : {T : Type 0} → Result T AssemblyFault → Result T ShelfFault
or_assembly (Ok x) = Ok x
or_assembly (Err why) = Err (assembly_fault why)

-- ---- an export

-- the fault that tells why there is no file
abbrev pub export_fault : ShelfFault → ExportFault
export_fault fault.Memory = export.Memory
export_fault why = export.Shelf why

-- the fault that tells why it isn't written
abbrev pub out_fault : OutFault → ExportFault
out_fault out.Write = export.Write
out_fault out.Memory = export.Memory

abbrev pub or_out : {T : Type 0} → Result T OutFault → Result T ExportFault
or_out (Ok x) = Ok x
or_out (Err why) = Err (out_fault why)

-- After Ok all of the file was put, and where the sink failed a prefix of it; or it is told why there is no file, unless
-- memory was wanting.
abbrev pub Exports : {T : Type 0} → Option Content → IndexSheet → List ℕ → Form → Told → Told → Result T ExportFault → Type 0
Exports content i versions form old new (Ok x) =
    (parts : Parts) × GivesParts content i versions (Ok parts) × Puts old new (form_text form parts.0 parts.1)
Exports content i versions form old new (Err export.Write) =
    (parts : Parts) × GivesParts content i versions (Ok parts) × PutsPrefix old new (form_text form parts.0 parts.1)
Exports content i versions form old new (Err export.Memory) = ⊤
Exports content i versions form old new (Err (export.Shelf fault.Memory)) = ⊥
Exports content i versions form old new (Err (export.Shelf why)) = GivesParts content i versions (Err why)

-- After Ok these bytes were put, and where the sink failed a prefix of them; or the store failed, or memory was wanting.
abbrev pub ExportsBytes : {T : Type 0} → Told → Told → List ℕ → Result T ExportFault → Type 0
ExportsBytes old new bytes (Ok x) = Puts old new bytes
ExportsBytes old new bytes (Err export.Write) = PutsPrefix old new bytes
ExportsBytes old new bytes (Err export.Memory) = ⊤
ExportsBytes old new bytes (Err (export.Shelf why)) = why ≡ fault.Store
