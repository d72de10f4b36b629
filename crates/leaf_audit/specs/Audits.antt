-- What an audit answers of the sheets of all leaves.
use Rattle.std.specs.Prelude.{◌≡◌, ℕ, List, [], map, length, None, Some, Result, Ok, Err, ⊤, All}
use Rattle.std.specs.List.{flat_map}
use Rattle.mesh_data.specs.declared.geometry.Tri.{Tri}
use Rattle.mesh_data.specs.declared.shapes.Audit.{Audit}
use Rattle.sheet_data.specs.declared.index.IndexSheet.{IndexSheet}
use Rattle.sheet_data.specs.declared.sheets.LeafSheet.{LeafSheet}
use Rattle.oemm_blobs.specs.Content.{Content}
use Rattle.mesh_sheets.specs.Export.{all_leaves}
use Rattle.sheet_forms.specs.Formed.{IsSheetOf}
use Rattle.patch_assembly.specs.Clashes.{clash_in, unless}
use Rattle.face_audit.specs.Audit.{AuditsFaces}
use Rattle.oemm_shelf.specs.Readings.{◌>>=◌, current_sheets, or_clash}
use Rattle.oemm_shelf.specs.Shown.{ShowsLeaf}
use Rattle.oemm_shelf.specs.declared.fault.ShelfFault.{ShelfFault}
use Rattle.oemm_shelf.specs.declared.fault.ShelfFault.TheVariants as fault

-- the number of the vertices of sheets
abbrev pub vertices_in : List LeafSheet → ℕ
vertices_in sheets = length (flat_map (λ s. s.vertices) sheets)

-- their faces, those of one sheet after those of another
abbrev pub all_faces : List LeafSheet → List Tri
all_faces sheets = flat_map (λ s. s.faces) sheets

-- the audit of the sheets of all leaves, whether they are those of a mesh or not
abbrev pub AuditsAll : List LeafSheet → Audit → Type 0
AuditsAll sheets a = AuditsFaces (vertices_in sheets) (all_faces sheets) a

-- the present sheets of all leaves; or the fault of the first that has one, or what shows that they aren't of one mesh
abbrev pub agreed_sheets : IndexSheet → List ℕ → Content → Result (List LeafSheet) ShelfFault
agreed_sheets i versions m = do
  sheets ← current_sheets i versions m (all_leaves i.cells)
  or_clash (unless sheets (clash_in sheets []))

-- the audit of these sheets is answered, or why there are none, unless the store failed or memory was wanting
abbrev pub AuditsSheets : Result Audit ShelfFault → Result (List LeafSheet) ShelfFault → Type 0
AuditsSheets (Ok a) want = (sheets : List LeafSheet) × (want ≡ Ok sheets) × AuditsAll sheets a
AuditsSheets (Err fault.Store) want = ⊤
AuditsSheets (Err fault.Memory) want = ⊤
AuditsSheets (Err why) want = want ≡ Err why

-- a sheet of each leaf, in their order, that it can have
pub record AreOfAll (i : IndexSheet) (sheets : List LeafSheet) : Type 0 where
  pub leaves : map (λ s. s.leaf) sheets ≡ all_leaves i.cells
  pub formed : All (λ s. IsSheetOf i.cells i.vertices s.leaf s) sheets

-- What an answer shows by itself, whether the store tells its content or not: such sheets, that don't clash, of which it is
-- the audit; or such sheets, that clash so; or a sheet that isn't there, or isn't one of its leaf.
abbrev pub ShowsAudit : IndexSheet → List ℕ → Result Audit ShelfFault → Type 0
ShowsAudit i versions (Ok a) =
    (sheets : List LeafSheet) × AreOfAll i sheets × (clash_in sheets [] ≡ None) × AuditsAll sheets a
ShowsAudit i versions (Err (fault.Clash clash)) =
    (sheets : List LeafSheet) × AreOfAll i sheets × (clash_in sheets [] ≡ Some clash)
ShowsAudit i versions (Err why) = ShowsLeaf i versions why
