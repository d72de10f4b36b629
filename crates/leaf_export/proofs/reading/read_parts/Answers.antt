use Rattle.std.proofs.Common.{◌<◌, ◌≤◌, ℕ, List, sym, subst, Result, IfOk}
use Rattle.std.specs.List.{All}
use Rattle.oemm_limits.specs.declared.TheConstants.{MOST_ITEMS}
use Rattle.mesh_data.specs.declared.geometry.Tri.{Tri}
use Rattle.mesh_data.specs.Triangles.{IsBelow}
use Rattle.patch_assembly.specs.Clashes.{Makes}
use Rattle.sheet_data.specs.declared.index.IndexSheet.{IndexSheet}
use Rattle.sheet_data.specs.declared.sheets.LeafSheet.{LeafSheet}
use Rattle.sheet_forms.specs.Formed.{IsSheetOf}
use Rattle.oemm_shelf.specs.declared.fault.ShelfFault.{ShelfFault}
use Rattle.leaf_export.specs.Exported.{AreFew, GivesParts}
use Rattle.leaf_export.specs.Files.{Parts, parts_in}
use Rattle.leaf_export.proofs.Clashing.{faces_below, names_below}
use Rattle.leaf_export.proofs.Giving.{made_few, made_given}
use Rattle.leaf_export.proofs.reading.read_parts.Goals as goal

pub into_parts-requires-clause-names : goal.into_parts-requires-clause-names
into_parts-requires-clause-names g c =
    let i = c.args.shelf.now.index in
    let read = c.in-Ok.ensures.keeps in
    subst (λ (j : IndexSheet). All (λ v. v < j.vertices) c.in-Ok.kept.names.items) (sym c.index.ensures.index)
    (subst (λ (ns : List ℕ). All (λ v. v < i.vertices) ns) (sym read.2.names) (names_below read.0 i.cells i.vertices read.1.formed))

pub into_parts-requires-clause-faces : goal.into_parts-requires-clause-faces
into_parts-requires-clause-faces g c =
    let i = c.args.shelf.now.index in
    let read = c.in-Ok.ensures.keeps in
    subst (λ (j : IndexSheet). All (IsBelow j.vertices) c.in-Ok.kept.faces.items) (sym c.index.ensures.index)
    (subst (λ (ts : List Tri). All (IsBelow i.vertices) ts) (sym read.2.faces) (faces_below read.0 i.cells i.vertices read.1.formed))

pub returns-in-Ok-clause-gives : goal.returns-in-Ok-clause-gives
returns-in-Ok-clause-gives g c =
    let shelf = c.args.shelf.now in
    let i = shelf.index in
    let read = c.in-Ok.ensures.keeps in
    let formed = subst (λ (j : IndexSheet). All (λ (s : LeafSheet). IsSheetOf i.cells j.vertices s.leaf s) read.0) (sym c.index.ensures.index) read.1.formed in
    let makes : Makes c.into_parts.result (parts_in read.0) = c.into_parts.ensures read.0 i.cells read.2 formed in
    subst (λ (r : Result Parts ShelfFault). GivesParts (g.B.Blobs.store shelf.blobs).content i shelf.versions r) (sym c.answer.ensures)
    (made_given (g.B.Blobs.store shelf.blobs).content i shelf.versions read.0 read.1 read.3 c.into_parts.result makes)

pub returns-in-Ok-clause-few : goal.returns-in-Ok-clause-few
returns-in-Ok-clause-few g c =
    let shelf = c.args.shelf.now in
    let i = shelf.index in
    let read = c.in-Ok.ensures.keeps in
    let formed = subst (λ (j : IndexSheet). All (λ (s : LeafSheet). IsSheetOf i.cells j.vertices s.leaf s) read.0) (sym c.index.ensures.index) read.1.formed in
    let makes : Makes c.into_parts.result (parts_in read.0) = c.into_parts.ensures read.0 i.cells read.2 formed in
    let few : i.vertices ≤ MOST_ITEMS = c.index.ensures.shelf.rules.vertices in
    subst (λ (r : Result Parts ShelfFault). IfOk r AreFew) (sym c.answer.ensures)
    (made_few (g.B.Blobs.store shelf.blobs).content i shelf.versions read.0 read.1 read.3 c.into_parts.result few makes)
