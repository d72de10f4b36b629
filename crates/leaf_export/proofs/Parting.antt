-- The file of sheets, by what is kept of them and a table of the places of their names.
use Rattle.std.proofs.Common.{◌≡◌, ◌≤◌, ◌∙◌, ℕ, List, [], length, map, flat_map, sym, subst, None, Some, Ok, Err}
use Rattle.std.specs.List.{All, find}
use Rattle.mesh_data.specs.declared.shapes.Shape.TheVariants.{Vertex}
use Rattle.mesh_data.specs.Triangles.{IsBelow, corners}
use Rattle.mesh_out.specs.MeshBytes.{IsNamedBy}
use Rattle.sheet_data.specs.declared.sheets.LeafSheet.{LeafSheet}
use Rattle.patch_assembly.specs.Clashes.{clash_in, names_in}
use Rattle.patch_assembly.specs.declared.clash.Clash.TheVariants.{Shape}
use Rattle.leaf_export.specs.Files.{first_missing, parts_in}
use Rattle.leaf_export.specs.Kept.{Keeps}
use Rattle.leaf_export.specs.OctreeBytes.{all_faces, placed}
use Rattle.leaf_export.specs.Tables.{ArePlaces, lacks, looked_up}
use Rattle.leaf_export.specs.declared.kept.Kept.{Kept}
use Rattle.leaf_export.specs.declared.places.TheConstants.{NO_PLACE}
use Rattle.leaf_export.proofs.Clashing.{agrees, misses}
use Rattle.leaf_export.proofs.Looking.{all_looked_up, all_named, lacking_is}

module _ (sheets : List LeafSheet) (kept : Kept) (keeps : Keeps sheets kept) (none : None ≡ clash_in sheets [])
    (table : List ℕ) (are : ArePlaces kept.names.items table) (few : length kept.names.items ≤ NO_PLACE)
    (names : ℕ) (len : length table ≡ names) (below : All (IsBelow names) kept.faces.items) where
  in_table : All (IsBelow (length table)) kept.faces.items
  in_table = subst (λ (n : ℕ). All (IsBelow n) kept.faces.items) (sym len) below

  same_missing : first_missing kept.names.items kept.faces.items ≡ first_missing (names_in sheets) (all_faces sheets)
  same_missing = λ j. first_missing (keeps.names j) (keeps.faces j)

  missing_is : find (lacks table) (flat_map corners kept.faces.items) ≡ first_missing kept.names.items kept.faces.items
  missing_is = lacking_is kept.names.items table are few kept.faces.items in_table

  pub parts_miss : (v : ℕ) → find (lacks table) (flat_map corners kept.faces.items) ≡ Some v → parts_in sheets ≡ Err (Shape (Vertex v))
  parts_miss v is = misses sheets none v (sym same_missing ∙ sym missing_is ∙ is)

  pub parts_are : find (lacks table) (flat_map corners kept.faces.items) ≡ None
      → parts_in sheets ≡ Ok (kept.points.items, map (looked_up table) kept.faces.items)
  parts_are is =
      let named : All (IsNamedBy kept.names.items) kept.faces.items = all_named kept.names.items kept.faces.items (sym missing_is ∙ is) in
      let looked : map (looked_up table) kept.faces.items ≡ map (placed (names_in sheets)) (all_faces sheets) =
      all_looked_up kept.names.items table are few kept.faces.items in_table named
      ∙ (λ j. map (placed (keeps.names j)) (keeps.faces j)) in
      agrees sheets none (sym same_missing ∙ sym missing_is ∙ is)
      ∙ (λ j. Ok (sym keeps.points j, sym looked j))
