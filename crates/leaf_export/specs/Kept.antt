-- What is kept of sheets.
use Rattle.std.specs.Prelude.{◌≡◌, ◌^◌, ◌-◌, min, List}
use Rattle.sheet_data.specs.declared.sheets.LeafSheet.{LeafSheet}
use Rattle.patch_assembly.specs.Clashes.{names_in, planes_in}
use Rattle.leaf_export.specs.OctreeBytes.{all_faces, all_vertices, vertex_points}
use Rattle.leaf_export.specs.declared.kept.Kept.{Kept}

-- it is that of these sheets
pub record Keeps (sheets : List LeafSheet) (kept : Kept) : Type 0 where
  pub names : kept.names.items ≡ names_in sheets
  pub points : kept.points.items ≡ vertex_points (all_vertices sheets)
  pub planes : kept.planes ≡ min (planes_in sheets) (2 ^ 64 - 1)
  pub faces : kept.faces.items ≡ all_faces sheets
