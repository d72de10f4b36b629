-- A patch, grouped by leaves.
use Rattle.std.specs.Prelude.{◌≡◌, ℕ, List, map, length}
use Rattle.std.specs.List.{flat_map}
use Rattle.oemm_octree.specs.declared.cells.Cell.{Cell}
use Rattle.oemm_octree.specs.Leaves.{home}
use Rattle.mesh_data.specs.declared.geometry.Tri.{Tri}
use Rattle.mesh_sheets.specs.Written.{patch_tris}
use Rattle.sheet_data.specs.declared.patches.Patch.{Patch}
use Rattle.sheet_data.specs.Summed.{SummedVertex}
use Rattle.write_back.specs.Homes.{AreByLeaf, at_corners, kept}

-- The number of cells, the names of a patch with their homes, its vertices by their homes, and its triangles by the
-- leaves that keep them and by those of their corners.
pub record IsGrouped (cells : List Cell) (p : Patch) (none : ℕ) (homes : List (ℕ × ℕ))
    (vertices : List (ℕ × SummedVertex)) (keeping corners : List (ℕ × Tri)) : Type 0 where
  pub none_is : none ≡ length cells
  pub homes_are : homes ≡ map (λ x. (x.name, home cells x.point)) p.vertices
  pub vertices_are : AreByLeaf (map (λ x. (home cells x.point, x)) p.vertices) vertices
  pub kept_are : AreByLeaf (kept homes none p) keeping
  pub corners_are : AreByLeaf (flat_map (at_corners homes none) (patch_tris p)) corners
