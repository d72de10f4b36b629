-- The sheets that a patch makes.
use Rattle.std.specs.Prelude.{ℕ, Bool, not, ◌&&◌, ◌||◌, ◌==◌, min, List, ◌++◌, map, length}
use Rattle.std.specs.List.{list_any, filter, find, range_with_len}
use Rattle.std.specs.Option.{option_map_or}
use Rattle.oemm_lists.specs.Ascending.{in_order}
use Rattle.oemm_octree.specs.declared.cells.Cell.{Cell}
use Rattle.oemm_octree.specs.Leaves.{home, is_one_of}
use Rattle.mesh_data.specs.declared.geometry.Tri.{Tri}
use Rattle.mesh_data.specs.Triangles.{corners, tri_cmp}
use Rattle.sheet_data.specs.declared.patches.NearList.{NearList}
use Rattle.sheet_data.specs.declared.patches.Patch.{Patch}
use Rattle.sheet_data.specs.declared.sheets.LeafSheet.{LeafSheet}
use Rattle.sheet_data.specs.Summed.{SummedVertex}

-- the leaf of a name by these vertices, and the number of cells where none has the name
abbrev pub leaf_by : List Cell → List SummedVertex → ℕ → ℕ
leaf_by cells vs v = option_map_or (λ x. home cells x.point) (find (λ x. v == x.name) vs) (length cells)

-- the leaves of the corners of a triangle by these vertices
abbrev pub leaves_by : List Cell → List SummedVertex → Tri → List ℕ
leaves_by cells vs t = map (leaf_by cells vs) (corners t)

-- the least of them
abbrev pub keeper_by : List Cell → List SummedVertex → Tri → ℕ
keeper_by cells vs t = min (leaf_by cells vs t.a) (min (leaf_by cells vs t.b) (leaf_by cells vs t.c))

-- the leaves differ, and some triangle has a corner in both, by these vertices
abbrev pub are_near_by : List Cell → List SummedVertex → List Tri → ℕ → ℕ → Bool
are_near_by cells vs ts k l =
    not (k == l) && list_any (λ t. is_one_of (leaves_by cells vs t) k && is_one_of (leaves_by cells vs t) l) ts

-- the triangles of a patch
abbrev pub patch_tris : Patch → List Tri
patch_tris p = p.whole ++ map (λ x. x.tri) p.mixed

-- The sheet that a patch makes for a leaf of its core: the vertices whose home it is, the whole triangles that it keeps
-- and the mixed ones that say so, and the leaves that are near by the patch's triangles or by its list.
unfoldable pub written : List Cell → Patch → NearList → LeafSheet
written cells p list =
    let whole = filter (λ t. keeper_by cells p.vertices t == list.leaf) p.whole in
    let mixed = map (λ x. x.tri) (filter (λ x. x.leaf == list.leaf) p.mixed) in
    let is_near = λ (l : ℕ). is_one_of list.outside l || are_near_by cells p.vertices (patch_tris p) list.leaf l in
    record {
      leaf = list.leaf;
      vertices = filter (λ x. home cells x.point == list.leaf) p.vertices;
      faces = in_order tri_cmp (whole ++ mixed);
      near = filter is_near (range_with_len 0 (length cells));
    }

-- the sheets that a patch makes for its core
abbrev pub sheets_of : List Cell → Patch → List LeafSheet
sheets_of cells p = map (written cells p) p.near
