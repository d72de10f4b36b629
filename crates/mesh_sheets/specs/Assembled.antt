-- The patch that sheets make.
use Rattle.std.specs.Prelude.{ℕ, Bool, not, ◌&&◌, ◌==◌, List, ◌++◌, map, length}
use Rattle.std.specs.List.{list_any, list_all, filter, flat_map, range_with_len}
use Rattle.std.specs.Ordering.{nat_cmp, ordering_then}
use Rattle.std.specs.declared.cmp.Ordering.{Ordering}
use Rattle.std.specs.FinMap as finite
use Rattle.oemm_lists.specs.Ascending.{in_order}
use Rattle.oemm_octree.specs.declared.cells.Cell.{Cell}
use Rattle.oemm_octree.specs.Leaves.{is_one_of}
use Rattle.mesh_data.specs.Triangles.{corners, tri_cmp}
use Rattle.sheet_data.specs.declared.patches.Mixed.{Mixed}
use Rattle.sheet_data.specs.declared.patches.Patch.{Patch}
use Rattle.sheet_data.specs.declared.sheets.LeafSheet.{LeafSheet}
use Rattle.sheet_data.specs.Summed.{SummedVertex}

-- one of the vertices has the name
abbrev pub has_name : List SummedVertex → ℕ → Bool
has_name vs v = list_any (λ x. v == x.name) vs

-- vertices in the order of their names, one for each name
abbrev pub by_name : List SummedVertex → List SummedVertex
by_name vs = finite.values (finite.from_entries {R = nat_cmp} (map (λ x. (x.name, x)) vs))

-- by the triangle, then by the leaf
abbrev pub mixed_cmp : Mixed → Mixed → Ordering
mixed_cmp x y = ordering_then (tri_cmp x.tri y.tri) (nat_cmp x.leaf y.leaf)

-- the faces of a sheet, each with the sheet's leaf
abbrev pub faces_of : LeafSheet → List Mixed
faces_of s = map (λ t. record { leaf = s.leaf; tri = t }) s.faces

-- the leaves outside of a core that its own sheets name, ascending
abbrev pub rim_of : List Cell → List ℕ → List LeafSheet → List ℕ
rim_of cells core inner =
    filter (λ l. not (is_one_of core l) && list_any (λ s. is_one_of s.near l) inner) (range_with_len 0 (length cells))

-- The patch of a core that its own sheets, and those of the leaves round it, make: the vertices are those of its own
-- sheets, and the triangles are those that any of the sheets keeps, by how many of their corners are among these
-- vertices.
unfoldable pub assembled : List ℕ → List LeafSheet → List LeafSheet → Patch
assembled core inner outer =
    let vertices = by_name (flat_map (λ s. s.vertices) inner) in
    let kept = in_order mixed_cmp (flat_map faces_of (inner ++ outer)) in
    let is_whole = λ (x : Mixed). list_all (has_name vertices) (corners x.tri) in
    let touches = λ (x : Mixed). list_any (has_name vertices) (corners x.tri) in
    record {
      vertices = vertices;
      whole = map (λ x. x.tri) (filter is_whole kept);
      mixed = filter (λ x. touches x && not (is_whole x)) kept;
      near = map (λ s. record { leaf = s.leaf; outside = filter (λ l. not (is_one_of core l)) s.near }) inner;
    }
