-- The vertices and the triangles of a mesh, one leaf after another.
use Rattle.std.specs.Prelude.{ℕ, ◌==◌, List, length}
use Rattle.std.specs.List.{filter, flat_map, range_with_len}
use Rattle.oemm_octree.specs.declared.cells.Cell.{Cell}
use Rattle.oemm_octree.specs.Leaves.{home}
use Rattle.mesh_data.specs.declared.geometry.Tri.{Tri}
use Rattle.mesh_data.specs.Mesh.{Mesh}
use Rattle.sheet_data.specs.Summed.{SummedVertex}
use Rattle.mesh_sheets.specs.Sheets.{keeper, vertices_in}

-- all leaves, ascending
abbrev pub all_leaves : List Cell → List ℕ
all_leaves cells = range_with_len 0 (length cells)

-- the vertices by their homes, then by their names: those of the sheets of all leaves
abbrev pub vertices_by_home : List Cell → Mesh → List SummedVertex
vertices_by_home cells m = flat_map (λ leaf. vertices_in (λ p. home cells p == leaf) m) (all_leaves cells)

-- the triangles by the leaves that keep them, then by their names: those of the sheets of all leaves
abbrev pub tris_by_keeper : List Cell → Mesh → List Tri
tris_by_keeper cells m = flat_map (λ leaf. filter (λ t. keeper cells m t == leaf) m.tris) (all_leaves cells)
