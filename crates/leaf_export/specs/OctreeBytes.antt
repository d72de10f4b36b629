-- The file of a mesh over an octree: its vertices by their homes and then by their names, its triangles by the leaves
-- that keep them and then by their names. An index is a vertex's place in that order, counted from 0.
use Rattle.std.specs.Prelude.{ℕ, ◌==◌, List, map}
use Rattle.std.specs.List.{flat_map, position_or_len}
use Rattle.oemm_octree.specs.declared.cells.Cell.{Cell}
use Rattle.oemm_octree.specs.declared.points.Point.{Point}
use Rattle.mesh_data.specs.declared.geometry.Tri.{Tri}
use Rattle.mesh_data.specs.Mesh.{Mesh}
use Rattle.sheet_data.specs.Summed.{SummedVertex}
use Rattle.sheet_data.specs.declared.sheets.LeafSheet.{LeafSheet}
use Rattle.mesh_out.specs.declared.form.Form.{Form}
use Rattle.mesh_out.specs.Form.{form_text}
use Rattle.mesh_sheets.specs.Export.{tris_by_keeper, vertices_by_home}

-- the place of the first of these names that is v, and their number where none is
abbrev pub place_in : List ℕ → ℕ → ℕ
place_in names v = position_or_len (λ n. n == v) names

-- the triangle with the places of its names
abbrev pub placed : List ℕ → Tri → Tri
placed names t = record { a = place_in names t.a; b = place_in names t.b; c = place_in names t.c }

-- of vertices: their names, and their points
abbrev pub vertex_names : List SummedVertex → List ℕ
vertex_names vertices = map (λ x. x.name) vertices

abbrev pub vertex_points : List SummedVertex → List Point
vertex_points vertices = map (λ x. x.point) vertices

-- the faces of the file of vertices and triangles in this order
abbrev pub file_faces : List SummedVertex → List Tri → List Tri
file_faces vertices tris = map (placed (vertex_names vertices)) tris

-- the file of them
abbrev pub file_of : Form → List SummedVertex → List Tri → List ℕ
file_of form vertices tris = form_text form (vertex_points vertices) (file_faces vertices tris)

-- the file of a mesh over these cells
abbrev pub octree_bytes : Form → List Cell → Mesh → List ℕ
octree_bytes form cells m = file_of form (vertices_by_home cells m) (tris_by_keeper cells m)

-- of sheets, one after another: their vertices, and their faces
abbrev pub all_vertices : List LeafSheet → List SummedVertex
all_vertices sheets = flat_map (λ s. s.vertices) sheets

abbrev pub all_faces : List LeafSheet → List Tri
all_faces sheets = flat_map (λ s. s.faces) sheets

-- the file of sheets, one after another
abbrev pub sheets_bytes : Form → List LeafSheet → List ℕ
sheets_bytes form sheets = file_of form (all_vertices sheets) (all_faces sheets)
