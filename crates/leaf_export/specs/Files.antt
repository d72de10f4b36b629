-- What is written of the sheets of all leaves, and what shows that they are of no mesh.
use Rattle.std.specs.Prelude.{ℕ, not, List, [], Option, Result}
use Rattle.std.specs.List.{find, flat_map}
use Rattle.std.specs.Option.{option_map, option_or}
use Rattle.oemm_octree.specs.declared.cells.Cell.{Cell}
use Rattle.oemm_octree.specs.declared.points.Point.{Point}
use Rattle.oemm_octree.specs.Leaves.{is_one_of}
use Rattle.mesh_data.specs.declared.geometry.Tri.{Tri}
use Rattle.mesh_data.specs.declared.shapes.Shape.TheVariants.{Vertex}
use Rattle.mesh_data.specs.Mesh.{Mesh}
use Rattle.mesh_data.specs.Triangles.{corners}
use Rattle.mesh_sheets.specs.Export.{tris_by_keeper, vertices_by_home}
use Rattle.sheet_data.specs.declared.sheets.LeafSheet.{LeafSheet}
use Rattle.patch_assembly.specs.Clashes.{clash_in, names_in, unless}
use Rattle.patch_assembly.specs.declared.clash.Clash.{Clash}
use Rattle.patch_assembly.specs.declared.clash.Clash.TheVariants.{Shape}
use Rattle.leaf_export.specs.OctreeBytes.{all_faces, all_vertices, file_faces, vertex_points}

-- the points and the faces of a file
abbrev pub Parts : Type 0
Parts = List Point × List Tri

-- those of the file of a mesh over these cells
abbrev pub mesh_parts : List Cell → Mesh → Parts
mesh_parts cells m =
    (vertex_points (vertices_by_home cells m), file_faces (vertices_by_home cells m) (tris_by_keeper cells m))

-- the first name of these triangles, in their order, that isn't one of these
abbrev pub first_missing : List ℕ → List Tri → Option ℕ
first_missing names tris = find (λ v. not (is_one_of names v)) (flat_map corners tris)

-- What shows that the sheets of all leaves are of no mesh: what shows it of the sheets of a core; or else the first name
-- of a face that no vertex has.
abbrev pub file_clash : List LeafSheet → Option Clash
file_clash sheets =
    option_or (clash_in sheets []) (option_map (λ v. Shape (Vertex v)) (first_missing (names_in sheets) (all_faces sheets)))

-- the points and the faces of the file of sheets, unless something shows that
abbrev pub parts_in : List LeafSheet → Result Parts Clash
parts_in sheets =
    unless (vertex_points (all_vertices sheets), file_faces (all_vertices sheets) (all_faces sheets)) (file_clash sheets)
