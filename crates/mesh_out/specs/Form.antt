-- The file of points and faces in each format: a header, the vertices and the faces.
use Rattle.std.specs.Prelude.{ℕ, List, ◌++◌, length}
use Rattle.std.specs.List.{flat_map}
use Rattle.oemm_octree.specs.declared.points.Point.{Point}
use Rattle.mesh_data.specs.declared.geometry.Tri.{Tri}
use Rattle.mesh_out.specs.declared.form.Form.{Form}
use Rattle.mesh_out.specs.declared.form.Form.TheVariants.{Off, Ply}
use Rattle.mesh_out.specs.Off.{off_head, point_line, face_line}
use Rattle.mesh_out.specs.Ply.{ply_head, ply_vertex, ply_face}

-- the header of a file with these numbers of vertices and faces
abbrev pub form_head : Form → ℕ → ℕ → List ℕ
form_head Off vertices faces = off_head vertices faces
form_head Ply vertices faces = ply_head vertices faces

-- a vertex
abbrev pub form_vertex : Form → Point → List ℕ
form_vertex Off p = point_line p
form_vertex Ply p = ply_vertex p

-- a face
abbrev pub form_face : Form → Tri → List ℕ
form_face Off t = face_line t
form_face Ply t = ply_face t

-- the file of points and faces
abbrev pub form_text : Form → List Point → List Tri → List ℕ
form_text form points faces =
    form_head form (length points) (length faces)
    ++ (flat_map (form_vertex form) points ++ flat_map (form_face form) faces)
