-- The file of a mesh: its vertices in the order of their names, which become places counted from 0.
use Rattle.std.specs.Prelude.{ℕ, nat_lt, List, map, count_by, Contains}
use Rattle.mesh_data.specs.declared.geometry.Tri.{Tri}
use Rattle.mesh_data.specs.Mesh.{Mesh, names_of, points_of}
use Rattle.mesh_out.specs.declared.form.Form.{Form}
use Rattle.mesh_out.specs.Form.{form_text}

-- the number of these names that lie below v
abbrev pub position_of : List ℕ → ℕ → ℕ
position_of names v = count_by (λ n. nat_lt n v) names

-- the triangle with the positions of its names
abbrev pub renumbered : List ℕ → Tri → Tri
renumbered names t = record { a = position_of names t.a; b = position_of names t.b; c = position_of names t.c }

-- the names of the triangle are among these
abbrev pub IsNamedBy : List ℕ → Tri → Type 0
IsNamedBy names t = Contains names t.a × Contains names t.b × Contains names t.c

-- the faces of a mesh's file
abbrev pub faces_of : Mesh → List Tri
faces_of m = map (renumbered (names_of m)) m.tris

-- the file of a mesh in a format
abbrev pub mesh_bytes : Form → Mesh → List ℕ
mesh_bytes form m = form_text form (points_of m) (faces_of m)
