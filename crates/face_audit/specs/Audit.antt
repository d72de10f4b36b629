-- What an audit answers of a number of vertices and a list of faces.
use Rattle.std.specs.Prelude.{◌≡◌, ℕ, ◌+◌, pos, ◌-ℤ◌, List, length, Some, None}
use Rattle.std.specs.FinSet as set
use Rattle.mesh_data.specs.declared.geometry.Tri.{Tri}
use Rattle.mesh_data.specs.declared.shapes.Audit.{Audit}
use Rattle.mesh_data.specs.declared.shapes.Audit.TheVariants.{Good, Bad}
use Rattle.mesh_data.specs.Triangles.{border_edges, undirected_edges}
use Rattle.triangle_lists.specs.Audit.{FindsShape}

-- What an audit answers of so many vertices and of faces, each as often as it comes: the least directed edge that two
-- faces have, else the least vertex that is in a face and has no ring, else that nothing is wrong, with the numbers.
abbrev pub AuditsFaces : ℕ → List Tri → Audit → Type 0
AuditsFaces count faces (Bad shape) = FindsShape faces (Some shape)
AuditsFaces count faces (Good vertices of_faces euler border) =
    FindsShape faces None × (vertices ≡ count) × (of_faces ≡ length faces) × (border ≡ length (border_edges faces))
    × (euler ≡ pos (count + length faces) -ℤ pos (set.len (undirected_edges faces)))
