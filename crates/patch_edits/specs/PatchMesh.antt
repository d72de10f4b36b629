-- A patch as a mesh, and what collapses cost on it.
use Rattle.std.specs.Prelude.{ℕ, ◌==◌, ℤ, List, [], map}
use Rattle.std.specs.FinMap as finite
use Rattle.std.specs.List.{find}
use Rattle.std.specs.Option.{option_map_or}
use Rattle.std.specs.Ordering.{nat_cmp}
use Rattle.oemm_lists.specs.Ascending.{in_order}
use Rattle.mesh_data.specs.declared.geometry.Vertex.{Vertex}
use Rattle.mesh_data.specs.Edits.{point_or_origin}
use Rattle.mesh_data.specs.Mesh.{Mesh}
use Rattle.mesh_data.specs.Planes.{Sums, no_sums, added, sums_value}
use Rattle.mesh_data.specs.Triangles.{tri_cmp}
use Rattle.sheet_data.specs.declared.patches.Patch.{Patch}
use Rattle.sheet_data.specs.Summed.{SummedVertex}
use Rattle.mesh_sheets.specs.Written.{patch_tris}

-- a vertex of a patch as one of a mesh, by its name; its planes aren't known
abbrev pub placed : SummedVertex → ℕ × Vertex
placed x = (x.name, record { point = x.point; planes = [] })

-- the mesh of a patch: its vertices without planes, and all of its triangles, in order
abbrev pub mesh_of : Patch → Mesh
mesh_of p = record {
  vertices = finite.from_entries {R = nat_cmp} (map placed p.vertices);
  tris = in_order tri_cmp (patch_tris p);
}

-- the sums of a name among these vertices, and none where they lack it
abbrev pub sums_at : List SummedVertex → ℕ → Sums
sums_at vs v = option_map_or (λ x. x.quad) (find (λ x. v == x.name) vs) no_sums

-- what it costs to collapse u onto v: the values of the sums of both at the point of v
abbrev pub cost_on : Patch → ℕ → ℕ → ℤ
cost_on p u v =
    sums_value (added (sums_at p.vertices u) (sums_at p.vertices v)) (point_or_origin (mesh_of p) v)
