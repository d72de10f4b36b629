-- The triangles round a name, and which of them a collapse folds.
use Rattle.std.specs.Prelude.{ℕ, Bool, not, ◌&&◌, ◌==◌, List, map, Option, Some, None}
use Rattle.std.specs.List.{find}
use Rattle.std.specs.Option.{option_map_or}
use Rattle.oemm_octree.specs.declared.points.Point.{Point}
use Rattle.mesh_data.specs.declared.geometry.Edge.{Edge}
use Rattle.mesh_data.specs.declared.geometry.Tri.{Tri}
use Rattle.mesh_data.specs.declared.planes.Plane.{Plane}
use Rattle.mesh_data.specs.Edits.{substituted}
use Rattle.mesh_data.specs.Mesh.{origin}
use Rattle.mesh_data.specs.Planes.{folds, plane_of}
use Rattle.mesh_data.specs.Triangles.{has_corner, turned}
use Rattle.link_test.specs.declared.link.Link.{Link}
use Rattle.link_test.specs.declared.link.Link.TheVariants.{Shared}
use Rattle.sheet_data.specs.Summed.{SummedVertex}

-- the triangles of u and each of these steps, turned
abbrev pub round : ℕ → List Edge → List Tri
round u es = map (λ e. turned (record { a = u; b = e.a; c = e.b })) es

-- the point of a name among these vertices, and the origin where they lack it
abbrev pub place_of : List SummedVertex → ℕ → Point
place_of vs v = option_map_or (λ x. x.point) (find (λ x. v == x.name) vs) origin

-- the plane in which a triangle of these vertices lies
abbrev pub plane_by : List SummedVertex → Tri → Plane
plane_by vs t = plane_of (place_of vs t.a) (place_of vs t.b) (place_of vs t.c)

-- the triangle has u and not v, and folds where v is put for u
abbrev pub folds_by : List SummedVertex → ℕ → ℕ → Tri → Bool
folds_by vs u v t = has_corner u t && not (has_corner v t) && folds (plane_by vs t) (plane_by vs (substituted u v t))

-- the name that violates the link condition, if there is one
abbrev pub shared_in : Link → Option ℕ
shared_in (Shared w) = Some w
shared_in _ = None
