-- The start mesh doesn't depend on the order of the faces.
use Rattle.std.proofs.Common.{◌≡◌, List, map, ap}
use Rattle.std.proofs.lemmas.List.Sorted.{IsPermutation-map}
use Rattle.std.specs.FinMap as finite
use Rattle.std.specs.List.Sorted.{IsPermutation}
use Rattle.oemm_octree.specs.declared.points.Point.{Point}
use Rattle.mesh_data.specs.declared.geometry.Tri.{Tri}
use Rattle.mesh_data.specs.Mesh.{Mesh, start, named_from, planes_at}
use Rattle.mesh_data.specs.Triangles.{turned}
use Rattle.triangle_lists.proofs.Orders.{tri_cmp_total, tri_cmp-IsAntisymmetric}
use Rattle.triangle_lists.proofs.Sorting.{in_order-IsPermutation}

-- the start mesh by its triangles
started : List Point → List Tri → Mesh
started ps ts = record { vertices = finite.from_entries (named_from (planes_at ps ts) 0 ps); tris = ts }

pub start_in_any_order : (points : List Point) (faces others : List Tri) → IsPermutation faces others → start (record { points = points; faces = faces }) ≡ start (record { points = points; faces = others })
unfolding started
start_in_any_order points faces others moved =
    ap (started points) (in_order-IsPermutation tri_cmp_total tri_cmp-IsAntisymmetric (map turned faces) (map turned others) (IsPermutation-map turned faces others moved))
