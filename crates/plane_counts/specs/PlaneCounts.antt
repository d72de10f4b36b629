-- The planes that the vertices of a mesh have.
use Rattle.std.specs.Prelude.{◌≡◌, ℕ, ◌^◌, ◌≤◌, Bool, not, ◌&&◌, nat_lt, nat_abs, List, length}
use Rattle.std.specs.List.{count_by}
use Rattle.std.specs.FinMap as finite
use Rattle.std.specs.Ordering.{nat_cmp}
use Rattle.mesh_data.specs.declared.geometry.Vertex.{Vertex}
use Rattle.mesh_data.specs.declared.planes.Plane.{Plane}
use Rattle.mesh_data.specs.Planes.{most_planes}
use Rattle.edit_steps.specs.Totals.{total}

-- how many planes a vertex has
abbrev pub plane_count : Vertex → ℕ
plane_count x = length x.planes

-- the parts of the normal are below 2^32 in size and the offset is below 2^49, as of each triangle of the grid
abbrev pub is_bounded : Plane → Bool
is_bounded l = nat_lt (nat_abs l.nx) (2 ^ 32) && nat_lt (nat_abs l.ny) (2 ^ 32) && nat_lt (nat_abs l.nz) (2 ^ 32) && nat_lt (nat_abs l.d) (2 ^ 49)

-- how many of these planes are larger
abbrev pub large_of : List Plane → ℕ
large_of ls = count_by (λ l. not (is_bounded l)) ls

-- how many planes of a vertex are larger
abbrev pub large_count : Vertex → ℕ
large_count x = large_of x.planes

-- the vertices have no more planes than the triangles of a mesh give, and none that is larger
pub record HasPlanes (m : finite.FinMap nat_cmp Vertex) : Type 0 where
  pub few : total plane_count m ≤ most_planes
  pub bounded : total large_count m ≡ 0
