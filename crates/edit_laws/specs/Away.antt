-- Names away from the ring of a name.
use Rattle.std.specs.Prelude.{◌≡◌, ◌≢◌, ℕ, false, List}
use Rattle.std.specs.List.{AllByRecursion}
use Rattle.mesh_data.specs.declared.geometry.Tri.{Tri}
use Rattle.mesh_data.specs.Links.{are_neighbours}
use Rattle.mesh_data.specs.Mesh.{Mesh}
use Rattle.mesh_data.specs.Triangles.{turned}

-- each triangle is turned
abbrev pub AreTurned : List Tri → Type 0
AreTurned ts = AllByRecursion (λ t. turned t ≡ t) ts

-- a name that is neither u nor one of its neighbours
pub record IsAway (m : Mesh) (u x : ℕ) : Type 0 where
  pub from_u : x ≢ u
  pub from_ring : are_neighbours m.tris u x ≡ false
