-- Held vertices, and moves, by the points of a mesh.
use Rattle.std.specs.Prelude.{◌≡◌, ◌≢◌, ℕ, Bool, true, Some}
use Rattle.oemm_octree.specs.declared.points.Point.{Point}
use Rattle.mesh_data.specs.Mesh.{Mesh, point_of, planes_of}

-- the mesh has the vertex, at a point of the area
abbrev pub IsHeld : (Point → Bool) → Mesh → ℕ → Type 0
IsHeld inside m v = (p : Point) × (point_of m v ≡ Some p) × (inside p ≡ true)

-- v lies at the point in the second mesh, and all else is as in the first
pub record IsMoved (m n : Mesh) (v : ℕ) (to : Point) : Type 0 where
  pub there : point_of n v ≡ Some to
  pub others : (w : ℕ) → w ≢ v → point_of n w ≡ point_of m w
  pub planes : (w : ℕ) → planes_of n w ≡ planes_of m w
  pub tris : n.tris ≡ m.tris
