-- The rim of an area: the triangles that it holds in part.
use Rattle.std.specs.Prelude.{◌≡◌, ℕ, Bool, true, not, ◌&&◌, Contains, List}
use Rattle.std.specs.List.{filter, list_all}
use Rattle.std.specs.FinMap as finite
use Rattle.oemm_octree.specs.declared.points.Point.{Point}
use Rattle.mesh_data.specs.declared.geometry.Tri.{Tri}
use Rattle.mesh_data.specs.Edits.{is_held}
use Rattle.mesh_data.specs.Mesh.{Mesh}
use Rattle.mesh_data.specs.Seen.{touches}
use Rattle.mesh_data.specs.Triangles.{corners, has_corner}

-- one or two names of the triangle are held
abbrev pub is_rim : (Point → Bool) → Mesh → Tri → Bool
is_rim inside m t = touches inside m t && not (list_all (is_held inside m) (corners t))

-- the triangles at the rim
abbrev pub rim : (Point → Bool) → Mesh → List Tri
rim inside m = filter (is_rim inside m) m.tris

-- the second mesh has the same triangles at the rim, with the same vertices
pub record KeepsRim (inside : Point → Bool) (m n : Mesh) : Type 0 where
  pub tris : rim inside n ≡ rim inside m
  pub vertices : (t : Tri) (w : ℕ) → Contains (rim inside m) t → has_corner w t ≡ true
      → finite.get n.vertices w ≡ finite.get m.vertices w
