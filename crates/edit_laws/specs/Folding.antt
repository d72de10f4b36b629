-- The triangle that a collapse is refused for.
use Rattle.std.specs.Prelude.{◌≡◌, ℕ, true, Contains}
use Rattle.std.specs.Ordering.{is_le}
use Rattle.mesh_data.specs.declared.geometry.Tri.{Tri}
use Rattle.mesh_data.specs.Edits.{folds_with}
use Rattle.mesh_data.specs.Mesh.{Mesh}
use Rattle.mesh_data.specs.Triangles.{tri_cmp}

-- t is a triangle of the mesh that folds where v is put for u, and none that folds is less
pub record IsLeastFolding (m : Mesh) (u v : ℕ) (t : Tri) : Type 0 where
  pub there : Contains m.tris t
  pub folds : folds_with m u v t ≡ true
  pub least : (s : Tri) → Contains m.tris s → folds_with m u v s ≡ true → is_le (tri_cmp t s) ≡ true
