-- What a verdict depends on.
use Rattle.std.specs.Prelude.{◌≡◌, ℕ, Bool, true}
use Rattle.oemm_octree.specs.declared.points.Point.{Point}
use Rattle.mesh_data.specs.Edits.{is_held, point_or_origin, planes_or_none}
use Rattle.mesh_data.specs.Mesh.{Mesh}
use Rattle.mesh_data.specs.Triangles.{star, neighbours}
use Rattle.oemm_lists.specs.Numbers.{among}

-- two meshes show an area the same of a name: whether it is held, and where it lies if it is
pub record Alike (inside : Point → Bool) (m n : Mesh) (w : ℕ) : Type 0 where
  pub held_too : is_held inside m w ≡ is_held inside n w
  pub same : is_held inside m w ≡ true → point_or_origin m w ≡ point_or_origin n w

-- the same triangles at v, alike at v and its neighbours, with the same planes of v
pub record AlikeAround (inside : Point → Bool) (m n : Mesh) (v : ℕ) : Type 0 where
  pub star : star v m.tris ≡ star v n.tris
  pub itself : Alike inside m n v
  pub others : (w : ℕ) → among w (neighbours v m.tris) ≡ true → Alike inside m n w
  pub planes : is_held inside m v ≡ true → planes_or_none m v ≡ planes_or_none n v
