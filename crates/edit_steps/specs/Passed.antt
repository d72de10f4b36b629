-- What is so where an edit is done.
use Rattle.std.specs.Prelude.{◌≡◌, ◌≢◌, ◌&&◌, ℕ, Bool, true, false, Some, None}
use Rattle.std.specs.List.{find}
use Rattle.oemm_octree.specs.declared.points.Point.{Point}
use Rattle.mesh_data.specs.Edits.{folds_with, is_free, is_held}
use Rattle.mesh_data.specs.Links.{are_neighbours, is_closed_by_three, link_violation, opposites}
use Rattle.mesh_data.specs.Mesh.{Mesh}
use Rattle.mesh_data.specs.Rings.{has_closed_ring}

-- what is so of an edit of two names that is done: two different free names, with an edge between them
pub record PairPassed (inside : Point → Bool) (m : Mesh) (u v : ℕ) : Type 0 where
  pub held : is_held inside m u ≡ true
  pub onto_held : is_held inside m v ≡ true
  pub apart : u ≢ v
  pub free : is_free inside m u ≡ true
  pub onto_free : is_free inside m v ≡ true
  pub near : are_neighbours m.tris u v ≡ true

-- what is so of a collapse that is done
pub record CollapsePassed (inside : Point → Bool) (m : Mesh) (u v : ℕ) : Type 0 where
  pub pair : PairPassed inside m u v
  pub closed : has_closed_ring m.tris u ≡ true
  pub unshared : link_violation m.tris u v ≡ None
  pub not_three : (is_closed_by_three m.tris u && is_closed_by_three m.tris v) ≡ false
  pub unfolded : find (folds_with m u v) m.tris ≡ None

-- what is so of a flip that is done
pub record FlipPassed (inside : Point → Bool) (m : Mesh) (a b : ℕ) : Type 0 where
  pub pair : PairPassed inside m a b
  pub c : ℕ
  pub d : ℕ
  pub ends : opposites m.tris a b ≡ Some (c, d)
  pub new : are_neighbours m.tris c d ≡ false
