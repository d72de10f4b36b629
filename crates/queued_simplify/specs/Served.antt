-- What a queue of candidates tells of a mesh.
use Rattle.std.specs.Prelude.{◌≡◌, ◌≢◌, ◌⊎◌, ℕ, ℤ, int_le, Bool, true, false, List}
use Rattle.oemm_lists.specs.Numbers.{among}
use Rattle.oemm_octree.specs.declared.points.Point.{Point}
use Rattle.mesh_data.specs.declared.edits.Reply.TheVariants.{DoneAt}
use Rattle.mesh_data.specs.Edits.{is_held}
use Rattle.mesh_data.specs.Links.{are_neighbours}
use Rattle.mesh_data.specs.Mesh.{Mesh}
use Rattle.collapse_queue.specs.declared.candidate.Candidate.{Candidate}
use Rattle.collapse_queue.specs.Queues.{Queued, IsLive}
use Rattle.queued_simplify.specs.Errors.{ErrorMesh, collapse_reply, contracted, price}

-- two held names that share a triangle
pub record IsPair (inside : Point → Bool) (m : Mesh) (x y : ℕ) : Type 0 where
  pub held : is_held inside m x ≡ true
  pub onto_held : is_held inside m y ≡ true
  pub apart : x ≢ y
  pub near : are_neighbours m.tris x y ≡ true

-- some item of the pair is live, at its present price
abbrev pub IsQueued : ErrorMesh → Queued → ℕ → ℕ → Type 0
IsQueued w q x y = (s : ℕ) × IsLive q (record { cost = price w x y; u = x; v = y; stamp = s })

-- each live item is a pair at its present price, and each pair whose collapse is done is a live item, but maybe those
-- of the names that are left out
pub record IsServedBut (out : ℕ → Type 0) (inside : Point → Bool) (most : ℤ) (w : ErrorMesh) (q : Queued) : Type 0 where
  pub present : (c : Candidate) → IsLive q c → IsPair inside w.mesh c.u c.v × (c.cost ≡ price w c.u c.v)
  pub complete : (x y : ℕ) (cost_of : ℤ) → (out x → ⊥) → collapse_reply inside w x y most ≡ DoneAt cost_of
      → IsQueued w q x y

-- the same with no name left out
abbrev pub IsServed : (Point → Bool) → ℤ → ErrorMesh → Queued → Type 0
IsServed inside most w q = IsServedBut (λ x. ⊥) inside most w q

-- each pair of x whose price may be paid is a live item
abbrev pub IsWhole : (Point → Bool) → ℤ → ErrorMesh → Queued → ℕ → Type 0
IsWhole inside most w q x = (y : ℕ) → IsPair inside w.mesh x y → int_le (price w x y) most ≡ true → IsQueued w q x y

-- Names enough to be stamped anew where u is collapsed onto v: u, its old ring, the names that share a triangle with v
-- afterwards, and those that share one with another name of the old ring. Of the last those may be left out of which
-- each pair whose price may be paid is a live item.
pub record AreEnough (inside : Point → Bool) (most : ℤ) (w : ErrorMesh) (q : Queued) (u v : ℕ)
    (names : List ℕ) : Type 0 where
  pub itself : among u names ≡ true
  pub ring : (y : ℕ) → are_neighbours w.mesh.tris u y ≡ true → among y names ≡ true
  pub onto : (x : ℕ) → IsPair inside (contracted w u v).mesh x v → among x names ≡ true
  pub near : (x y : ℕ) → are_neighbours w.mesh.tris u y ≡ true → IsPair inside (contracted w u v).mesh x y
      → (among x names ≡ true) ⊎ IsWhole inside most w q x

-- the items of these names are replaced by their pairs in the mesh, but those that cost too much
pub record IsRefreshed (inside : Point → Bool) (most : ℤ) (w : ErrorMesh) (names : List ℕ) (q r : Queued) : Type 0 where
  pub kept : (c : Candidate) → IsLive q c → among c.u names ≡ false → IsLive r c
  pub made : (c : Candidate) → IsLive r c
      → (IsLive q c × (among c.u names ≡ false)) ⊎ (IsPair inside w.mesh c.u c.v × (c.cost ≡ price w c.u c.v))
  pub whole : (x : ℕ) → among x names ≡ true → IsWhole inside most w r x
