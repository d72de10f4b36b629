-- A queue to which pairs are added.
use Rattle.std.specs.Prelude.{◌≡◌, ◌⊎◌, ◌||◌, ◌&&◌, ◌==◌, ◌≤◌, ℕ, ℤ, int_le, Bool, true, false, List, if◌then◌else◌}
use Rattle.oemm_lists.specs.Numbers.{among}
use Rattle.oemm_octree.specs.declared.points.Point.{Point}
use Rattle.mesh_data.specs.Mesh.{Mesh}
use Rattle.collapse_queue.specs.declared.candidate.Candidate.{Candidate}
use Rattle.collapse_queue.specs.Candidates.{stamp_in}
use Rattle.collapse_queue.specs.Queues.{Queued, IsLive, IsIn, pushed}
use Rattle.queued_simplify.specs.Errors.{ErrorMesh, price}
use Rattle.queued_simplify.specs.Served.{IsPair, IsQueued}
use Rattle.queued_simplify.specs.Rooms.{IsRoomy}

-- the names are those that form a pair with x
abbrev pub AreHeldAround : (Point → Bool) → Mesh → ℕ → List ℕ → Type 0
AreHeldAround inside m x names =
    (y : ℕ) → ((among y names ≡ true → IsPair inside m x y) × (IsPair inside m x y → among y names ≡ true))

-- the queue with the pair at its price, if that isn't too much
abbrev pub offered : ErrorMesh → ℤ → ℕ → ℕ → ℕ → Queued → Queued
offered w most s x y q =
    if int_le (price w x y) most then pushed (record { cost = price w x y; u = x; v = y; stamp = s }) q else q

-- each of these names has this stamp, which no item has passed, and no live item
pub record AreStamped (names : List ℕ) (s : ℕ) (q : Queued) : Type 0 where
  pub stamp : (x : ℕ) → among x names ≡ true → stamp_in q.stamps x ≡ s
  pub none : (c : Candidate) → IsLive q c → among c.u names ≡ false
  pub items : (c : Candidate) → IsIn c q.items → c.stamp ≤ s

-- the pairs that pass a test are added, as far as their prices may be paid, and no others
pub record IsFilled (inside : Point → Bool) (most : ℤ) (w : ErrorMesh) (done : ℕ → ℕ → Bool) (s : ℕ)
    (q r : Queued) : Type 0 where
  pub kept : (c : Candidate) → IsLive q c → IsLive r c
  pub made : (c : Candidate) → IsLive r c
      → IsLive q c ⊎ ((done c.u c.v ≡ true) × IsPair inside w.mesh c.u c.v × (c.cost ≡ price w c.u c.v))
  pub whole : (x y : ℕ) → done x y ≡ true → IsPair inside w.mesh x y → int_le (price w x y) most ≡ true
      → IsQueued w r x y
  pub stamps : r.stamps ≡ q.stamps
  pub roomy : IsRoomy inside w.mesh r
  pub items : (c : Candidate) → IsIn c r.items → c.stamp ≤ s

-- the pairs of these names, and those of x with some
abbrev pub up_to : List ℕ → ℕ → List ℕ → ℕ → ℕ → Bool
up_to names x ring a b = among a names || a == x && among b ring

-- the pairs of these names
abbrev pub all_of : List ℕ → ℕ → ℕ → Bool
all_of names a b = among a names
