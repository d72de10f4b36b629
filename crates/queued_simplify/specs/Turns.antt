-- A queue in step with a mesh, from turn to turn.
use Rattle.std.specs.Prelude.{◌≡◌, ◌⊎◌, All, ◌<◌, ℕ, ◌==◌, ℤ, Bool, true, false, not, ◌||◌, List, filter, Option, Some, None, if◌then◌else◌}
use Rattle.std.specs.FinMap as finite
use Rattle.std.specs.List.Sorted.{IsSorted}
use Rattle.std.specs.Ordering.{nat_cmp}
use Rattle.oemm_lists.specs.Numbers.{among}
use Rattle.oemm_octree.specs.declared.points.Point.{Point}
use Rattle.mesh_data.specs.declared.edits.Reply.{Reply}
use Rattle.mesh_data.specs.declared.edits.Reply.TheVariants.{DoneAt}
use Rattle.mesh_data.specs.declared.edits.Step.{Step}
use Rattle.mesh_data.specs.Edits.{is_held}
use Rattle.mesh_data.specs.Manifold.{IsTriangleOn}
use Rattle.mesh_data.specs.Mesh.{Mesh}
use Rattle.mesh_data.specs.Triangles.{tri_cmp}
use Rattle.collapse_queue.specs.declared.candidate.Candidate.{Candidate}
use Rattle.collapse_queue.specs.Candidates.{stamp_in}
use Rattle.collapse_queue.specs.Queues.{Queued, IsIn}
use Rattle.queued_simplify.specs.Errors.{ErrorMesh}
use Rattle.queued_simplify.specs.LeastSteps.{HasNoneDone, IsLeastDone}
use Rattle.queued_simplify.specs.Rooms.{IsRoomy}
use Rattle.queued_simplify.specs.Served.{IsPair, IsServedBut, IsWhole}

-- the triangles have three different names each, are turned, and stand in order
pub record IsInOrder (m : Mesh) : Type 0 where
  pub triangles : All (IsTriangleOn (λ w. Unit {0})) m.tris
  pub sorted : IsSorted tri_cmp m.tris

-- the names are those that are held
abbrev pub AreHeldNames : (Point → Bool) → Mesh → List ℕ → Type 0
AreHeldNames inside m names = (x : ℕ) → among x names ≡ is_held inside m x

-- some collapse of x was refused since x was stamped
abbrev pub is_refused : finite.FinMap nat_cmp ℕ → ℕ → Bool
is_refused refused x = not (stamp_in refused x == 0)

-- there is room, all stamps are below s, and each held name has one
pub record IsFit (inside : Point → Bool) (m : Mesh) (s : ℕ) (q : Queued) : Type 0 where
  pub roomy : IsRoomy inside m q
  pub items : (c : Candidate) → IsIn c q.items → c.stamp < s
  pub stamps : (x : ℕ) → stamp_in q.stamps x < s
  pub keys : (x : ℕ) → is_held inside m x ≡ true → finite.contains_key q.stamps x ≡ true

-- The queue serves the mesh, and each cheap pair of a name of which no collapse was refused is a live item, but maybe
-- those of the names that are left out. Each held name has a mark.
pub record IsReadyBut (out : ℕ → Type 0) (inside : Point → Bool) (most : ℤ) (w : ErrorMesh) (q : Queued)
    (refused : finite.FinMap nat_cmp ℕ) : Type 0 where
  pub served : IsServedBut out inside most w q
  pub whole : (x : ℕ) → (out x → ⊥) → is_refused refused x ≡ false → IsWhole inside most w q x
  pub keys : (x : ℕ) → is_held inside w.mesh x ≡ true → finite.contains_key refused x ≡ true

-- the same with no name left out
abbrev pub IsReady : (Point → Bool) → ℤ → ErrorMesh → Queued → finite.FinMap nat_cmp ℕ → Type 0
IsReady inside most w q refused = IsReadyBut (λ x. ⊥) inside most w q refused

-- what the next step is, if there is one: the least collapse that is done, whose items are taken out
abbrev pub IsNext : (Point → Bool) → ℤ → ErrorMesh → Queued → finite.FinMap nat_cmp ℕ → Option Step → Type 0
IsNext inside most w q refused None = HasNoneDone inside w most
IsNext inside most w q refused (Some s) =
    IsLeastDone inside w most s × IsReadyBut (λ x. x ≡ s.u) inside most w q refused

-- the collapse can be made
abbrev pub is_priced : Reply → Bool
is_priced (DoneAt cost_of) = true
is_priced _ = false

-- these names have this stamp, and all else is as it was
pub record IsRestamped (names : List ℕ) (s : ℕ) (q r : Queued) : Type 0 where
  pub items : r.items ≡ q.items
  pub room : r.room ≡ q.room
  pub stamps : (x : ℕ) → stamp_in r.stamps x ≡ (if among x names then s else stamp_in q.stamps x)
  pub keys : (x : ℕ) → finite.contains_key q.stamps x ≡ true → finite.contains_key r.stamps x ≡ true

-- no collapse of these names was refused, and all else is as it was
pub record IsCleared (names : List ℕ) (old new : finite.FinMap nat_cmp ℕ) : Type 0 where
  pub marks : (x : ℕ) → is_refused new x ≡ (if among x names then false else is_refused old x)
  pub keys : (x : ℕ) → finite.contains_key old x ≡ true → finite.contains_key new x ≡ true

-- these names, or those of which a collapse was refused
abbrev pub chosen : Bool → finite.FinMap nat_cmp ℕ → List ℕ → List ℕ
chosen all refused names = filter (λ x. all || is_refused refused x) names

-- the names of this ring, which are held, the held ones that share a triangle with v if the ring has v, and those that
-- share one with another name of the ring and of which a collapse was refused
pub record IsAround (inside : Point → Bool) (m : Mesh) (v : ℕ) (ring : List ℕ) (refused : finite.FinMap nat_cmp ℕ)
    (names : List ℕ) : Type 0 where
  pub itself : (y : ℕ) → among y ring ≡ true → among y names ≡ true
  pub onto : (x : ℕ) → among v ring ≡ true → IsPair inside m x v → among x names ≡ true
  pub near : (x y : ℕ) → among y ring ≡ true → IsPair inside m x y
      → (among x names ≡ true) ⊎ (is_refused refused x ≡ false)
  pub held : (x : ℕ) → among x names ≡ true → is_held inside m x ≡ true
