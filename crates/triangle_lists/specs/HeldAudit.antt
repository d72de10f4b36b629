-- What is first wrong with a list of triangles where only some vertices are held.
use Rattle.std.specs.Prelude.{◌≡◌, ℕ, ◌<◌, true, List, Option, Some, None}
use Rattle.mesh_data.specs.declared.geometry.Tri.{Tri}
use Rattle.mesh_data.specs.declared.shapes.Shape.{Shape}
use Rattle.mesh_data.specs.declared.shapes.Shape.TheVariants as shape
use Rattle.mesh_data.specs.Manifold.{HasRing, IsEachEdgeOnce, IsLeastTwice, is_corner}
use Rattle.oemm_lists.specs.Numbers.{among}

-- each held vertex that is in a triangle has a ring
abbrev pub AreHeldRinged : List Tri → List ℕ → Type 0
AreHeldRinged ts held = (v : ℕ) → among v held ≡ true → is_corner ts v ≡ true → HasRing ts v

-- the least held vertex that is in a triangle and has no ring
pub record IsLeastHeldRingless (ts : List Tri) (held : List ℕ) (v : ℕ) : Type 0 where
  pub is_held : among v held ≡ true
  pub corner : is_corner ts v ≡ true
  pub ringless : HasRing ts v → ⊥
  pub least : (w : ℕ) → w < v → among w held ≡ true → is_corner ts w ≡ true → HasRing ts w

-- The least directed edge that two triangles have, else the least held vertex that is in a triangle and has no ring, else
-- none.
abbrev pub FindsHeldShape : List Tri → List ℕ → Option Shape → Type 0
FindsHeldShape ts held (Some (shape.Edge a b)) = IsLeastTwice ts (record { a = a; b = b })
FindsHeldShape ts held (Some (shape.Vertex v)) = IsEachEdgeOnce ts × IsLeastHeldRingless ts held v
FindsHeldShape ts held None = IsEachEdgeOnce ts × AreHeldRinged ts held
