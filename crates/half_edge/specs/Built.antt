-- Half-edges that are those of a list of triangles.
use Rattle.std.specs.Prelude.{◌≡◌, ℕ, ◌+◌, true, List, [], ◌∷◌}
use Rattle.std.specs.BTreeMap.{BTreeMap}
use Rattle.std.specs.List.{flat_map}
use Rattle.mesh_data.specs.declared.geometry.Tri.{Tri}
use Rattle.mesh_data.specs.declared.geometry.Edge.{Edge}
use Rattle.mesh_data.specs.Triangles.{has_edge}
use Rattle.half_edge.specs.Halves.{Slots, Goes, IsSound, led_face}
use Rattle.half_edge.specs.Building.{Tells}

-- the sum of f over the triangles
abbrev pub sum_of : (Tri → ℕ) → List Tri → ℕ
sum_of f [] = 0
sum_of f (t ∷ ts) = f t + sum_of f ts

-- These half-edges are those of the triangles, each once: any weight of triangles sums up alike over both. The map tells
-- their edges.
pub record Built (s : Slots) (m : BTreeMap Edge ℕ) (ts : List Tri) : Type 0 where
  pub sound : IsSound s
  pub told : Tells m s
  pub weighs : (g : Tri → ℕ) → sum_of g (flat_map led_face s) ≡ sum_of g ts
  pub edges : (k a b : ℕ) → Goes s k a b → has_edge ts (record { a = a; b = b }) ≡ true
