-- What a collapse and a flip make of rings and of directed edges, on lists of triangles.
use Rattle.std.specs.Prelude.{◌≡◌, ◌≢◌, ◌⊎◌, ◌↔◌, All, Contains, ℕ, true, false, ◌&&◌, List, [], ◌∷◌, ◌++◌, map, Some, None}
use Rattle.mesh_data.specs.declared.geometry.Tri.{Tri}
use Rattle.mesh_data.specs.declared.rings.Ring.{Ring}
use Rattle.mesh_data.specs.Edits.{renamed}
use Rattle.mesh_data.specs.Links.{are_neighbours, is_closed_by_three, link_violation, opposites}
use Rattle.mesh_data.specs.Manifold.{HasRing, IsEachEdgeOnce}
use Rattle.mesh_data.specs.Rings.{IsRing, has_closed_ring}
use Rattle.mesh_data.specs.Triangles.{IsProper, has_edge}

-- each triangle has three different names, and no directed edge is in two triangles
pub record IsOriented (ts : List Tri) : Type 0 where
  pub proper : All IsProper ts
  pub edges : IsEachEdgeOnce ts

-- what the verdict of a collapse of u onto v asks of the triangles, whatever is held
pub record MayCollapse (ts : List Tri) (u v : ℕ) : Type 0 where
  pub differ : u ≢ v
  pub near : are_neighbours ts u v ≡ true
  pub closed : has_closed_ring ts u ≡ true
  pub unshared : link_violation ts u v ≡ None
  pub not_three : (is_closed_by_three ts u && is_closed_by_three ts v) ≡ false

-- what the verdict of a flip of the edge of a and b, with c and d opposite of it, asks of the triangles
pub record MayFlip (ts : List Tri) (a b c d : ℕ) : Type 0 where
  pub differ : a ≢ b
  pub opposite : opposites ts a b ≡ Some (c, d)
  pub unjoined : are_neighbours ts c d ≡ false

abbrev pub closed_ring : List ℕ → Ring
closed_ring names = record { names = names; closed = true }

abbrev pub open_ring : List ℕ → Ring
open_ring names = record { names = names; closed = false }

-- In a ring of w among the first triangles the old names stand between a and b, and in one among the second ones the new
-- names do. The rest of the ring stays, and both are closed, or both open.
pub data Splices (ts us : List Tri) (w a b : ℕ) (old new : List ℕ) : Type 0 where
  round : (q : List ℕ) → IsRing ts w (closed_ring (a ∷ (old ++ b ∷ q))) → IsRing us w (closed_ring (a ∷ (new ++ b ∷ q)))
      → Splices ts us w a b old new
  along : (p q : List ℕ) → IsRing ts w (open_ring (p ++ (a ∷ (old ++ b ∷ q))))
      → IsRing us w (open_ring (p ++ (a ∷ (new ++ b ∷ q)))) → Splices ts us w a b old new

-- some triangle has the directed edge from a to b
abbrev pub HasEdge : List Tri → ℕ → ℕ → Type 0
HasEdge ts a b = has_edge ts (record { a = a; b = b }) ≡ true

-- the edge from x to y is that from a to b, or the one back
abbrev pub IsBetween : ℕ → ℕ → ℕ → ℕ → Type 0
IsBetween a b x y = ((x ≡ a) × (y ≡ b)) ⊎ ((x ≡ b) × (y ≡ a))

-- the directed edges lose those with u, and gain those in both directions between v and each of these names
abbrev pub CollapsesEdges : List Tri → List Tri → ℕ → ℕ → List ℕ → Type 0
CollapsesEdges ts us u v mid =
    (x y : ℕ) → HasEdge us x y
    ↔ ((x ≢ u) × (y ≢ u) × (HasEdge ts x y ⊎ (((x ≡ v) × Contains mid y) ⊎ ((y ≡ v) × Contains mid x))))

-- the directed edges lose both between a and b, and gain both between c and d
abbrev pub FlipsEdges : List Tri → List Tri → ℕ → ℕ → ℕ → ℕ → Type 0
FlipsEdges ts us a b c d = (x y : ℕ) → HasEdge us x y ↔ ((HasEdge ts x y × ¬ IsBetween a b x y) ⊎ IsBetween c d x y)

-- the first of these names, and n where there are none
abbrev pub first_name : List ℕ → ℕ → ℕ
first_name [] n = n
first_name (x ∷ xs) n = x

-- the last of these names, and n where there are none
abbrev pub last_name : ℕ → List ℕ → ℕ
last_name n [] = n
last_name n (x ∷ xs) = last_name x xs

-- A collapse of u onto v, name by name. The ring of u, from v on, has r first and s last. Its names between them go into
-- the ring of v in the place of u, u leaves the rings of r and s, and in every other ring v stands in the place of u.
-- Each name's ring asks for that ring alone, and those of r and s for one of v besides.
pub record CollapsesRings (ts us : List Tri) (u v : ℕ) : Type 0 where
  pub r : ℕ
  pub s : ℕ
  pub mid : List ℕ
  pub edges : CollapsesEdges ts us u v mid
  pub of_u : IsRing ts u (closed_ring (v ∷ (r ∷ mid ++ s ∷ [])))
  pub of_v : HasRing ts v → Splices ts us v r s (u ∷ []) mid
  pub of_r : HasRing ts v → HasRing ts r → Splices ts us r (first_name mid s) v (u ∷ []) []
  pub of_s : HasRing ts v → HasRing ts s → Splices ts us s v (last_name r mid) (u ∷ []) []
  pub of_others : (w : ℕ) (k : Ring) → w ≢ u → w ≢ v → w ≢ r → w ≢ s → IsRing ts w k
      → IsRing us w (record { names = map (renamed u v) k.names; closed = k.closed })

-- A flip of the edge of a and b, with c and d opposite of it: a and b leave each other's rings, c and d come into each
-- other's, and every other ring stays. Each name's ring asks for that ring alone.
pub record FlipsRings (ts us : List Tri) (a b c d : ℕ) : Type 0 where
  pub edges : FlipsEdges ts us a b c d
  pub of_a : HasRing ts a → Splices ts us a d c (b ∷ []) []
  pub of_b : HasRing ts b → Splices ts us b c d (a ∷ []) []
  pub of_c : HasRing ts c → Splices ts us c a b [] (d ∷ [])
  pub of_d : HasRing ts d → Splices ts us d b a [] (c ∷ [])
  pub of_others : (w : ℕ) (k : Ring) → w ≢ a → w ≢ b → w ≢ c → w ≢ d → IsRing ts w k → IsRing us w k
