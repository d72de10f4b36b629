-- The link condition by the rings of the two vertices of an edge.
use Rattle.std.specs.Prelude.{◌≡◌, ◌≢◌, ◌≤◌, ℕ, Bool, true, false, ◌&&◌, min, List, Option, Some, None}
use Rattle.mesh_data.specs.declared.geometry.Tri.{Tri}
use Rattle.mesh_data.specs.Links.{are_neighbours, is_closed_by_three, link_violation}
use Rattle.mesh_data.specs.RingChanges.{IsOriented, closed_ring}
use Rattle.mesh_data.specs.Rings.{IsRing, closed_path, has_path_edge, path_edges}
use Rattle.oemm_lists.specs.Numbers.{among}
use Rattle.link_test.specs.declared.link.Link.{Link}
use Rattle.link_test.specs.declared.link.Link.TheVariants.{Good, Shared, Closed}

-- In these triangles, each of three different names and no directed edge in two of them, u and v are adjacent and have
-- these rings, that of u closed.
pub record AreRings (ts : List Tri) (ring_u ring_v : List ℕ) (closed_v : Bool) (u v : ℕ) : Type 0 where
  pub oriented : IsOriented ts
  pub differ : u ≢ v
  pub near : are_neighbours ts u v ≡ true
  pub of_u : IsRing ts u (closed_ring ring_u)
  pub of_v : IsRing ts v (record { names = ring_v; closed = closed_v })

-- What the link condition says of the edge of u and v: the least name next to both that isn't opposite of the edge,
-- else that both have closed rings of three names, else that it holds (Dey, Edelsbrunner, Guha and Nekhayev, "Topology
-- preserving edge contraction", 1999).
abbrev pub Tells : List Tri → ℕ → ℕ → Link → Type 0
Tells ts u v (Shared w) = link_violation ts u v ≡ Some w
Tells ts u v Closed = (link_violation ts u v ≡ None) × ((is_closed_by_three ts u && is_closed_by_three ts v) ≡ true)
Tells ts u v Good = (link_violation ts u v ≡ None) × ((is_closed_by_three ts u && is_closed_by_three ts v) ≡ false)

-- y follows x in the closed ring of these names
abbrev pub follows : List ℕ → ℕ → ℕ → Bool
follows ring x y = has_path_edge (path_edges (closed_path ring)) (record { a = x; b = y })

-- the lesser of a name, if there is one, and another
abbrev pub lesser : Option ℕ → ℕ → ℕ
lesser None w = w
lesser (Some x) w = min x w

-- the least of these names that passes the test, if one does
abbrev pub IsLeastPassing : (ℕ → Bool) → List ℕ → Option ℕ → Type 0
IsLeastPassing p names None = (x : ℕ) → among x names ≡ true → p x ≡ true → ⊥
IsLeastPassing p names (Some w) =
    (among w names ≡ true) × (p w ≡ true) × ((x : ℕ) → among x names ≡ true → p x ≡ true → w ≤ x)
