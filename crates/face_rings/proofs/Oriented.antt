-- Oriented lists by their faces.
use Rattle.std.proofs.Common.{◌≡◌, ◌≢◌, ℕ, ◌+◌, All, List, [], ◌∷◌, arith, filter, inl, inr, length, refl}
use Rattle.std.proofs.lemmas.List.Elements.{All-from_recursion, recursion_from_All}
use Rattle.std.specs.List.{AllByRecursion}
use Rattle.mesh_data.specs.declared.geometry.Tri.{Tri}
use Rattle.mesh_data.specs.Links.{has_both}
use Rattle.mesh_data.specs.Manifold.{IsManifold, times}
use Rattle.mesh_data.specs.Mesh.{Mesh}
use Rattle.mesh_data.specs.RingChanges.{IsOriented}
use Rattle.mesh_data.specs.Triangles.{IsProper, directed_edges, same_edge}
use Rattle.triangle_lists.proofs.Counts.{often_is}
use Rattle.triangle_lists.proofs.Walks.{step}
use Rattle.face_rings.proofs.Fans.{different_of}
use Rattle.face_rings.proofs.Named.{Different, Unique}
use Rattle.face_rings.proofs.Tallies.{AreOnce, of_once, once_of, tally, tally_both, unique_of}
use Rattle.face_rings.specs.Faces.{◌∈◌}

-- the faces of an oriented list have three different names
pub different_on : (ts : List Tri) → IsOriented ts → Different ts
different_on ts oriented = different_of ts oriented.proper

-- and an edge has one face
pub unique_on : (ts : List Tri) → IsOriented ts → Unique ts
unique_on ts oriented = unique_of ts (different_on ts oriented) (once_of ts oriented.edges)

-- a list whose faces have different names, and in which no edge comes twice, is oriented
pub oriented_of : (ts : List Tri) → Different ts → AreOnce ts → IsOriented ts
oriented_of ts different once = record { proper = All-from_recursion IsProper ts (each ts (λ t i. different t.a t.b t.c (t, i, inl refl))); edges = of_once ts once }
  where
    each : (us : List Tri) → ((t : Tri) → t ∈ us → IsProper t) → AllByRecursion IsProper us
    each [] h = tt
    each (t ∷ us) h = (h t (inl refl), each us (λ s i. h s (inr i)))

-- the triangles of a manifold are oriented
pub oriented_manifold : (m : Mesh) → IsManifold m → IsOriented m.tris
oriented_manifold m manifold = record { proper = λ k x lt. (manifold.corners k x lt).proper; edges = manifold.edges }

-- how often the edges between a and b come in both directions
pub times_both : (ts : List Tri) (a b : ℕ) → a ≢ b → All IsProper ts → times ts (step a b) + times ts (step b a) ≡ length (filter (has_both a b) ts)
unfolding tally
times_both ts a b ab proper =
    omega (arith, tally_both a b ts ab (recursion_from_All IsProper ts proper), often_is (same_edge (step a b)) (directed_edges ts), often_is (same_edge (step b a)) (directed_edges ts))
