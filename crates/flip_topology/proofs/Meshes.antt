-- A flip that is done keeps an oriented 2-manifold, its Euler characteristic and its border.
use Rattle.std.proofs.Common.{◌≡◌, ℕ, ◌*◌, pos, ◌-ℤ◌, Bool, false, true, List, Option, Some, ap, length, subst, sym, ◌∙◌}
use Rattle.std.specs.FinMap as finite
use Rattle.std.specs.Option.{option_map_or}
use Rattle.oemm_octree.specs.declared.points.Point.{Point}
use Rattle.mesh_data.specs.declared.geometry.Tri.{Tri}
use Rattle.mesh_data.specs.Edits.{flip_verdict, flipped, flipped_tris, is_done}
use Rattle.mesh_data.specs.Keeps.{Keeps}
use Rattle.mesh_data.specs.Links.{are_neighbours, opposites}
use Rattle.mesh_data.specs.Manifold.{IsManifold}
use Rattle.mesh_data.specs.Mesh.{Mesh, border}
use Rattle.mesh_data.specs.RingChanges.{FlipsRings, MayFlip}
use Rattle.triangle_edits.proofs.Results.{triangles_flipped}
use Rattle.triangle_edits.proofs.Turns.{apexes_differ}
use Rattle.edit_steps.proofs.EulerLaws.{euler2_of_manifold}
use Rattle.edit_steps.proofs.Eulers.{same_euler}
use Rattle.edit_steps.proofs.Passed.{flip_passed}
use Rattle.face_rings.proofs.Oriented.{oriented_manifold}
use Rattle.flip_topology.proofs.Lists.{as_many, border_stays, oriented_flipped, ringed_flipped, rings_flipped}

-- a done verdict allows the flip
pub may_flip : (inside : Point → Bool) (m : Mesh) (a b : ℕ) → is_done (flip_verdict inside m a b) ≡ true → (c : ℕ) × (d : ℕ) × MayFlip m.tris a b c d
may_flip inside m a b done =
    let passed = flip_passed inside m a b done in
    (passed.c, passed.d, record { differ = passed.pair.apart; opposite = passed.ends; unjoined = passed.new })

-- one pair of names lies opposite of an edge
same_may : (ts : List Tri) (a b c d e f : ℕ) → opposites ts a b ≡ Some (c, d) → MayFlip ts a b e f → MayFlip ts a b c d
same_may ts a b c d e f opposite may =
    let near : Option (ℕ × ℕ) → Bool = λ o. option_map_or (λ ends. are_neighbours ts ends.0 ends.1) o false in
    record { differ = may.differ; opposite = opposite; unjoined = ap near (sym opposite ∙ may.opposite) ∙ may.unjoined }

-- the mesh after the flip of an edge with these names opposite of it
abbrev pub with_flipped : Mesh → ℕ → ℕ → ℕ → ℕ → Mesh
with_flipped m a b c d = record { vertices = m.vertices; tris = flipped_tris a b c d m.tris }

-- which a flip of that edge is
pub is_flipped : (m : Mesh) (a b c d : ℕ) → opposites m.tris a b ≡ Some (c, d) → flipped m a b ≡ with_flipped m a b c d
is_flipped m a b c d opposite = ap (λ (o : Option (ℕ × ℕ)). option_map_or (λ ends. with_flipped m a b ends.0 ends.1) o m) opposite

-- the flip of an edge with these names opposite of it
flip_keeps_by : (m : Mesh) (a b c d : ℕ) → IsManifold m → MayFlip m.tris a b c d → Keeps m (with_flipped m a b c d)
flip_keeps_by m a b c d manifold may =
    let n = with_flipped m a b c d in
    let oriented = oriented_manifold m manifold in
    let new : IsManifold n = record {
      corners = triangles_flipped (λ w. finite.contains_key m.vertices w ≡ true) a b c d m.tris may.differ (apexes_differ m.tris a b c d may.opposite may.unjoined) may.opposite manifold.corners;
      edges = (oriented_flipped m.tris a b c d oriented may).edges;
      rings = ringed_flipped m.tris a b c d oriented may manifold.rings;
    } in
    let stays : border n ≡ border m = border_stays m.tris a b c d oriented may in
    record {
      manifold = new;
      same_euler = same_euler m n (
          euler2_of_manifold n new
          ∙ ap (λ es. (pos (2 * finite.len m.vertices) -ℤ pos (length n.tris)) -ℤ pos (length es)) stays
          ∙ ap (λ k. (pos (2 * finite.len m.vertices) -ℤ pos k) -ℤ pos (length (border m))) (as_many m.tris a b c d oriented may)
          ∙ sym (euler2_of_manifold m manifold));
      same_border = stays;
    }

-- a done flip keeps the manifold, its Euler characteristic and its border
pub flip_keeps : (inside : Point → Bool) (m : Mesh) (a b : ℕ) → IsManifold m → is_done (flip_verdict inside m a b) ≡ true → Keeps m (flipped m a b)
flip_keeps inside m a b manifold done =
    let may = may_flip inside m a b done in
    subst (Keeps m) (sym (is_flipped m a b may.0 may.1 may.2.opposite)) (flip_keeps_by m a b may.0 may.1 manifold may.2)

-- and makes this of each ring
pub flip_rings : (inside : Point → Bool) (m : Mesh) (a b c d : ℕ) → IsManifold m → is_done (flip_verdict inside m a b) ≡ true → opposites m.tris a b ≡ Some (c, d) → FlipsRings m.tris (flipped m a b).tris a b c d
flip_rings inside m a b c d manifold done opposite =
    let may = may_flip inside m a b done in
    subst (λ (n : Mesh). FlipsRings m.tris n.tris a b c d) (sym (is_flipped m a b c d opposite))
    (rings_flipped m.tris a b c d (oriented_manifold m manifold) (same_may m.tris a b c d may.0 may.1 opposite may.2))
