-- A collapse that is done keeps an oriented 2-manifold, its Euler characteristic and its border.
use Rattle.std.proofs.Common.{◌≡◌, ◌≢◌, ◌++◌, ℕ, ◌+◌, ◌*◌, ℤ, pos, ◌-ℤ◌, Bool, true, None, arith, ap, cond, is_some, length, ne_eqb, sym, ◌∙◌}
use Rattle.std.proofs.lemmas.Int.{ints}
use Rattle.std.specs.Cmp.{nat_cmp_total, unsigned_tied}
use Rattle.std.specs.FinMap as finite
use Rattle.oemm_octree.specs.declared.points.Point.{Point}
use Rattle.mesh_data.specs.declared.geometry.Vertex.{Vertex}
use Rattle.mesh_data.specs.Edits.{collapse_verdict, collapsed, is_done, planes_or_none}
use Rattle.mesh_data.specs.Keeps.{Keeps}
use Rattle.mesh_data.specs.Manifold.{IsManifold}
use Rattle.mesh_data.specs.Mesh.{Mesh, border}
use Rattle.mesh_data.specs.RingChanges.{CollapsesRings, MayCollapse}
use Rattle.triangle_edits.proofs.Results.{triangles_collapsed}
use Rattle.edit_steps.proofs.EulerLaws.{euler2_of_manifold}
use Rattle.edit_steps.proofs.Eulers.{same_euler}
use Rattle.edit_steps.proofs.Passed.{collapse_passed}
use Rattle.edit_steps.proofs.Simplification.{len-collapsed}
use Rattle.edit_steps.proofs.Tried.{held_there}
use Rattle.edit_steps.proofs.Vertices.{changed, contains-changed}
use Rattle.collapse_topology.proofs.Lists.{border_stays, oriented_collapsed, ringed_collapsed, rings_collapsed, two_fewer}
use Rattle.face_rings.proofs.Oriented.{oriented_manifold}

-- a done verdict allows the collapse
pub may_collapse : (inside : Point → Bool) (m : Mesh) (u v : ℕ) (most : ℤ) → is_done (collapse_verdict inside m u v most) ≡ true → MayCollapse m.tris u v
may_collapse inside m u v most done =
    let passed = collapse_passed inside m u v most done in
    record { differ = passed.pair.apart; near = passed.pair.near; closed = passed.closed; unshared = passed.unshared; not_three = passed.not_three }

-- all names but u stay
there_after : (m : Mesh) (u v w : ℕ) → w ≢ u → finite.contains_key m.vertices w ≡ true → finite.contains_key (collapsed m u v).vertices w ≡ true
there_after m u v w wu there =
    let taking : Vertex → Vertex = λ x. record x { planes = x.planes ++ planes_or_none m u } in
    let vertices = changed taking v m.vertices in
    ap is_some (finite.get-remove nat_cmp_total vertices u w)
    ∙ ap (λ (b : Bool). is_some (cond b None (finite.get vertices w))) (unsigned_tied w u ∙ ne_eqb w u wu)
    ∙ contains-changed taking v w m.vertices
    ∙ there

-- one vertex and two triangles go
lost : (v w f g b : ℕ) → w + 1 ≡ v → g + 2 ≡ f → (pos (2 * w) -ℤ pos g) -ℤ pos b ≡ (pos (2 * v) -ℤ pos f) -ℤ pos b
lost v w f g b of_v of_f = omega (arith, ints, of_v, of_f)

-- a done collapse keeps the manifold, its Euler characteristic and its border
pub collapse_keeps : (inside : Point → Bool) (m : Mesh) (u v : ℕ) (most : ℤ) → IsManifold m → is_done (collapse_verdict inside m u v most) ≡ true → Keeps m (collapsed m u v)
collapse_keeps inside m u v most manifold done =
    let pair = (collapse_passed inside m u v most done).pair in
    let may = may_collapse inside m u v most done in
    let oriented = oriented_manifold m manifold in
    let there_u = held_there inside m u pair.held in
    let there_v = held_there inside m v pair.onto_held in
    let new : IsManifold (collapsed m u v) = record {
      corners = triangles_collapsed (λ w. finite.contains_key m.vertices w ≡ true) (λ w. finite.contains_key (collapsed m u v).vertices w ≡ true) u v m.tris
          (λ w there wu. there_after m u v w wu there) (there_after m u v v (λ e. may.differ (sym e)) there_v) manifold.corners;
      edges = (oriented_collapsed m.tris u v oriented may).edges;
      rings = ringed_collapsed m.tris u v oriented may manifold.rings;
    } in
    let stays : border (collapsed m u v) ≡ border m = border_stays m.tris u v oriented may in
    record {
      manifold = new;
      same_euler = same_euler m (collapsed m u v) (
          euler2_of_manifold (collapsed m u v) new
          ∙ ap (λ es. (pos (2 * finite.len (collapsed m u v).vertices) -ℤ pos (length (collapsed m u v).tris)) -ℤ pos (length es)) stays
          ∙ lost (finite.len m.vertices) (finite.len (collapsed m u v).vertices) (length m.tris) (length (collapsed m u v).tris) (length (border m)) (len-collapsed m u v there_u) (two_fewer m.tris u v oriented may)
          ∙ sym (euler2_of_manifold m manifold));
      same_border = stays;
    }

-- and makes this of each ring
pub collapse_rings : (inside : Point → Bool) (m : Mesh) (u v : ℕ) (most : ℤ) → IsManifold m → is_done (collapse_verdict inside m u v most) ≡ true → CollapsesRings m.tris (collapsed m u v).tris u v
collapse_rings inside m u v most manifold done = rings_collapsed m.tris u v (oriented_manifold m manifold) (may_collapse inside m u v most done)
