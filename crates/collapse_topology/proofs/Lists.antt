-- What a collapse makes of an oriented list of triangles.
use Rattle.std.proofs.Common.{◌≡◌, ◌≢◌, ℕ, ◌+◌, List, inl, inr, length, sym, ◌∙◌}
use Rattle.std.proofs.lemmas.List.Elements.{recursion_from_All}
use Rattle.mesh_data.specs.declared.geometry.Tri.{Tri}
use Rattle.mesh_data.specs.Edits.{collapsed_tris}
use Rattle.mesh_data.specs.Manifold.{HasRing, IsRinged}
use Rattle.mesh_data.specs.RingChanges.{CollapsesRings, IsOriented, MayCollapse}
use Rattle.mesh_data.specs.Triangles.{IsProper, border_edges}
use Rattle.triangle_edits.proofs.Results.{renamed_apart}
use Rattle.collapse_topology.proofs.CollapsedBorders.{border_collapsed, collapses_edges, two_lost}
use Rattle.collapse_topology.proofs.CollapsedEdges.{collapsed_once}
use Rattle.collapse_topology.proofs.CollapsedFaces.{face_before}
use Rattle.collapse_topology.proofs.CollapsedRings.{collapses_rings, corner_before, ring_stays, rings_met}
use Rattle.collapse_topology.proofs.Pinched.{SomePinch, some_pinch}
use Rattle.face_rings.proofs.Faces.{Face_back}
use Rattle.face_rings.proofs.Named.{Different}
use Rattle.face_rings.proofs.Oriented.{different_on, oriented_of, unique_on}
use Rattle.face_rings.proofs.Tallies.{once_of}

-- the faces after the collapse have three different names too
different_after : (ts : List Tri) (u v : ℕ) → Different ts → Different (collapsed_tris u v ts)
different_after ts u v different a b c f =
    let was = face_before ts u v a b c f in
    let names = different was.x was.y was.z was.face in (
      (λ e. renamed_apart u v was.x was.y names.0 (λ xu yv. was.apart (inl (sym xu)) (inr (inl (sym yv)))) (λ yu xv. was.apart (inr (inl (sym yu))) (inl (sym xv))) (was.ax ∙ e ∙ sym was.by)),
      (λ e. renamed_apart u v was.y was.z names.1 (λ yu zv. was.apart (inr (inl (sym yu))) (inr (inr (sym zv)))) (λ zu yv. was.apart (inr (inr (sym zu))) (inr (inl (sym yv)))) (was.by ∙ e ∙ sym was.cz)),
      (λ e. renamed_apart u v was.z was.x names.2 (λ zu xv. was.apart (inr (inr (sym zu))) (inl (sym xv))) (λ xu zv. was.apart (inl (sym xu)) (inr (inr (sym zv)))) (was.cz ∙ e ∙ sym was.ax)),
    )

module _ (ts : List Tri) (u v : ℕ) (oriented : IsOriented ts) (may : MayCollapse ts u v) where
  -- the ring of u, from v on
  pinch : SomePinch ts u v
  pinch = some_pinch ts u v may.differ (different_on ts oriented) (unique_on ts oriented) may.near may.closed may.unshared

  -- the list stays oriented
  pub oriented_collapsed : IsOriented (collapsed_tris u v ts)
  oriented_collapsed =
      let some = pinch in
      oriented_of (collapsed_tris u v ts) (different_after ts u v (different_on ts oriented)) (collapsed_once ts u v some.r some.s may.differ (different_on ts oriented) (once_of ts oriented.edges) some.pinched.pinch)

  -- the border stays
  pub border_stays : border_edges (collapsed_tris u v ts) ≡ border_edges ts
  border_stays = let some = pinch in border_collapsed ts u v some.r some.s some.mid may.differ (different_on ts oriented) (unique_on ts oriented) some.pinched

  -- two triangles go
  pub two_fewer : length (collapsed_tris u v ts) + 2 ≡ length ts
  two_fewer =
      let some = pinch in
      let edge = some.pinched.pinch in
      two_lost ts u v some.r some.s may.differ (recursion_from_All IsProper ts oriented.proper) (once_of ts oriented.edges) edge.first (Face_back ts u some.s v edge.last)

  -- the rings, name by name
  pub rings_collapsed : CollapsesRings ts (collapsed_tris u v ts) u v
  rings_collapsed =
      let some = pinch in
      let different = different_on ts oriented in
      let unique = unique_on ts oriented in
      collapses_rings ts u v some.r some.s some.mid may.differ different unique some.pinched (collapses_edges ts u v some.r some.s some.mid may.differ different unique some.pinched) may.not_three

  -- a name that has a ring keeps one
  pub ring_kept : (w : ℕ) → HasRing ts v → w ≢ u → HasRing ts w → HasRing (collapsed_tris u v ts) w
  ring_kept w of_v wu k = ring_stays ts (collapsed_tris u v ts) u v w rings_collapsed of_v wu k

  -- where each name in a triangle has a ring, it stays so
  pub ringed_collapsed : IsRinged ts → IsRinged (collapsed_tris u v ts)
  ringed_collapsed ringed w h =
      let some = pinch in
      let before = corner_before ts u v some.r some.s some.mid may.differ (different_on ts oriented) (unique_on ts oriented) some.pinched w h in
      ring_kept w (rings_met ts (collapsed_tris u v ts) u v rings_collapsed ringed).0 before.0 (ringed w before.1)
