-- What a flip makes of an oriented list of triangles.
use Rattle.face_rings.proofs.Around.{spliced_ring}
use Rattle.face_rings.proofs.Borders.{same_border}
use Rattle.face_rings.proofs.Corners.{apex_face, face_corner, in_any}
use Rattle.face_rings.proofs.Faces.{Face_back, Face_turn, has_turns, three}
use Rattle.face_rings.proofs.Fans.{proper_turns}
use Rattle.face_rings.proofs.Named.{Different}
use Rattle.face_rings.proofs.Oriented.{different_on, oriented_of, unique_on}
use Rattle.face_rings.proofs.Tallies.{once_of}
use Rattle.face_rings.specs.Faces.{Face, IsBorder, tri}
use Rattle.flip_topology.proofs.FlipFaces.{Flips, Sides, flipped_once, flips_of, none_lost, other_flips, other_sides}
use Rattle.flip_topology.proofs.FlipRings.{corner_before, edge_after, edge_before, edge_gone, flips_edges, ring_a, ring_c, same_ring}
use Rattle.mesh_data.specs.Edits.{flipped_tris}
use Rattle.mesh_data.specs.Links.{are_neighbours, has_both}
use Rattle.mesh_data.specs.Manifold.{HasRing, IsRinged}
use Rattle.mesh_data.specs.RingChanges.{FlipsRings, IsOriented, MayFlip}
use Rattle.mesh_data.specs.Triangles.{IsProper, border_edges, has_corner}
use Rattle.mesh_data.specs.declared.geometry.Tri.{Tri}
use Rattle.std.proofs.Common.{List, inl, inr, length, refl, subst, sym, true, ℕ, ◌∙◌, ◌≡◌}
use Rattle.std.proofs.lemmas.Bool.{and_from, cases_eq, false≢true}
use Rattle.std.proofs.lemmas.List.Elements.{recursion_from_All}
use Rattle.triangle_edits.proofs.Turns.{apexes_differ, ends_of}

module _ (ts us : List Tri) (a b c d : ℕ) (s : Sides ts a b c d) (k : Flips ts us a b c d) where
  -- what the flip makes of each ring
  pub flips_rings : FlipsRings ts us a b c d
  flips_rings =
      let s' = other_sides ts a b c d s in
      let k' = other_flips ts us a b c d k in
      record {
        edges = flips_edges ts us a b c d s k;
        of_a = λ of_a. ring_a ts us a b c d s k of_a.0 of_a.1;
        of_b = λ of_b. ring_a ts us b a d c s' k' of_b.0 of_b.1;
        of_c = λ of_c. ring_c ts us a b c d s k of_c.0 of_c.1;
        of_d = λ of_d. ring_c ts us b a d c s' k' of_d.0 of_d.1;
        of_others = same_ring ts us a b c d s k;
      }

  -- the faces have three different names
  different_after : Different us
  different_after x y z f =
      let ahead = s.different a b c s.ahead in
      let behind = s.different b a d s.behind in
      elim (k.from x y z f) [
        | inl (g, _) ↦ s.different x y z g
        | inr (inl t) ↦ proper_turns (tri a d c) x y z (behind.1, (λ e. s.apart (sym e)), ahead.2) t
        | inr (inr t) ↦ proper_turns (tri d b c) x y z (behind.2, ahead.1, s.apart) t
      ]

  -- the new edge has a face on both sides
  new_cd : (z : ℕ) × Face us c d z
  new_cd = (b, Face_back us d b c k.right)

  new_dc : (z : ℕ) × Face us d c z
  new_dc = (a, Face_turn us a d c k.left)

  -- a border edge stays one, and was one
  border_to : (x y : ℕ) → IsBorder ts x y → IsBorder us x y
  border_to x y is =
      record {
        there = edge_after ts us a b c d s k x y is.there.0 is.there.1
            (λ xa yb. is.alone d (three ts b a d y x d (sym yb) (sym xa) refl s.behind))
            (λ xb ya. is.alone c (three ts a b c y x c (sym ya) (sym xb) refl s.ahead));
        alone = λ z f.
            let g = edge_before ts us a b c d s k y x z f
            (λ yc xd. s.new_back is.there.0 (three ts x y is.there.0 d c is.there.0 xd yc refl is.there.1))
            (λ yd xc. s.new is.there.0 (three ts x y is.there.0 c d is.there.0 xc yd refl is.there.1)) in
            is.alone g.0 g.1;
      }

  border_from : (x y : ℕ) → IsBorder us x y → IsBorder ts x y
  border_from x y is =
      record {
        there = edge_before ts us a b c d s k x y is.there.0 is.there.1
            (λ xc yd. is.alone new_dc.0 (three us d c new_dc.0 y x new_dc.0 (sym yd) (sym xc) refl new_dc.1))
            (λ xd yc. is.alone new_cd.0 (three us c d new_cd.0 y x new_cd.0 (sym yc) (sym xd) refl new_cd.1));
        alone = λ z f.
            let g = edge_after ts us a b c d s k y x z f
            (λ ya xb. edge_gone ts us b a d c (other_sides ts a b c d s) (other_flips ts us a b c d k) is.there.0 (three us x y is.there.0 b a is.there.0 xb ya refl is.there.1))
            (λ yb xa. edge_gone ts us a b c d s k is.there.0 (three us x y is.there.0 a b is.there.0 xa yb refl is.there.1)) in
            is.alone g.0 g.1;
      }

  -- the border stays
  pub border_flipped : border_edges us ≡ border_edges ts
  border_flipped = same_border us ts border_from border_to

-- a name that has a ring keeps one
pub ring_stays : (ts us : List Tri) (a b c d w : ℕ) → FlipsRings ts us a b c d → HasRing ts w → HasRing us w
ring_stays ts us a b c d w f k =
    elim (cases_eq w a) [
      | inl e ↦ subst (HasRing us) (sym e) (spliced_ring _ _ _ _ _ _ _ (f.of_a (subst (HasRing ts) e k)))
      | inr wa ↦ elim (cases_eq w b) [
        | inl e ↦ subst (HasRing us) (sym e) (spliced_ring _ _ _ _ _ _ _ (f.of_b (subst (HasRing ts) e k)))
        | inr wb ↦ elim (cases_eq w c) [
          | inl e ↦ subst (HasRing us) (sym e) (spliced_ring _ _ _ _ _ _ _ (f.of_c (subst (HasRing ts) e k)))
          | inr wc ↦ elim (cases_eq w d) [
            | inl e ↦ subst (HasRing us) (sym e) (spliced_ring _ _ _ _ _ _ _ (f.of_d (subst (HasRing ts) e k)))
            | inr wd ↦ (k.0, f.of_others w k.0 wa wb wc wd k.1)
          ]
        ]
      ]
    ]

-- names of a face are neighbours
face_near : (ts : List Tri) (c d z : ℕ) → Face ts c d z → are_neighbours ts c d ≡ true
face_near ts c d z f = in_any (has_both c d) ts f.0 f.1 (and_from (has_corner c f.0) (has_corner d f.0) (has_turns c f.0 c d z f.2 (inl refl)) (has_turns d f.0 c d z f.2 (inr (inl refl))))

face_near_back : (ts : List Tri) (c d z : ℕ) → Face ts d c z → are_neighbours ts c d ≡ true
face_near_back ts c d z f = in_any (has_both c d) ts f.0 f.1 (and_from (has_corner c f.0) (has_corner d f.0) (has_turns c f.0 d c z f.2 (inr (inl refl))) (has_turns d f.0 d c z f.2 (inl refl)))

module _ (ts : List Tri) (a b c d : ℕ) (oriented : IsOriented ts) (may : MayFlip ts a b c d) where
  -- the two sides of the edge
  sides_of : Sides ts a b c d
  sides_of =
      let two = ends_of ts a b c d may.opposite in
      record {
        different = different_on ts oriented;
        one = unique_on ts oriented;
        ahead = apex_face ts a b c two.0;
        behind = apex_face ts b a d two.1;
        apart = apexes_differ ts a b c d may.opposite may.unjoined;
        new = λ z f. false≢true (sym may.unjoined ∙ face_near ts c d z f);
        new_back = λ z f. false≢true (sym may.unjoined ∙ face_near_back ts c d z f);
      }

  -- the list stays oriented
  pub oriented_flipped : IsOriented (flipped_tris a b c d ts)
  oriented_flipped = oriented_of (flipped_tris a b c d ts) (different_after ts (flipped_tris a b c d ts) a b c d sides_of (flips_of ts a b c d)) (flipped_once ts a b c d sides_of (once_of ts oriented.edges))

  -- with its border
  pub border_stays : border_edges (flipped_tris a b c d ts) ≡ border_edges ts
  border_stays = border_flipped ts (flipped_tris a b c d ts) a b c d sides_of (flips_of ts a b c d)

  -- and as many triangles
  pub as_many : length (flipped_tris a b c d ts) ≡ length ts
  as_many = let s = sides_of in none_lost ts a b c d may.differ (recursion_from_All IsProper ts oriented.proper) (once_of ts oriented.edges) s.ahead s.behind

  -- the rings, name by name
  pub rings_flipped : FlipsRings ts (flipped_tris a b c d ts) a b c d
  rings_flipped = flips_rings ts (flipped_tris a b c d ts) a b c d sides_of (flips_of ts a b c d)

  -- a name that has a ring keeps one
  pub ring_kept : (w : ℕ) → HasRing ts w → HasRing (flipped_tris a b c d ts) w
  ring_kept w k = ring_stays ts (flipped_tris a b c d ts) a b c d w rings_flipped k

  -- where each name in a triangle has a ring, it stays so
  pub ringed_flipped : IsRinged ts → IsRinged (flipped_tris a b c d ts)
  ringed_flipped ringed w h = ring_kept w (ringed w (corner_before ts (flipped_tris a b c d ts) a b c d sides_of (flips_of ts a b c d) w h))

  -- where each name in a triangle has a ring, the four have one
  pub rings_met : IsRinged ts → HasRing ts a × HasRing ts b × HasRing ts c × HasRing ts d
  rings_met ringed =
      let s = sides_of in (
        ringed a (face_corner ts a b c s.ahead),
        ringed b (face_corner ts b a d s.behind),
        ringed c (face_corner ts c a b (Face_back ts a b c s.ahead)),
        ringed d (face_corner ts d b a (Face_back ts b a d s.behind)),
      )
