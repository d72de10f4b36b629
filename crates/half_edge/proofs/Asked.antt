-- What the rings and the third names tell of what a collapse and a flip ask.
use Rattle.std.proofs.Common.{◌≡◌, ◌≢◌, ℕ, Bool, true, false, List, Option, Some, None, is_some, eqb, sym, ◌∙◌}
use Rattle.std.proofs.Common.{refl, subst, inl, inr}
use Rattle.std.proofs.lemmas.Bool.{and_from, both_ways, eq-eqb, false≢true, false_from_ne_true}
use Rattle.std.specs.Option.{is_none, option_zip}
use Rattle.mesh_data.specs.declared.geometry.Tri.{Tri}
use Rattle.mesh_data.specs.Links.{apex, are_neighbours, has_both, opposites}
use Rattle.mesh_data.specs.RingChanges.{IsOriented, MayCollapse, closed_ring}
use Rattle.mesh_data.specs.Rings.{IsRing, link}
use Rattle.mesh_data.specs.Triangles.{has_corner}
use Rattle.triangle_lists.proofs.Candidates.{going_finds}
use Rattle.face_rings.proofs.Corners.{apex_face, in_any, near_face}
use Rattle.face_rings.proofs.Faces.{Face_back, Near, has_turns}
use Rattle.link_test.specs.declared.link.Link.{Link}
use Rattle.link_test.specs.declared.link.Link.TheVariants.{Good}
use Rattle.link_test.specs.Links.{AreRings, Tells}
use Rattle.link_test.proofs.Verdicts.{apex_there}
use Rattle.half_edge.specs.Flips.{MayTurn}

near_by_apex : (ts : List Tri) (u v c : ℕ) → apex ts u v ≡ Some c → are_neighbours ts u v ≡ true
near_by_apex ts u v c h =
    let f = apex_face ts u v c h in
    in_any (has_both u v) ts f.0 f.1
    (and_from (has_corner u f.0) (has_corner v f.0) (has_turns u f.0 u v c f.2 (inl refl))
    (has_turns v f.0 u v c f.2 (inr (inl refl))))

-- an edge whose link condition holds, where the ring of u is closed
pub may_collapse : (ts : List Tri) (u v c : ℕ) (of_u of_v : List ℕ) (closed_v : Bool) → IsOriented ts → u ≢ v →
    apex ts u v ≡ Some c
    → IsRing ts u (closed_ring of_u) → IsRing ts v (record { names = of_v; closed = closed_v })
    → ((us : List Tri) → AreRings us of_u of_v closed_v u v → Tells us u v Good) → MayCollapse ts u v
may_collapse ts u v c of_u of_v closed_v oriented differ ahead ring_u ring_v told =
    let near = near_by_apex ts u v c ahead in
    let good = told ts (record { oriented = oriented; differ = differ; near = near; of_u = ring_u; of_v = ring_v }) in
    record {
      differ = differ;
      near = near;
      closed = going_finds (link u ts) (closed_ring of_u) refl ring_u;
      unshared =
          good.0;
      not_three = good.1;
    }

-- an edge with two triangles whose other names are no neighbours
pub may_turn : (ts : List Tri) (a b c d : ℕ) → a ≢ b → c ≢ d → apex ts a b ≡ Some c → apex ts b a ≡ Some d →
    apex ts c d ≡ None → apex ts d c ≡ None → MayTurn ts a b
may_turn ts a b c d differ apart ahead behind none none_back =
    record {
      c = c;
      d = d;
      may = record {
        differ = differ;
        opposite = λ i. option_zip (ahead i) (behind i);
        unjoined = false_from_ne_true (are_neighbours ts c d) (λ near. by (near_face ts c d apart near));
      };
    }
  where
    by : Near ts c d → ⊥
    by (y, inl f) = apex_there ts c d y f none
    by (y, inr f) = apex_there ts d c y (Face_back ts c y d f) none_back

-- ---- the same with what the code has read

some_from : (o : Option ℕ) → is_none o ≡ false → (c : ℕ) × (o ≡ Some c)
some_from None h = absurd (false≢true (sym h))
some_from (Some c) h = (c, refl)

none_from : (o : Option ℕ) → is_some o ≡ false → o ≡ None
none_from None h = refl
none_from (Some c) h = absurd (false≢true (sym h))

apart_from : (x y : ℕ) → eqb x y ≡ false → x ≢ y
apart_from x y h e = both_ways (eqb x y) h (eq-eqb x y e)

pub may_collapse_read : (ts : List Tri) (u v : ℕ) (ahead : Option ℕ) (of_u of_v : List ℕ) (closed_u closed_v : Bool)
    (link : Link)
    → IsOriented ts → eqb u v ≡ false → ahead ≡ apex ts u v → is_none ahead ≡ false → closed_u ≡ true
    → IsRing ts u (record { names = of_u; closed = closed_u }) →
    IsRing ts v (record { names = of_v; closed = closed_v })
    → ((us : List Tri) → AreRings us of_u of_v closed_v u v → Tells us u v link) → link ≡ Good → MayCollapse ts u v
may_collapse_read ts u v ahead of_u of_v closed_u closed_v link oriented differ told there closed ring_u ring_v tells
    good =
    let c = some_from ahead there in
    may_collapse ts u v c.0 of_u of_v closed_v oriented (apart_from u v differ) (sym told ∙ c.1)
    (subst (λ (b : Bool). IsRing ts u (record { names = of_u; closed = b })) closed ring_u) ring_v
    (subst (λ (l : Link). (us : List Tri) → AreRings us of_u of_v closed_v u v → Tells us u v l) good tells)

pub may_turn_read : (ts : List Tri) (a b c d : ℕ) (ahead behind from_c from_d : Option ℕ)
    → eqb a b ≡ false → eqb c d ≡ false → ahead ≡ apex ts a b → behind ≡ apex ts b a → ahead ≡ Some c → behind ≡ Some d
    → from_c ≡ apex ts c d → from_d ≡ apex ts d c → is_some from_c ≡ false → is_some from_d ≡ false → MayTurn ts a b
may_turn_read ts a b c d ahead behind from_c from_d differ apart at_ahead at_behind is_c is_d at_c at_d none_c none_d =
    may_turn ts a b c d (apart_from a b differ) (apart_from c d apart) (sym at_ahead ∙ is_c) (sym at_behind ∙ is_d)
    (sym at_c ∙ none_from from_c none_c) (sym at_d ∙ none_from from_d none_d)

pub opposites_read : (ts : List Tri) (a b c d : ℕ) (ahead behind : Option ℕ) → ahead ≡ apex ts a b →
    behind ≡ apex ts b a → ahead ≡ Some c → behind ≡ Some d → opposites ts a b ≡ Some (c, d)
opposites_read ts a b c d ahead behind at_ahead at_behind is_c is_d =
    let to_c : apex ts a b ≡ Some c = sym at_ahead ∙ is_c in
    let to_d : apex ts b a ≡ Some d = sym at_behind ∙ is_d in
    λ i. option_zip (to_c i) (to_d i)
