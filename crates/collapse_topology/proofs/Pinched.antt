-- What the verdict of a collapse that is done knows of the rings of its names.
use Rattle.collapse_topology.proofs.CollapsedEdges.{Pinch}
use Rattle.collapse_topology.proofs.Splice.{loop}
use Rattle.face_rings.proofs.Around.{AroundBy, around, on_near}
use Rattle.face_rings.proofs.Corners.{apex_face, near_contains, near_face, not_named}
use Rattle.face_rings.proofs.Faces.{Face_back, Face_turn, Near}
use Rattle.face_rings.proofs.Fans.{distinct_in, fan_of, in_among}
use Rattle.face_rings.proofs.Members.{append_left, append_right}
use Rattle.face_rings.proofs.Paths.{last_of, next_of, prev_of}
use Rattle.face_rings.proofs.Named.{Different, IsDistinct, Unique}
use Rattle.face_rings.specs.Faces.{Face, Leads, ◌∈◌}
use Rattle.mesh_data.specs.Links.{apex, are_neighbours, link_violation}
use Rattle.mesh_data.specs.Rings.{IsRing, closed_path, has_closed_ring, link, path_edges}
use Rattle.mesh_data.specs.declared.geometry.Tri.{Tri}
use Rattle.mesh_data.specs.declared.rings.Ring.{Ring}
use Rattle.std.proofs.Common.{Bool, List, None, [], arith, eq-eqb, eqb, eqb-true, false, inl, inr, refl, subst, sym, true, ℕ, ◌++◌, ◌||◌, ◌∷◌, ◌≡◌, ◌≢◌, ◌⊎◌}
use Rattle.std.proofs.lemmas.Bool.{both_ways}
use Rattle.triangle_edits.proofs.Least.{none_shared}
use Rattle.triangle_lists.proofs.Candidates.{found_by_going}
use Rattle.triangle_lists.proofs.RingLaws.{ring, ring_at}
use Rattle.triangle_lists.proofs.Walks.{step}

-- ---- the ring of u
pub record Pinched (ts : List Tri) (u v r s : ℕ) (mid : List ℕ) : Type 0 where
  pub around_u : IsRing ts u (ring true (v ∷ (r ∷ mid ++ s ∷ [])))
  pub pinch : Pinch ts u v r s

pub record SomePinch (ts : List Tri) (u v : ℕ) : Type 0 where
  pub r : ℕ
  pub s : ℕ
  pub mid : List ℕ
  pub pinched : Pinched ts u v r s mid

-- the first and the last name of the ring of u behind v, and those between them
pinched_by : (ts : List Tri) (u v : ℕ) (ms : List ℕ) → Different ts → Unique ts → link_violation ts u v ≡ None → IsRing ts u (ring true (v ∷ ms)) → SomePinch ts u v
pinched_by ts u v [] d one unshared is = absurd (omega (arith, is.long))
pinched_by ts u v (r ∷ []) d one unshared is = absurd (omega (arith, is.long))
pinched_by ts u v (r ∷ z ∷ zs) d one unshared is' =
    let l = last_of z zs in
    let mid = l.0 in
    let s = l.1 in
    let is : IsRing ts u (ring true (v ∷ (r ∷ mid ++ s ∷ []))) = subst (λ ns. IsRing ts u (ring true (v ∷ r ∷ ns))) l.2 is' in
    let fan = fan_of ts u (ring true (v ∷ (r ∷ mid ++ s ∷ []))) is in
    let first : Face ts u v r = (fan v r).1 (inl refl) in
    let last : Face ts u s v = (fan s v).1 (subst (λ es. Leads s v es) (sym (loop v r s mid)) (inr (append_right (step s v) (path_edges (r ∷ mid ++ s ∷ [])) (step s v ∷ []) (inl refl)))) in
    let only : (w : ℕ) → Near ts u w → Near ts v w → (w ≡ r) ⊎ (w ≡ s) =
    λ w nu nv. elim (eqb w r) as (λ b. eqb w r ≡ b → (w ≡ r) ⊎ (w ≡ s)) [
      | true ↦ λ e. inl (eqb-true w r e)
      | false ↦ λ e. elim (eqb w s) as (λ b. eqb w s ≡ b → (w ≡ r) ⊎ (w ≡ s)) [
        | true ↦ λ g. inr (eqb-true w s g)
        | false ↦ λ g.
            let ahead = not_named (apex ts u v) r w (λ h. both_ways (eqb w r) e (eq-eqb w r h)) (λ c h. one u v c r (apex_face ts u v c h) first) in
            let behind = not_named (apex ts v u) s w (λ h. both_ways (eqb w s) g (eq-eqb w s h)) (λ c h. one v u c s (apex_face ts v u c h) (Face_back ts u s v last)) in
            absurd (none_shared ts u v w unshared (near_contains ts u w d nu, near_contains ts v w d nv, λ i. ahead i || behind i))
      ] refl
    ] refl in
    record { r = r; s = s; mid = mid; pinched = record { around_u = is; pinch = record { first = first; last = last; only = only } } }

-- as the verdict knows them
pub some_pinch : (ts : List Tri) (u v : ℕ) → u ≢ v → Different ts → Unique ts → are_neighbours ts u v ≡ true → has_closed_ring ts u ≡ true → link_violation ts u v ≡ None → SomePinch ts u v
some_pinch ts u v apart d one near closed unshared =
    let found = found_by_going (link u ts) closed in
    let r = found.0 in
    let is : IsRing ts u (ring true r.names) = subst (λ (b : Bool). IsRing ts u (ring b r.names)) found.1 found.2 in
    let at = near_face ts u v apart near in
    let on : v ∈ r.names = elim at.1 [ inl f ↦ (on_near ts u r v at.0 found.2 f).0 | inr f ↦ (on_near ts u r at.0 v found.2 f).1 ] in
    let turned = ring_at (link u ts) r.names v is (in_among r.names v on) in
    pinched_by ts u v turned.0 d one unshared turned.1

-- ---- the names beside the two opposite names
module _ (ts : List Tri) (u v r s : ℕ) (mid : List ℕ) (d : Different ts) (one : Unique ts) (p : Pinched ts u v r s mid) where
  -- the way round u
  around_path : List ℕ
  around_path = closed_path (v ∷ (r ∷ mid ++ s ∷ []))

  -- its names are different
  pub distinct_u : IsDistinct (v ∷ (r ∷ mid ++ s ∷ []))
  distinct_u = distinct_in (v ∷ (r ∷ mid ++ s ∷ [])) p.around_u.distinct

  -- the first isn't the last
  pub r_not_s : r ≢ s
  r_not_s e = distinct_u.1.0 (append_right r mid (s ∷ []) (inl e))

  -- a name follows r, and another goes before s
  pub behind_r : (x : ℕ) × Face ts u r x
  behind_r =
      let n = next_of (v ∷ (r ∷ mid ++ s ∷ [])) v r (inr (inl refl)) in
      (n.0, (fan_of ts u (ring true (v ∷ (r ∷ mid ++ s ∷ []))) p.around_u r n.0).1 n.1)

  pub before_s : (y : ℕ) × Face ts u y s
  before_s =
      let n = prev_of v ((r ∷ mid ++ s ∷ []) ++ v ∷ []) s (append_left s (r ∷ mid ++ s ∷ []) (v ∷ []) (append_right s (r ∷ mid) (s ∷ []) (inl refl))) in
      (n.0, (fan_of ts u (ring true (v ∷ (r ∷ mid ++ s ∷ []))) p.around_u n.0 s).1 n.1)

  -- the ring of v
  pub around_v : (w : Ring) → IsRing ts v w → AroundBy ts v r u s
  around_v w is = around ts v r u s w one is (Face_turn ts u v r p.pinch.first) (Face_back ts u s v p.pinch.last)
