-- After a collapse that is done each name that is in a triangle has a ring.
use Rattle.collapse_topology.proofs.CollapsedFaces.{face_before, merged, renamed-other, renamed-same}
use Rattle.collapse_topology.proofs.OtherRings.{drop_fan, rename_fan}
use Rattle.collapse_topology.proofs.Pinched.{Pinched, around_v, before_s, behind_r, distinct_u, r_not_s}
use Rattle.collapse_topology.proofs.Splice.{loop, splice_open}
use Rattle.face_rings.proofs.Around.{AroundBy, around, goes_round, in_path, near_on, passes, spliced_ring}
use Rattle.face_rings.proofs.Corners.{corner_face, face_corner}
use Rattle.face_rings.proofs.Faces.{Face_back, Face_turn, Near}
use Rattle.face_rings.proofs.Fans.{distinct_in, fan_of, ring_of}
use Rattle.face_rings.proofs.Members.{append_cases, append_left, append_right, map_from, steps_in}
use Rattle.face_rings.proofs.Paths.{distinct_drop, distinct_insert, distinct_parts, ends_later, path}
use Rattle.face_rings.proofs.Named.{Different, IsDistinct, Unique}
use Rattle.face_rings.specs.Faces.{Face, IsFan, Leads, ◌∈◌}
use Rattle.mesh_data.specs.RingChanges.{CollapsesEdges, CollapsesRings, Splices, along, first_name, last_name, round}
use Rattle.mesh_data.specs.Edits.{collapsed_tris, renamed}
use Rattle.mesh_data.specs.Links.{is_closed_by_three}
use Rattle.mesh_data.specs.Manifold.{HasRing, IsRinged, is_corner}
use Rattle.mesh_data.specs.Rings.{IsRing, closed_path, fewest_names, ring_path, path_edges}
use Rattle.mesh_data.specs.declared.geometry.Edge.{Edge}
use Rattle.mesh_data.specs.declared.geometry.Tri.{Tri}
use Rattle.mesh_data.specs.declared.rings.Ring.{Ring}
use Rattle.std.proofs.Common.{Bool, List, [], ap, append_assoc, arith, false, inl, inr, length, length-append, map, refl, subst, sym, true, ℕ, ◌&&◌, ◌++◌, ◌∙◌, ◌∷◌, ◌≡◌, ◌≢◌, ◌≤◌, ◌⊎◌}
use Rattle.std.proofs.lemmas.Bool.{cases_eq, false≢true}
use Rattle.std.proofs.lemmas.List.{length-map, map-append}
use Rattle.triangle_edits.proofs.ThreeRings.{three_names_tell}
use Rattle.triangle_lists.proofs.RingLaws.{ring}
use Rattle.triangle_lists.proofs.Walks.{step}

-- ---- the next name on a path is one
next_one : (ts : List Tri) (w : ℕ) (xs : List ℕ) (x y z : ℕ) → Unique ts → IsFan ts w xs → Face ts w x y → Leads x z (path_edges xs) → z ≡ y
next_one ts w xs x y z one fan f i = one w x z y ((fan x z).1 i) f

module _ (ts : List Tri) (u v r s : ℕ) (mid : List ℕ) (uv : u ≢ v) (d : Different ts) (one : Unique ts) (p : Pinched ts u v r s mid) where
  -- ---- where r comes right before s round u and right behind it round v, both have three names
  -- the ring of u has no middle
  three_u : Face ts u r s → mid ≡ []
  three_u f = by mid (distinct_u ts u v r s mid d one p).1 (fan_of ts u (ring true (v ∷ (r ∷ mid ++ s ∷ []))) p.around_u)
    where
      by : (mid : List ℕ) → IsDistinct (r ∷ mid ++ s ∷ []) → IsFan ts u (closed_path (v ∷ (r ∷ mid ++ s ∷ []))) → mid ≡ []
      by [] distinct fan = refl
      by (x ∷ xs) distinct fan =
          let same : x ≡ s = next_one ts u (closed_path (v ∷ (r ∷ x ∷ xs ++ s ∷ []))) r s x one fan f (inr (inl refl)) in
          absurd (distinct.1.0 (append_right x xs (s ∷ []) (inl same)))

  -- the ring of v has r, u and s alone
  three_v : Face ts v s r → AroundBy ts v r u s → IsRing ts v (ring true (r ∷ u ∷ s ∷ []))
  three_v f (goes_round [] is) = is
  three_v f (goes_round (x ∷ q) is) =
      let same : x ≡ r = next_one ts v (closed_path (r ∷ u ∷ s ∷ x ∷ q)) s r x one (fan_of ts v (ring true (r ∷ u ∷ s ∷ x ∷ q)) is) f (inr (inr (inl refl))) in
      absurd ((distinct_in (r ∷ u ∷ s ∷ x ∷ q) is.distinct).0 (inr (inr (inl (sym same)))))
  three_v f (passes a q is) =
      let names = a ++ r ∷ u ∷ s ∷ q in
      let fan = fan_of ts v (ring false names) is in
      let dist = distinct_in names is.distinct in
      let parts = distinct_parts (a ++ r ∷ []) (u ∷ s ∷ q) (subst IsDistinct (sym (append_assoc a (r ∷ []) (u ∷ s ∷ q))) dist) in
      let r_front : r ∈ a ++ r ∷ [] = append_right r a (r ∷ []) (inl refl) in
      absurd (last q parts.1.1 (λ i. parts.2 r r_front (inr (inr i))) (λ i. subst (λ es. Leads s r es) (path a r u s q) ((fan s r).0 f)) parts.2)
    where
      last : (q : List ℕ) → IsDistinct (s ∷ q) → (r ∈ q → ⊥) → (Unit {0} → Leads s r (path_edges (a ++ r ∷ []) ++ step r u ∷ step u s ∷ path_edges (s ∷ q))) → ((x : ℕ) → x ∈ a ++ r ∷ [] → x ∈ u ∷ s ∷ q → ⊥) → ⊥
      last q ds away i apart =
          elim (append_cases (step s r) (path_edges (a ++ r ∷ [])) (step r u ∷ step u s ∷ path_edges (s ∷ q)) (i tt)) [
            | inl j ↦ apart s (steps_in (a ++ r ∷ []) (step s r) j).0 (inr (inl refl))
            | inr (inl e) ↦ (d v s r f).1 (ap (λ (g : Edge). g.a) e)
            | inr (inr (inl e)) ↦ r_not_s ts u v r s mid d one p (ap (λ (g : Edge). g.b) e)
            | inr (inr (inr j)) ↦ away (ends_later s q s r j)
          ]

  -- which the verdict rules out
  pub no_three : (w : Ring) → IsRing ts v w → (is_closed_by_three ts u && is_closed_by_three ts v) ≡ false → Face ts u r s → Face ts v s r → ⊥
  no_three w is_w not_three f g =
      let ring_u : IsRing ts u (ring true (v ∷ r ∷ s ∷ [])) = subst (λ m. IsRing ts u (ring true (v ∷ (r ∷ m ++ s ∷ [])))) (three_u f) p.around_u in
      let ring_v = three_v g (around_v ts u v r s mid d one p w is_w) in
      false≢true (sym not_three ∙ (λ i. three_names_tell ts u (ring true (v ∷ r ∷ s ∷ [])) refl refl ring_u i && three_names_tell ts v (ring true (r ∷ u ∷ s ∷ [])) refl refl ring_v i))

  -- ---- the ring of v
  -- the middle has no name of the ring of v
  mid_apart : (w : Ring) → IsRing ts v w → (x : ℕ) → x ∈ mid → x ∈ w.names → ⊥
  mid_apart w is_w x i j =
      let dist = distinct_u ts u v r s mid d one p in
      let nu = near_on ts u (ring true (v ∷ (r ∷ mid ++ s ∷ []))) x p.around_u (inr (inr (append_left x mid (s ∷ []) i))) in
      let nv = near_on ts v w x is_w j in
      elim (p.pinch.only x nu nv) [
        | inl e ↦ dist.1.0 (append_left r mid (s ∷ []) (subst (λ n. n ∈ mid) e i))
        | inr e ↦ (distinct_parts mid (s ∷ []) dist.1.1).2 x i (inl e)
      ]

  -- the names of the spliced ring are different
  spliced_distinct : (front q : List ℕ) → IsDistinct (front ++ r ∷ u ∷ s ∷ q) → ((x : ℕ) → x ∈ mid → x ∈ front ++ r ∷ u ∷ s ∷ q → ⊥) → IsDistinct (front ++ r ∷ mid ++ s ∷ q)
  spliced_distinct front q dist apart =
      let dist' : IsDistinct ((front ++ r ∷ []) ++ u ∷ s ∷ q) = subst IsDistinct (sym (append_assoc front (r ∷ []) (u ∷ s ∷ q))) dist in
      let dropped = distinct_drop (front ++ r ∷ []) u (s ∷ q) dist' in
      let dm : IsDistinct mid = (distinct_parts mid (s ∷ []) (distinct_u ts u v r s mid d one p).1.1).0 in
      let more : (x : ℕ) → x ∈ (front ++ r ∷ []) ++ s ∷ q → x ∈ front ++ r ∷ u ∷ s ∷ q = λ x i. subst (λ l. x ∈ l) (append_assoc front (r ∷ []) (u ∷ s ∷ q)) (elim (append_cases x (front ++ r ∷ []) (s ∷ q) i) [ inl j ↦ append_left x (front ++ r ∷ []) (u ∷ s ∷ q) j | inr j ↦ append_right x (front ++ r ∷ []) (u ∷ s ∷ q) (inr j) ]) in
      subst IsDistinct (append_assoc front (r ∷ []) (mid ++ s ∷ q) ∙ sym (append_assoc front (r ∷ mid) (s ∷ q))) (distinct_insert (front ++ r ∷ []) mid (s ∷ q) dropped dm (λ x i j. apart x i (more x j)))

  -- its steps are the faces at v
  pub spliced : (front q : List ℕ) → IsFan ts v (front ++ r ∷ u ∷ s ∷ q) → (u ∈ front ++ r ∷ [] → ⊥) → (u ∈ s ∷ q → ⊥) → IsFan (collapsed_tris u v ts) v (front ++ r ∷ mid ++ s ∷ q)
  spliced front q fan nf nq =
      splice_open ts u v r s mid front q d uv (fan_of ts u (ring true (v ∷ (r ∷ mid ++ s ∷ []))) p.around_u) fan (distinct_u ts u v r s mid d one p).0 nf nq

  -- the middle stands in the place of u
  pub new_ring_v : (w : Ring) → IsRing ts v w → (is_closed_by_three ts u && is_closed_by_three ts v) ≡ false → AroundBy ts v r u s → Splices ts (collapsed_tris u v ts) v r s (u ∷ []) mid
  new_ring_v w is_w not_three (goes_round q is) =
      let names = r ∷ u ∷ s ∷ q in
      let dist = distinct_in names is.distinct in
      let new = r ∷ mid ++ s ∷ q in
      let same : new ++ r ∷ [] ≡ r ∷ mid ++ s ∷ (q ++ r ∷ []) = ap (λ l. r ∷ l) (append_assoc mid (s ∷ q) (r ∷ [])) in
      let ur : u ≢ r = λ e. dist.0 (inl (sym e)) in
      let fan : IsFan (collapsed_tris u v ts) v (closed_path new) = subst (λ l. IsFan (collapsed_tris u v ts) v l) (sym same) (spliced [] (q ++ r ∷ []) (fan_of ts v (ring true names) is)
      (λ i. elim i [ inl e ↦ ur e | inr j ↦ absurd j ]) (λ i. elim (append_cases u (s ∷ q) (r ∷ []) i) [ inl j ↦ dist.1.0 j | inr (inl e) ↦ ur e | inr (inr j) ↦ absurd j ])) in
      round q is (ring_of (collapsed_tris u v ts) v (ring true new) (spliced_distinct [] q dist (mid_apart (ring true names) is)) (long mid q (λ e f. three_of e f)) fan)
    where
      three_of : mid ≡ [] → q ≡ [] → ⊥
      three_of e f =
          let ring_u : IsRing ts u (ring true (v ∷ r ∷ s ∷ [])) = subst (λ m. IsRing ts u (ring true (v ∷ (r ∷ m ++ s ∷ [])))) e p.around_u in
          let ring_v : IsRing ts v (ring true (r ∷ u ∷ s ∷ [])) = subst (λ l. IsRing ts v (ring true (r ∷ u ∷ s ∷ l))) f is in
          false≢true (sym not_three ∙ (λ i. three_names_tell ts u (ring true (v ∷ r ∷ s ∷ [])) refl refl ring_u i && three_names_tell ts v (ring true (r ∷ u ∷ s ∷ [])) refl refl ring_v i))

      long : (m l : List ℕ) → (m ≡ [] → l ≡ [] → ⊥) → 3 ≤ length (r ∷ m ++ s ∷ l)
      long [] [] h = absurd (h refl refl)
      long [] (x ∷ l) h = omega arith
      long (x ∷ m) l h = omega (arith, length-append m (s ∷ l))
  new_ring_v w is_w not_three (passes front q is) =
      let names = front ++ r ∷ u ∷ s ∷ q in
      let dist = distinct_in names is.distinct in
      let parts = distinct_parts (front ++ r ∷ []) (u ∷ s ∷ q) (subst IsDistinct (sym (append_assoc front (r ∷ []) (u ∷ s ∷ q))) dist) in
      let new = front ++ r ∷ mid ++ s ∷ q in
      along front q is (subst (λ ns. IsRing (collapsed_tris u v ts) v (ring false ns)) (append_assoc front (r ∷ mid) (s ∷ q))
      (ring_of (collapsed_tris u v ts) v (ring false new) (spliced_distinct front q dist (mid_apart (ring false names) is)) (omega (arith, length-append (front ++ r ∷ mid) (s ∷ q), length-append front (r ∷ mid)))
      (spliced front q (fan_of ts v (ring false names) is) (λ i. parts.2 u i (inl refl)) parts.1.0)))

  -- ---- the ring of an opposite name w, where u stands between a and b, one of which is v
  -- u goes from between them
  pub dropped_ring : (w a b : ℕ) → w ≢ u → w ≢ v → a ≢ b → (a ≡ v) ⊎ (b ≡ v) → (Face ts w b a → ⊥) → AroundBy ts w a u b → Splices ts (collapsed_tris u v ts) w a b (u ∷ []) []
  dropped_ring w a b wu wv ab here loose (goes_round q is) =
      let names = a ∷ u ∷ b ∷ q in
      let dist = distinct_in names is.distinct in
      let au : u ≢ a = λ e. dist.0 (inl (sym e)) in
      let fan : IsFan (collapsed_tris u v ts) w (a ∷ b ∷ (q ++ a ∷ [])) = drop_fan ts u v w a b [] (q ++ a ∷ []) uv wu wv ab (fan_of ts w (ring true names) is) (λ i. elim i [ inl e ↦ au e | inr j ↦ absurd j ]) (λ i. elim (append_cases u (b ∷ q) (a ∷ []) i) [ inl j ↦ dist.1.0 j | inr (inl e) ↦ au e | inr (inr j) ↦ absurd j ]) here in
      round q is (ring_of (collapsed_tris u v ts) w (ring true (a ∷ b ∷ q)) (distinct_drop (a ∷ []) u (b ∷ q) dist) (long q is) fan)
    where
      long : (q : List ℕ) → IsRing ts w (ring true (a ∷ u ∷ b ∷ q)) → 3 ≤ length (a ∷ b ∷ q)
      long [] is = absurd (loose ((fan_of ts w (ring true (a ∷ u ∷ b ∷ [])) is b a).1 (inr (inr (inl refl)))))
      long (x ∷ q) is = omega arith
  dropped_ring w a b wu wv ab here loose (passes front q is) =
      let names = front ++ a ∷ u ∷ b ∷ q in
      let dist = distinct_in names is.distinct in
      let dist' : IsDistinct ((front ++ a ∷ []) ++ u ∷ b ∷ q) = subst IsDistinct (sym (append_assoc front (a ∷ []) (u ∷ b ∷ q))) dist in
      let parts = distinct_parts (front ++ a ∷ []) (u ∷ b ∷ q) dist' in
      let new = front ++ a ∷ b ∷ q in
      along front q is (ring_of (collapsed_tris u v ts) w (ring false new) (subst IsDistinct (append_assoc front (a ∷ []) (b ∷ q)) (distinct_drop (front ++ a ∷ []) u (b ∷ q) dist')) (omega (arith, length-append front (a ∷ b ∷ q)))
      (drop_fan ts u v w a b front q uv wu wv ab (fan_of ts w (ring false names) is) (λ i. parts.2 u i (inl refl)) parts.1.0 here))

  -- the ring of r loses u
  pub new_ring_r : (w k : Ring) → IsRing ts r w → IsRing ts v k → (is_closed_by_three ts u && is_closed_by_three ts v) ≡ false → Splices ts (collapsed_tris u v ts) r (behind_r ts u v r s mid d one p).0 v (u ∷ []) []
  new_ring_r w k is_w is_k not_three =
      let nx = behind_r ts u v r s mid d one p in
      let x = nx.0 in
      let f : Face ts u r x = nx.1 in
      let first = p.pinch.first in
      let n = d u v r first in
      let rs = r_not_s ts u v r s mid d one p in
      let xv : x ≢ v = λ e. rs (one v u r s (vu_r (subst (λ z. Face ts u r z) e f)) (Face_back ts u s v p.pinch.last)) in
      dropped_ring r x v n.2 (λ e. n.1 (sym e)) xv (inr refl)
      (λ g.
      let only = p.pinch.only x (r, inr f) (r, inl (Face_turn ts r v x g)) in
      let xs : x ≡ s = elim only [ inl e ↦ absurd ((d u r x f).1 (sym e)) | inr e ↦ e ] in
      no_three k is_k not_three (subst (λ z. Face ts u r z) xs f) (subst (λ z. Face ts v z r) xs (Face_turn ts r v x g)))
      (around ts r x u v w one is_w (Face_turn ts u r x f) (Face_back ts u v r first))
    where
      vu_r : Face ts u r v → Face ts v u r
      vu_r f = Face_back ts u r v f

  -- the ring of s loses u
  pub new_ring_s : (w k : Ring) → IsRing ts s w → IsRing ts v k → (is_closed_by_three ts u && is_closed_by_three ts v) ≡ false → Splices ts (collapsed_tris u v ts) s v (before_s ts u v r s mid d one p).0 (u ∷ []) []
  new_ring_s w k is_w is_k not_three =
      let pv = before_s ts u v r s mid d one p in
      let y = pv.0 in
      let f : Face ts u y s = pv.1 in
      let last = p.pinch.last in
      let n = d u s v last in
      let rs = r_not_s ts u v r s mid d one p in
      let vy : v ≢ y = λ e. rs (sym (one u v s r (subst (λ z. Face ts u z s) (sym e) f) p.pinch.first)) in
      dropped_ring s v y (λ e. n.0 (sym e)) n.1 vy (inl refl)
      (λ g.
      let only = p.pinch.only y (s, inl f) (s, inr (Face_back ts s y v g)) in
      let yr : y ≡ r = elim only [ inl e ↦ e | inr e ↦ absurd ((d u y s f).1 e) ] in
      no_three k is_k not_three (subst (λ z. Face ts u z s) yr f) (subst (λ z. Face ts v s z) yr (Face_back ts s y v g)))
      (around ts s v u y w one is_w (Face_turn ts u s v last) (Face_back ts u y s f))

  -- ---- the rings of all other names
  -- v stands in the place of u
  pub other_ring : (w : ℕ) (k : Ring) → w ≢ u → w ≢ v → w ≢ r → w ≢ s → IsRing ts w k → IsRing (collapsed_tris u v ts) w (ring k.closed (map (renamed u v) k.names))
  other_ring w k wu wv wr ws is = by k.closed k.names is
    where
      apart : (shut : Bool) (names : List ℕ) → IsRing ts w (ring shut names) → u ∈ names → v ∈ names → ⊥
      apart shut names is i j =
          let nu = near_on ts w (ring shut names) u is i in
          let nv = near_on ts w (ring shut names) v is j in
          elim (p.pinch.only w (back u nu) (back v nv)) [ inl e ↦ wr e | inr e ↦ ws e ]
        where
          back : (n : ℕ) → Near ts w n → Near ts n w
          back n (y, inl f) = (y, inr (Face_turn ts w n y f))
          back n (y, inr f) = (y, inl (Face_back ts w y n f))

      distinct_map : (names : List ℕ) → IsDistinct names → (u ∈ names → v ∈ names → ⊥) → IsDistinct (map (renamed u v) names)
      distinct_map [] dist n = tt
      distinct_map (x ∷ xs) dist n = (
        (λ i.
            let m = map_from (renamed u v) xs (renamed u v x) i in
            elim (merged u v x m.0 m.2) [
              | inl e ↦ dist.0 (subst (λ z. z ∈ xs) (sym e) m.1)
              | inr (inl e) ↦ n (inl (sym e.0)) (inr (subst (λ z. z ∈ xs) e.1 m.1))
              | inr (inr e) ↦ n (inr (subst (λ z. z ∈ xs) e.1 m.1)) (inl (sym e.0))
            ]),
        distinct_map xs dist.1 (λ i j. n (inr i) (inr j)),
      )

      path-map : (shut : Bool) (names : List ℕ) → map (renamed u v) (ring_path (ring shut names)) ≡ ring_path (ring shut (map (renamed u v) names))
      path-map true [] = refl
      path-map true (x ∷ xs) = map-append (renamed u v) (x ∷ xs) (x ∷ [])
      path-map false names = refl

      by : (shut : Bool) (names : List ℕ) → IsRing ts w (ring shut names) → IsRing (collapsed_tris u v ts) w (ring shut (map (renamed u v) names))
      by shut names is =
          let new = ring shut (map (renamed u v) names) in
          let n = apart shut names is in
          ring_of (collapsed_tris u v ts) w new (distinct_map names (distinct_in names is.distinct) n) (subst (λ k. fewest_names shut ≤ k) (sym (length-map names (renamed u v))) is.long)
          (subst (λ l. IsFan (collapsed_tris u v ts) w l) (path-map shut names) (rename_fan ts u v w (ring_path (ring shut names)) wu wv (fan_of ts w (ring shut names) is) (λ i j. n (in_path shut names u i) (in_path shut names v j))))

  -- ---- together
  -- a name in a triangle was in one, and isn't u
  pub corner_before : (w : ℕ) → is_corner (collapsed_tris u v ts) w ≡ true → (w ≢ u) × (is_corner ts w ≡ true)
  corner_before w h =
      let at = corner_face (collapsed_tris u v ts) w h in
      let b = face_before ts u v w at.0 at.1 at.2 in
      elim (cases_eq b.x u) [
        | inl e ↦
            let vw : v ≡ w = sym (renamed-same u v) ∙ ap (renamed u v) (sym e) ∙ b.ax in
            ((λ f. uv (sym (vw ∙ f))), face_corner ts w r u (subst (λ z. Face ts z r u) vw (Face_turn ts u v r p.pinch.first)))
        | inr e ↦
            let xw : b.x ≡ w = sym (renamed-other u v b.x e) ∙ b.ax in
            ((λ f. e (xw ∙ f)), face_corner ts w b.y b.z (subst (λ z. Face ts z b.y b.z) xw b.face))
      ]

  -- ---- the rings, name by name
  -- the name behind r round u
  next_first : (x : ℕ) → Face ts u r x → x ≡ first_name mid s
  next_first x f = by mid (fan_of ts u (ring true (v ∷ (r ∷ mid ++ s ∷ []))) p.around_u)
    where
      by : (m : List ℕ) → IsFan ts u (closed_path (v ∷ (r ∷ m ++ s ∷ []))) → x ≡ first_name m s
      by [] fan = one u r x s f ((fan r s).1 (inr (inl refl)))
      by (y ∷ ys) fan = one u r x y f ((fan r y).1 (inr (inl refl)))

  -- the step to the last name
  last_step : (n : ℕ) (m : List ℕ) → Leads (last_name n m) s (path_edges (n ∷ m ++ s ∷ []))
  last_step n [] = inl refl
  last_step n (y ∷ ys) = inr (last_step y ys)

  -- the name before s round u
  prev_last : (y : ℕ) → Face ts u y s → y ≡ last_name r mid
  prev_last y f =
      let g : Face ts u (last_name r mid) s = (fan_of ts u (ring true (v ∷ (r ∷ mid ++ s ∷ []))) p.around_u (last_name r mid) s).1 (subst (λ es. Leads (last_name r mid) s es) (sym (loop v r s mid)) (inr (append_left (step (last_name r mid) s) (path_edges (r ∷ mid ++ s ∷ [])) (step s v ∷ []) (last_step r mid)))) in
      one s u y (last_name r mid) (Face_back ts u y s f) (Face_turn ts (last_name r mid) s u (Face_turn ts u (last_name r mid) s g))

  -- what the collapse makes of each ring
  pub collapses_rings : CollapsesEdges ts (collapsed_tris u v ts) u v mid → (is_closed_by_three ts u && is_closed_by_three ts v) ≡ false → CollapsesRings ts (collapsed_tris u v ts) u v
  collapses_rings edges not_three =
      let nx = behind_r ts u v r s mid d one p in
      let pv = before_s ts u v r s mid d one p in
      record {
        r = r;
        s = s;
        mid = mid;
        edges = edges;
        of_u = p.around_u;
        of_v = λ of_v. new_ring_v of_v.0 of_v.1 not_three (around_v ts u v r s mid d one p of_v.0 of_v.1);
        of_r = λ of_v of_r. subst (λ x. Splices ts (collapsed_tris u v ts) r x v (u ∷ []) []) (next_first nx.0 nx.1) (new_ring_r of_r.0 of_v.0 of_r.1 of_v.1 not_three);
        of_s = λ of_v of_s. subst (λ y. Splices ts (collapsed_tris u v ts) s v y (u ∷ []) []) (prev_last pv.0 pv.1) (new_ring_s of_s.0 of_v.0 of_s.1 of_v.1 not_three);
        of_others = other_ring;
      }

-- a name that has a ring keeps one, where v has one
pub ring_stays : (ts us : List Tri) (u v w : ℕ) → CollapsesRings ts us u v → HasRing ts v → w ≢ u → HasRing ts w → HasRing us w
ring_stays ts us u v w c of_v wu k =
    elim (cases_eq w v) [
      | inl e ↦ subst (HasRing us) (sym e) (spliced_ring _ _ _ _ _ _ _ (c.of_v of_v))
      | inr wv ↦ elim (cases_eq w c.r) [
        | inl e ↦ subst (HasRing us) (sym e) (spliced_ring _ _ _ _ _ _ _ (c.of_r of_v (subst (HasRing ts) e k)))
        | inr wr ↦ elim (cases_eq w c.s) [
          | inl e ↦ subst (HasRing us) (sym e) (spliced_ring _ _ _ _ _ _ _ (c.of_s of_v (subst (HasRing ts) e k)))
          | inr ws ↦ (ring k.0.closed (map (renamed u v) k.0.names), c.of_others w k.0 wu wv wr ws k.1)
        ]
      ]
    ]

-- where each name in a triangle has a ring, those of which the other rings are asked have one
pub rings_met : (ts us : List Tri) (u v : ℕ) (c : CollapsesRings ts us u v) → IsRinged ts → HasRing ts v × HasRing ts c.r × HasRing ts c.s
rings_met ts us u v c ringed =
    let fan = fan_of ts u (ring true (v ∷ (c.r ∷ c.mid ++ c.s ∷ []))) c.of_u in
    let first : Face ts u v c.r = (fan v c.r).1 (inl refl) in
    let last : Face ts u c.s v = (fan c.s v).1 (subst (λ es. Leads c.s v es) (sym (loop v c.r c.s c.mid)) (inr (append_right (step c.s v) (path_edges (c.r ∷ c.mid ++ c.s ∷ [])) (step c.s v ∷ []) (inl refl)))) in (
      ringed v (face_corner ts v c.r u (Face_turn ts u v c.r first)),
      ringed c.r (face_corner ts c.r u v (Face_back ts u v c.r first)),
      ringed c.s (face_corner ts c.s v u (Face_turn ts u c.s v last)),
    )
