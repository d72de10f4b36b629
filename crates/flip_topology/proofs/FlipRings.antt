-- After a flip that is done each name that is in a triangle has a ring.
use Rattle.face_rings.proofs.Around.{AroundBy, BesideBy, along_by, around, beside, goes_round, near_on, passes, round_by}
use Rattle.face_rings.proofs.Borders.{apart_or, edge_of, of_edge}
use Rattle.face_rings.proofs.Corners.{corner_face, face_corner}
use Rattle.face_rings.proofs.Faces.{Among, Face_back, Face_turn, three}
use Rattle.face_rings.proofs.Fans.{distinct_in, fan_of, ring_of}
use Rattle.face_rings.proofs.Members.{append_cases, append_left, append_right, steps_in}
use Rattle.face_rings.proofs.Paths.{distinct_drop, distinct_insert, distinct_parts, ends_later, not_in, path, path_in, shorter, starts_before}
use Rattle.face_rings.proofs.Named.{IsDistinct}
use Rattle.face_rings.specs.Faces.{Face, IsFan, Leads, ◌∈◌}
use Rattle.mesh_data.specs.RingChanges.{FlipsEdges, HasEdge, Splices, along, round}
use Rattle.flip_topology.proofs.FlipFaces.{Flips, IsTurn, Sides, other_flips, other_sides}
use Rattle.mesh_data.specs.Manifold.{is_corner}
use Rattle.mesh_data.specs.Rings.{IsRing, ring_path, path_edges}
use Rattle.mesh_data.specs.declared.geometry.Edge.{Edge}
use Rattle.mesh_data.specs.declared.geometry.Tri.{Tri}
use Rattle.mesh_data.specs.declared.rings.Ring.{Ring}
use Rattle.std.proofs.Common.{List, [], ap, append_assoc, arith, false, inl, inr, length, length-append, refl, subst, sym, true, ℕ, ◌++◌, ◌∙◌, ◌∷◌, ◌≡◌, ◌≢◌, ◌≤◌, ◌⊎◌}
use Rattle.std.proofs.lemmas.Bool.{cases_eq}
use Rattle.triangle_lists.proofs.RingLaws.{ring}
use Rattle.triangle_lists.proofs.Walks.{step}

module _ (ts us : List Tri) (a b c d : ℕ) (s : Sides ts a b c d) (k : Flips ts us a b c d) where
  -- ---- names that differ
  ab : a ≢ b
  ab = (s.different a b c s.ahead).0

  bc : b ≢ c
  bc = (s.different a b c s.ahead).1

  ca : c ≢ a
  ca = (s.different a b c s.ahead).2

  ad : a ≢ d
  ad = (s.different b a d s.behind).1

  db : d ≢ b
  db = (s.different b a d s.behind).2

  -- the new faces at each name
  turn_at : (w x y l m n : ℕ) → IsTurn l m n w x y → ((w ≡ l) × (x ≡ m) × (y ≡ n)) ⊎ (((w ≡ m) × (x ≡ n) × (y ≡ l)) ⊎ ((w ≡ n) × (x ≡ l) × (y ≡ m)))
  turn_at w x y l m n (inl e) = inl (sym (ap (λ (t : Tri). t.a) e), sym (ap (λ (t : Tri). t.b) e), sym (ap (λ (t : Tri). t.c) e))
  turn_at w x y l m n (inr (inl e)) = inr (inr (sym (ap (λ (t : Tri). t.c) e), sym (ap (λ (t : Tri). t.a) e), sym (ap (λ (t : Tri). t.b) e)))
  turn_at w x y l m n (inr (inr e)) = inr (inl (sym (ap (λ (t : Tri). t.b) e), sym (ap (λ (t : Tri). t.c) e), sym (ap (λ (t : Tri). t.a) e)))

  -- ---- the ring of a loses b, between d and c
  -- the steps without b are the faces at a
  drop_b : (p q : List ℕ) → IsFan ts a (p ++ d ∷ b ∷ c ∷ q) → (b ∈ p ++ d ∷ [] → ⊥) → (b ∈ c ∷ q → ⊥) → IsFan us a (p ++ d ∷ c ∷ q)
  drop_b p q fan np nq x y = (to, from)
    where
      new : (Leads x y (path_edges (p ++ d ∷ [])) ⊎ ((step x y ≡ step d c) ⊎ Leads x y (path_edges (c ∷ q)))) → Leads x y (path_edges (p ++ d ∷ c ∷ q))
      new i = subst (λ es. Leads x y es) (sym (shorter p d c q)) (elim i [
        | inl j ↦ append_left (step x y) (path_edges (p ++ d ∷ [])) (step d c ∷ path_edges (c ∷ q)) j
        | inr (inl e) ↦ append_right (step x y) (path_edges (p ++ d ∷ [])) (step d c ∷ path_edges (c ∷ q)) (inl e)
        | inr (inr j) ↦ append_right (step x y) (path_edges (p ++ d ∷ [])) (step d c ∷ path_edges (c ∷ q)) (inr j)
      ])

      to : Face us a x y → Leads x y (path_edges (p ++ d ∷ c ∷ q))
      to f = elim (k.from a x y f) [
        | inl (g, n) ↦
            let nx : x ≢ b = λ e. n (inl refl) (inr (inl (sym e))) in
            let ny : y ≢ b = λ e. n (inl refl) (inr (inr (sym e))) in
            elim (path_in p d b c q x y ((fan x y).0 g) nx ny) [ inl j ↦ new (inl j) | inr j ↦ new (inr (inr j)) ]
        | inr (inl t) ↦ elim (turn_at a x y a d c t) [
          | inl e ↦ new (inr (inl (λ i. step (e.1 i) (e.2 i))))
          | inr (inl e) ↦ absurd (ad e.0)
          | inr (inr e) ↦ absurd (ca (sym e.0))
        ]
        | inr (inr t) ↦ elim (turn_at a x y d b c t) [ inl e ↦ absurd (ad e.0) | inr (inl e) ↦ absurd (ab e.0) | inr (inr e) ↦ absurd (ca (sym e.0)) ]
      ]

      old : Leads x y (path_edges (p ++ d ∷ b ∷ c ∷ q)) → x ≢ b → y ≢ b → Face us a x y
      old j nx ny = k.kept a x y ((fan x y).1 j) (λ i m. elim m [ inl e ↦ ab (sym e) | inr (inl e) ↦ nx (sym e) | inr (inr e) ↦ ny (sym e) ])

      from : Leads x y (path_edges (p ++ d ∷ c ∷ q)) → Face us a x y
      from i = elim (append_cases (step x y) (path_edges (p ++ d ∷ [])) (step d c ∷ path_edges (c ∷ q)) (subst (λ es. Leads x y es) (shorter p d c q) i)) [
        | inl j ↦ let m = steps_in (p ++ d ∷ []) (step x y) j in
            old (subst (λ es. Leads x y es) (sym (path p d b c q)) (append_left (step x y) (path_edges (p ++ d ∷ [])) (step d b ∷ step b c ∷ path_edges (c ∷ q)) j)) (not_in b x (p ++ d ∷ []) np m.0) (not_in b y (p ++ d ∷ []) np m.1)
        | inr (inl e) ↦ three us a d c a x y refl (sym (ap (λ (g : Edge). g.a) e)) (sym (ap (λ (g : Edge). g.b) e)) k.left
        | inr (inr j) ↦ let m = steps_in (c ∷ q) (step x y) j in
            old (subst (λ es. Leads x y es) (sym (path p d b c q)) (append_right (step x y) (path_edges (p ++ d ∷ [])) (step d b ∷ step b c ∷ path_edges (c ∷ q)) (inr (inr j)))) (not_in b x (c ∷ q) nq m.0) (not_in b y (c ∷ q) nq m.1)
      ]

  -- by where b stands in the ring
  ring_a_by : AroundBy ts a d b c → Splices ts us a d c (b ∷ []) []
  ring_a_by (goes_round q is) =
      let dist = distinct_in (d ∷ b ∷ c ∷ q) is.distinct in
      let fan = drop_b [] (q ++ d ∷ []) (fan_of ts a (ring true (d ∷ b ∷ c ∷ q)) is) (λ i. elim i [ inl e ↦ db (sym e) | inr j ↦ absurd j ])
      (λ i. elim (append_cases b (c ∷ q) (d ∷ []) i) [ inl j ↦ dist.1.0 j | inr (inl e) ↦ db (sym e) | inr (inr j) ↦ absurd j ]) in
      round q is (ring_of us a (ring true (d ∷ c ∷ q)) (distinct_drop (d ∷ []) b (c ∷ q) dist) (long q is) fan)
    where
      long : (q : List ℕ) → IsRing ts a (ring true (d ∷ b ∷ c ∷ q)) → 3 ≤ length (d ∷ c ∷ q)
      long [] is = absurd (s.new a (Face_turn ts a c d ((fan_of ts a (ring true (d ∷ b ∷ c ∷ [])) is c d).1 (inr (inr (inl refl))))))
      long (x ∷ q) is = omega arith
  ring_a_by (passes p q is) =
      let names = p ++ d ∷ b ∷ c ∷ q in
      let dist = distinct_in names is.distinct in
      let dist' : IsDistinct ((p ++ d ∷ []) ++ b ∷ c ∷ q) = subst IsDistinct (sym (append_assoc p (d ∷ []) (b ∷ c ∷ q))) dist in
      let parts = distinct_parts (p ++ d ∷ []) (b ∷ c ∷ q) dist' in
      let new = p ++ d ∷ c ∷ q in
      along p q is (ring_of us a (ring false new) (subst IsDistinct (append_assoc p (d ∷ []) (c ∷ q)) (distinct_drop (p ++ d ∷ []) b (c ∷ q) dist')) (omega (arith, length-append p (d ∷ c ∷ q)))
      (drop_b p q (fan_of ts a (ring false names) is) (λ i. parts.2 b i (inl refl)) parts.1.0))

  -- the ring of a loses b
  pub ring_a : (w : Ring) → IsRing ts a w → Splices ts us a d c (b ∷ []) []
  ring_a w is = ring_a_by (around ts a d b c w s.one is (Face_turn ts b a d s.behind) s.ahead)

  -- ---- the ring of c gains d, between a and b
  -- the steps with d are the faces at c
  insert_d : (p q : List ℕ) → IsFan ts c (p ++ a ∷ b ∷ q) → (a ∈ p → ⊥) → (b ∈ q → ⊥) → IsFan us c (p ++ a ∷ d ∷ b ∷ q)
  insert_d p q fan np nq x y = (to, from)
    where
      new : (Leads x y (path_edges (p ++ a ∷ [])) ⊎ (((step x y ≡ step a d) ⊎ (step x y ≡ step d b)) ⊎ Leads x y (path_edges (b ∷ q)))) → Leads x y (path_edges (p ++ a ∷ d ∷ b ∷ q))
      new i = subst (λ es. Leads x y es) (sym (path p a d b q)) (elim i [
        | inl j ↦ append_left (step x y) (path_edges (p ++ a ∷ [])) (step a d ∷ step d b ∷ path_edges (b ∷ q)) j
        | inr (inl (inl e)) ↦ append_right (step x y) (path_edges (p ++ a ∷ [])) (step a d ∷ step d b ∷ path_edges (b ∷ q)) (inl e)
        | inr (inl (inr e)) ↦ append_right (step x y) (path_edges (p ++ a ∷ [])) (step a d ∷ step d b ∷ path_edges (b ∷ q)) (inr (inl e))
        | inr (inr j) ↦ append_right (step x y) (path_edges (p ++ a ∷ [])) (step a d ∷ step d b ∷ path_edges (b ∷ q)) (inr (inr j))
      ])

      to : Face us c x y → Leads x y (path_edges (p ++ a ∷ d ∷ b ∷ q))
      to f = elim (k.from c x y f) [
        | inl (g, n) ↦ elim (append_cases (step x y) (path_edges (p ++ a ∷ [])) (step a b ∷ path_edges (b ∷ q)) (subst (λ es. Leads x y es) (shorter p a b q) ((fan x y).0 g))) [
          | inl j ↦ new (inl j)
          | inr (inl e) ↦ absurd (n (inr (inl (sym (ap (λ (h : Edge). h.a) e)))) (inr (inr (sym (ap (λ (h : Edge). h.b) e)))))
          | inr (inr j) ↦ new (inr (inr j))
        ]
        | inr (inl t) ↦ elim (turn_at c x y a d c t) [ inl e ↦ absurd (ca e.0) | inr (inl e) ↦ absurd (s.apart e.0) | inr (inr e) ↦ new (inr (inl (inl (λ i. step (e.1 i) (e.2 i))))) ]
        | inr (inr t) ↦ elim (turn_at c x y d b c t) [ inl e ↦ absurd (s.apart e.0) | inr (inl e) ↦ absurd (bc (sym e.0)) | inr (inr e) ↦ new (inr (inl (inr (λ i. step (e.1 i) (e.2 i))))) ]
      ]

      -- a face at c with a and b is the one that goes
      ends : (z : ℕ) → Among z c x y → z ≢ c → (x ≡ z) ⊎ (y ≡ z)
      ends z (inl e) n = absurd (n e)
      ends z (inr (inl e)) n = inl (sym e)
      ends z (inr (inr e)) n = inr (sym e)

      old : Leads x y (path_edges (p ++ a ∷ b ∷ q)) → ((x ≡ a) → (y ≡ b) → ⊥) → Face us c x y
      old j no_ab =
          let g = (fan x y).1 j in
          k.kept c x y g (λ i m. elim (ends a i (λ e. ca (sym e))) [
            | inl xa ↦ elim (ends b m bc) [ inl xb ↦ ab (sym xa ∙ xb) | inr yb ↦ no_ab xa yb ]
            | inr ya ↦ elim (ends b m bc) [
              | inl xb ↦ s.apart (s.one b a c d (Face_turn ts c b a (three ts c x y c b a refl xb ya g)) s.behind)
              | inr yb ↦ ab (sym ya ∙ yb)
            ]
          ])

      from : Leads x y (path_edges (p ++ a ∷ d ∷ b ∷ q)) → Face us c x y
      from i = elim (append_cases (step x y) (path_edges (p ++ a ∷ [])) (step a d ∷ step d b ∷ path_edges (b ∷ q)) (subst (λ es. Leads x y es) (path p a d b q) i)) [
        | inl j ↦ old (subst (λ es. Leads x y es) (sym (shorter p a b q)) (append_left (step x y) (path_edges (p ++ a ∷ [])) (step a b ∷ path_edges (b ∷ q)) j)) (λ xa yb. np (subst (λ z. z ∈ p) xa (starts_before p a x y j)))
        | inr (inl e) ↦ three us c a d c x y refl (sym (ap (λ (g : Edge). g.a) e)) (sym (ap (λ (g : Edge). g.b) e)) (Face_back us a d c k.left)
        | inr (inr (inl e)) ↦ three us c d b c x y refl (sym (ap (λ (g : Edge). g.a) e)) (sym (ap (λ (g : Edge). g.b) e)) (Face_back us d b c k.right)
        | inr (inr (inr j)) ↦ old (subst (λ es. Leads x y es) (sym (shorter p a b q)) (append_right (step x y) (path_edges (p ++ a ∷ [])) (step a b ∷ path_edges (b ∷ q)) (inr j))) (λ xa yb. nq (subst (λ z. z ∈ q) yb (ends_later b q x y j)))
      ]

  -- d isn't near c before
  d_away : (w : Ring) → IsRing ts c w → d ∈ w.names → ⊥
  d_away w is i = elim (near_on ts c w d is i).1 [ inl f ↦ s.new (near_on ts c w d is i).0 f | inr f ↦ s.new_back (near_on ts c w d is i).0 (Face_turn ts (near_on ts c w d is i).0 d c (Face_turn ts c (near_on ts c w d is i).0 d f)) ]

  -- by where a and b stand in the ring
  ring_c_by : BesideBy ts c a b → Splices ts us c a b [] (d ∷ [])
  ring_c_by (round_by q is) =
      let dist = distinct_in (a ∷ b ∷ q) is.distinct in
      let away = d_away (ring true (a ∷ b ∷ q)) is in
      let fan = insert_d [] (q ++ a ∷ []) (fan_of ts c (ring true (a ∷ b ∷ q)) is) (λ i. i) (λ i. elim (append_cases b q (a ∷ []) i) [ inl j ↦ dist.1.0 j | inr (inl e) ↦ ab (sym e) | inr (inr j) ↦ absurd j ]) in
      round q is (ring_of us c (ring true (a ∷ d ∷ b ∷ q)) (distinct_insert (a ∷ []) (d ∷ []) (b ∷ q) dist ((λ i. i), tt) (λ x i j. elim i [ inl e ↦ away (subst (λ z. z ∈ a ∷ b ∷ q) e j) | inr n ↦ absurd n ])) (omega arith) fan)
  ring_c_by (along_by p q is) =
      let names = p ++ a ∷ b ∷ q in
      let dist = distinct_in names is.distinct in
      let parts = distinct_parts p (a ∷ b ∷ q) dist in
      let away = d_away (ring false names) is in
      let dist' : IsDistinct ((p ++ a ∷ []) ++ b ∷ q) = subst IsDistinct (sym (append_assoc p (a ∷ []) (b ∷ q))) dist in
      let new = p ++ a ∷ d ∷ b ∷ q in
      along p q is (ring_of us c (ring false new)
      (subst IsDistinct (append_assoc p (a ∷ []) (d ∷ b ∷ q)) (distinct_insert (p ++ a ∷ []) (d ∷ []) (b ∷ q) dist' ((λ i. i), tt) (λ x i j. elim i [ inl e ↦ away (subst (λ l. d ∈ l) (append_assoc p (a ∷ []) (b ∷ q)) (subst (λ z. z ∈ (p ++ a ∷ []) ++ b ∷ q) e j)) | inr n ↦ absurd n ])))
      (omega (arith, length-append p (a ∷ d ∷ b ∷ q)))
      (insert_d p q (fan_of ts c (ring false names) is) (λ i. parts.2 a i (inl refl)) parts.1.1.0))

  -- the ring of c gets d
  pub ring_c : (w : Ring) → IsRing ts c w → Splices ts us c a b [] (d ∷ [])
  ring_c w is = ring_c_by (beside ts c a b w s.one is (Face_back ts a b c s.ahead))

  -- ---- all other rings stay
  -- the ring of another name stays
  pub same_ring : (w : ℕ) (r : Ring) → w ≢ a → w ≢ b → w ≢ c → w ≢ d → IsRing ts w r → IsRing us w r
  same_ring w r wa wb wc wd is = ring_of us w r (distinct_in r.names is.distinct) is.long fan
    where
      ends : (z x y : ℕ) → Among z w x y → w ≢ z → (x ≡ z) ⊎ (y ≡ z)
      ends z x y (inl e) n = absurd (n (sym e))
      ends z x y (inr (inl e)) n = inl (sym e)
      ends z x y (inr (inr e)) n = inr (sym e)

      fan : IsFan us w (ring_path r)
      fan x y = (
        (λ f. elim (k.from w x y f) [
          | inl (g, n) ↦ (fan_of ts w r is x y).0 g
          | inr (inl t) ↦ elim (turn_at w x y a d c t) [ inl e ↦ absurd (wa e.0) | inr (inl e) ↦ absurd (wd e.0) | inr (inr e) ↦ absurd (wc e.0) ]
          | inr (inr t) ↦ elim (turn_at w x y d b c t) [ inl e ↦ absurd (wd e.0) | inr (inl e) ↦ absurd (wb e.0) | inr (inr e) ↦ absurd (wc e.0) ]
        ]),
        (λ i.
            let g = (fan_of ts w r is x y).1 i in
            k.kept w x y g (λ l m. elim (ends a x y l wa) [
              | inl xa ↦ elim (ends b x y m wb) [
                | inl xb ↦ ab (sym xa ∙ xb)
                | inr yb ↦ wc (s.one a b w c (Face_turn ts w a b (three ts w x y w a b refl xa yb g)) s.ahead)
              ]
              | inr ya ↦ elim (ends b x y m wb) [
                | inl xb ↦ wd (s.one b a w d (Face_turn ts w b a (three ts w x y w b a refl xb ya g)) s.behind)
                | inr yb ↦ ab (sym ya ∙ yb)
              ]
            ])),
      )

  -- ---- a name in a triangle was in one before
  -- a name in a triangle was in one
  pub corner_before : (w : ℕ) → is_corner us w ≡ true → is_corner ts w ≡ true
  corner_before w h =
      let at = corner_face us w h in
      let of_a = s.ahead in
      let of_b = s.behind in
      elim (k.from w at.0 at.1 at.2) [
        | inl (g, n) ↦ face_corner ts w at.0 at.1 g
        | inr (inl t) ↦ elim (turn_at w at.0 at.1 a d c t) [
          | inl e ↦ face_corner ts w b c (three ts a b c w b c (sym e.0) refl refl of_a)
          | inr (inl e) ↦ face_corner ts w b a (three ts d b a w b a (sym e.0) refl refl (Face_back ts b a d of_b))
          | inr (inr e) ↦ face_corner ts w a b (three ts c a b w a b (sym e.0) refl refl (Face_back ts a b c of_a))
        ]
        | inr (inr t) ↦ elim (turn_at w at.0 at.1 d b c t) [
          | inl e ↦ face_corner ts w b a (three ts d b a w b a (sym e.0) refl refl (Face_back ts b a d of_b))
          | inr (inl e) ↦ face_corner ts w a d (three ts b a d w a d (sym e.0) refl refl of_b)
          | inr (inr e) ↦ face_corner ts w a b (three ts c a b w a b (sym e.0) refl refl (Face_back ts a b c of_a))
        ]
      ]

  -- ---- edges
  -- an edge of a face but the flipped one is one after
  pub edge_after : (x y z : ℕ) → Face ts x y z → ((x ≡ a) → (y ≡ b) → ⊥) → ((x ≡ b) → (y ≡ a) → ⊥) → (n : ℕ) × Face us x y n
  edge_after x y z f no_ab no_ba =
      elim (apart_or a b x y z) [
        | inl n ↦ (z, k.kept x y z f n)
        | inr (inl xa, inl xb) ↦ absurd (ab (xa ∙ sym xb))
        | inr (inl xa, inr (inl yb)) ↦ absurd (no_ab (sym xa) (sym yb))
        | inr (inl xa, inr (inr zb)) ↦
            let yd : y ≡ d = s.one b a y d (three ts z x y b a y (sym zb) (sym xa) refl (Face_back ts x y z f)) s.behind in
            (c, three us a d c x y c xa (sym yd) refl k.left)
        | inr (inr (inl ya), inl xb) ↦ absurd (no_ba (sym xb) (sym ya))
        | inr (inr (inl ya), inr (inl yb)) ↦ absurd (ab (ya ∙ sym yb))
        | inr (inr (inl ya), inr (inr zb)) ↦
            let xc : x ≡ c = s.one a b x c (three ts y z x a b x (sym ya) (sym zb) refl (Face_turn ts x y z f)) s.ahead in
            (d, three us c a d x y d (sym xc) ya refl (Face_back us a d c k.left))
        | inr (inr (inr za), inl xb) ↦
            let yc : y ≡ c = s.one a b y c (three ts z x y a b y (sym za) (sym xb) refl (Face_back ts x y z f)) s.ahead in
            (d, three us b c d x y d xb (sym yc) refl (Face_turn us d b c k.right))
        | inr (inr (inr za), inr (inl yb)) ↦
            let xd : x ≡ d = s.one b a x d (three ts y z x b a x (sym yb) (sym za) refl (Face_turn ts x y z f)) s.behind in
            (c, three us d b c x y c (sym xd) yb refl k.right)
        | inr (inr (inr za), inr (inr zb)) ↦ absurd (ab (za ∙ sym zb))
      ]

  -- an edge after, but the new one, was one before
  pub edge_before : (x y z : ℕ) → Face us x y z → ((x ≡ c) → (y ≡ d) → ⊥) → ((x ≡ d) → (y ≡ c) → ⊥) → (n : ℕ) × Face ts x y n
  edge_before x y z f no_cd no_dc =
      elim (k.from x y z f) [
        | inl (g, n) ↦ (z, g)
        | inr (inl t) ↦ elim (turn_at x y z a d c t) [
          | inl e ↦ (b, three ts a d b x y b (sym e.0) (sym e.1) refl (Face_turn ts b a d s.behind))
          | inr (inl e) ↦ absurd (no_dc e.0 e.1)
          | inr (inr e) ↦ (b, three ts c a b x y b (sym e.0) (sym e.1) refl (Face_back ts a b c s.ahead))
        ]
        | inr (inr t) ↦ elim (turn_at x y z d b c t) [
          | inl e ↦ (a, three ts d b a x y a (sym e.0) (sym e.1) refl (Face_back ts b a d s.behind))
          | inr (inl e) ↦ (a, three ts b c a x y a (sym e.0) (sym e.1) refl (Face_turn ts a b c s.ahead))
          | inr (inr e) ↦ absurd (no_cd e.0 e.1)
        ]
      ]

  -- the flipped edge is none after
  pub edge_gone : (z : ℕ) → Face us a b z → ⊥
  edge_gone z f = elim (k.from a b z f) [
    | inl (g, n) ↦ n (inl refl) (inr (inl refl))
    | inr (inl t) ↦ elim (turn_at a b z a d c t) [ inl e ↦ db (sym e.1) | inr (inl e) ↦ ad e.0 | inr (inr e) ↦ ca (sym e.0) ]
    | inr (inr t) ↦ elim (turn_at a b z d b c t) [ inl e ↦ ad e.0 | inr (inl e) ↦ ab e.0 | inr (inr e) ↦ ca (sym e.0) ]
  ]

module _ (ts us : List Tri) (a b c d : ℕ) (s : Sides ts a b c d) (k : Flips ts us a b c d) where
  -- the directed edges after the flip
  pub flips_edges : FlipsEdges ts us a b c d
  flips_edges x y = (
    (λ h.
        let f = of_edge us x y h in
        elim (cases_eq x c) [
          | inl xc ↦ elim (cases_eq y d) [ inl yd ↦ inr (inl (xc, yd)) | inr yd ↦ inl (old f.0 f.1 (λ _ e. yd e) (λ e _. s.apart (sym xc ∙ e))) ]
          | inr xc ↦ elim (cases_eq x d) [
            | inl xd ↦ elim (cases_eq y c) [ inl yc ↦ inr (inr (xd, yc)) | inr yc ↦ inl (old f.0 f.1 (λ e _. xc e) (λ _ e. yc e)) ]
            | inr xd ↦ inl (old f.0 f.1 (λ e _. xc e) (λ e _. xd e))
          ]
        ]),
    (λ h. elim h [
      | inl (e, n) ↦ let f = of_edge ts x y e in let g = edge_after ts us a b c d s k x y f.0 f.1 (λ xa yb. n (inl (xa, yb))) (λ xb ya. n (inr (xb, ya))) in edge_of us x y g.0 g.1
      | inr (inl e) ↦ edge_of us x y b (three us c d b x y b (sym e.0) (sym e.1) refl (Face_back us d b c k.right))
      | inr (inr e) ↦ edge_of us x y a (three us d c a x y a (sym e.0) (sym e.1) refl (Face_turn us a d c k.left))
    ]),
  )
    where
      old : (z : ℕ) → Face us x y z → ((x ≡ c) → (y ≡ d) → ⊥) → ((x ≡ d) → (y ≡ c) → ⊥) → HasEdge ts x y × (((x ≡ a) × (y ≡ b)) ⊎ ((x ≡ b) × (y ≡ a)) → ⊥)
      old z f no_cd no_dc =
          let g = edge_before ts us a b c d s k x y z f no_cd no_dc in (
            edge_of ts x y g.0 g.1,
            λ e. elim e [
              | inl (xa, yb) ↦ edge_gone ts us a b c d s k z (three us x y z a b z xa yb refl f)
              | inr (xb, ya) ↦ edge_gone ts us b a d c (other_sides ts a b c d s) (other_flips ts us a b c d k) z (three us x y z b a z xb ya refl f)
            ],
          )
