-- A collapse that is done keeps the border, takes two triangles away and changes these directed edges.
use Rattle.collapse_topology.proofs.CollapsedFaces.{face_after, face_before, renamed-other, renamed-same}
use Rattle.collapse_topology.proofs.Pinched.{Pinched, before_s, behind_r, distinct_u, r_not_s}
use Rattle.face_rings.proofs.Around.{near_on, on_near}
use Rattle.face_rings.proofs.Borders.{apart_or, contains_in, edge_of, of_edge, same_border}
use Rattle.face_rings.proofs.Corners.{in_contains}
use Rattle.face_rings.proofs.Faces.{Among, Apart, Face_back, Face_turn, Near, three}
use Rattle.face_rings.proofs.Fans.{fan_of}
use Rattle.face_rings.proofs.Members.{append_cases, append_left, append_right}
use Rattle.face_rings.proofs.Paths.{distinct_parts, next_of, prev_of}
use Rattle.face_rings.proofs.Tallies.{AreOnce, face_tally, tally_both}
use Rattle.face_rings.proofs.Named.{Different, Unique}
use Rattle.face_rings.specs.Faces.{IsBorder, Face, ◌∈◌}
use Rattle.mesh_data.specs.RingChanges.{CollapsesEdges, HasEdge}
use Rattle.mesh_data.specs.Edits.{collapsed_tris, substituted, renamed}
use Rattle.mesh_data.specs.Links.{has_both}
use Rattle.mesh_data.specs.Triangles.{IsProper, border_edges, tri_cmp, turned}
use Rattle.mesh_data.specs.declared.geometry.Tri.{Tri}
use Rattle.std.proofs.Common.{List, [], ap, arith, filter, inl, inr, length, map, not, refl, subst, sym, true, ℕ, ◌++◌, ◌+◌, ◌∙◌, ◌∷◌, ◌≡◌, ◌≢◌, ◌⊎◌}
use Rattle.std.proofs.lemmas.Bool.{cases_eq}
use Rattle.std.proofs.lemmas.List.{length-map}
use Rattle.std.proofs.lemmas.List.Filters.{length-filter_both}
use Rattle.std.specs.List.{AllByRecursion, Contains}
use Rattle.triangle_edits.proofs.Results.{length-in_order}
use Rattle.triangle_lists.proofs.RingLaws.{ring}
use Rattle.triangle_lists.proofs.Walks.{step}

module _ (ts : List Tri) (u v r s : ℕ) (mid : List ℕ) (uv : u ≢ v) (d : Different ts) (one : Unique ts) (p : Pinched ts u v r s mid) where
  -- ---- u is an interior name
  -- round u another face follows each, and one goes before it
  pub next_round : (c a : ℕ) → Face ts u c a → (x : ℕ) × Face ts u a x
  next_round c a f =
      let names = v ∷ (r ∷ mid ++ s ∷ []) in
      let at = next_of names v a (on_near ts u (ring true names) c a p.around_u f).1 in
      (at.0, (fan_of ts u (ring true names) p.around_u a at.0).1 at.1)

  pub prev_round : (b c : ℕ) → Face ts u b c → (y : ℕ) × Face ts u y b
  prev_round b c f =
      let rest = r ∷ mid ++ s ∷ [] in
      let on : b ∈ rest ++ v ∷ [] = elim (on_near ts u (ring true (v ∷ rest)) b c p.around_u f).0 [ inl e ↦ append_right b rest (v ∷ []) (inl e) | inr j ↦ append_left b rest (v ∷ []) j ] in
      let at = prev_of v (rest ++ v ∷ []) b on in
      (at.0, (fan_of ts u (ring true (v ∷ rest)) p.around_u at.0 b).1 at.1)

  -- what stands beside the edge of u and v
  pub is_r : (b : ℕ) → Face ts u v b → b ≡ r
  is_r b f = one u v b r f p.pinch.first

  pub is_s : (a : ℕ) → Face ts u a v → a ≡ s
  is_s a f = one v u a s (Face_back ts u a v f) (Face_back ts u s v p.pinch.last)

  -- the two faces with both names, from v on and from s on
  pub vr : Face ts v r u
  vr = Face_turn ts u v r p.pinch.first

  pub sv : Face ts s v u
  sv = Face_turn ts u s v p.pinch.last

  -- ---- the edges beside u go over to v
  -- a kept face without u at its edge stays at it
  pub after : (a b c : ℕ) → a ≢ u → b ≢ u → Face ts a b c → Apart u v a b c → Face (collapsed_tris u v ts) a b (renamed u v c)
  after a b c au bu f n = three (collapsed_tris u v ts) _ _ _ a b (renamed u v c) (renamed-other u v a au) (renamed-other u v b bu) refl (face_after ts u v a b c f n)

  -- a kept face at u becomes one at v
  pub after_u : (b c : ℕ) → b ≢ v → c ≢ v → Face ts u b c → Face (collapsed_tris u v ts) v b c
  after_u b c bv cv f =
      let m = d u b c f in
      three (collapsed_tris u v ts) _ _ _ v b c (renamed-same u v) (renamed-other u v b (λ e. m.0 (sym e))) (renamed-other u v c m.2)
      (face_after ts u v u b c f (λ i j. elim j [ inl e ↦ uv (sym e) | inr (inl e) ↦ bv (sym e) | inr (inr e) ↦ cv (sym e) ]))

  -- the edges from v to r and from s to v have a face again
  pub new_vr : (c : ℕ) × Face (collapsed_tris u v ts) v r c
  new_vr =
      let f = behind_r ts u v r s mid d one p in
      let xv : f.0 ≢ v = λ e. r_not_s ts u v r s mid d one p (is_s r (subst (λ z. Face ts u r z) e f.1)) in
      (f.0, after_u r f.0 (λ e. (d u v r p.pinch.first).1 (sym e)) xv f.1)

  pub new_sv : (c : ℕ) × Face (collapsed_tris u v ts) s v c
  new_sv =
      let f = before_s ts u v r s mid d one p in
      let yv : f.0 ≢ v = λ e. r_not_s ts u v r s mid d one p (sym (is_r s (subst (λ z. Face ts u z s) e f.1))) in
      let g = after_u f.0 s yv (d u s v p.pinch.last).1 f.1 in
      (f.0, Face_back (collapsed_tris u v ts) v f.0 s g)

  -- a face that goes has both names, one of them at its edge
  pub gone : (P : Type 0) (a b c : ℕ) → a ≢ u → b ≢ u → Face ts a b c → Among u a b c → Among v a b c → ((a ≡ v) × (b ≡ r) → P) → ((a ≡ s) × (b ≡ v) → P) → P
  gone P a b c au bu f (inl e) j at_r at_s = absurd (au (sym e))
  gone P a b c au bu f (inr (inl e)) j at_r at_s = absurd (bu (sym e))
  gone P a b c au bu f (inr (inr e)) (inl g) at_r at_s = at_r (sym g, is_r b (three ts c a b u v b (sym e) (sym g) refl (Face_back ts a b c f)))
  gone P a b c au bu f (inr (inr e)) (inr (inl g)) at_r at_s = at_s (is_s a (three ts c a b u a v (sym e) refl (sym g) (Face_back ts a b c f)), sym g)
  gone P a b c au bu f (inr (inr e)) (inr (inr g)) at_r at_s = absurd (uv (e ∙ sym g))

  -- ---- where an edge comes from
  -- a border edge stays one
  pub border_to : (a b : ℕ) → IsBorder ts a b → IsBorder (collapsed_tris u v ts) a b
  border_to a b is =
      let c = is.there.0 in
      let f = is.there.1 in
      let au : a ≢ u = λ e. let y = prev_round b c (subst (λ z. Face ts z b c) e f) in is.alone y.0 (subst (λ z. Face ts b z y.0) (sym e) (Face_back ts u y.0 b y.1)) in
      let bu : b ≢ u = λ e. let x = next_round c a (Face_turn ts a u c (subst (λ z. Face ts a z c) e f)) in is.alone x.0 (subst (λ z. Face ts z a x.0) (sym e) x.1) in
      record {
        there = elim (apart_or u v a b c) [
          | inl n ↦ (renamed u v c, after a b c au bu f n)
          | inr (i, j) ↦ gone ((z : ℕ) × Face (collapsed_tris u v ts) a b z) a b c au bu f i j
              (λ e. (new_vr.0, three (collapsed_tris u v ts) v r new_vr.0 a b new_vr.0 (sym e.0) (sym e.1) refl new_vr.1))
              (λ e. (new_sv.0, three (collapsed_tris u v ts) s v new_sv.0 a b new_sv.0 (sym e.0) (sym e.1) refl new_sv.1))
        ];
        alone = λ z g.
            let k = face_before ts u v b a z g in
            elim (cases_eq k.x u) [
              | inl xu ↦
                  let bv : b ≡ v = sym k.ax ∙ ap (renamed u v) xu ∙ renamed-same u v in
                  let yu : k.y ≢ u = λ e. (d k.x k.y k.z k.face).0 (xu ∙ sym e) in
                  let ya : k.y ≡ a = sym (renamed-other u v k.y yu) ∙ k.by in
                  let h : Face ts u a k.z = three ts k.x k.y k.z u a k.z xu ya refl k.face in
                  let near_v : Near ts v a = (c, inr (Face_turn ts a v c (three ts a b c a v c refl bv refl f))) in
                  elim (p.pinch.only a (k.z, inl h) near_v) [
                    | inl ar ↦ is.alone u (three ts v r u b a u (sym bv) (sym ar) refl vr)
                    | inr as' ↦ k.apart (inl (sym xu)) (inr (inr (sym (one u s k.z v (subst (λ n. Face ts u n k.z) as' h) p.pinch.last))))
                  ]
              | inr xu ↦
                  let xb : k.x ≡ b = sym (renamed-other u v k.x xu) ∙ k.ax in
                  elim (cases_eq k.y u) [
                    | inl yu ↦
                        let av : a ≡ v = sym k.by ∙ ap (renamed u v) yu ∙ renamed-same u v in
                        let h : Face ts b u k.z = three ts k.x k.y k.z b u k.z xb yu refl k.face in
                        let near_u : Near ts u b = (k.z, inr (Face_turn ts b u k.z h)) in
                        let near_v : Near ts v b = (c, inl (three ts a b c v b c av refl refl f)) in
                        elim (p.pinch.only b near_u near_v) [
                          | inl br ↦ k.apart (inr (inl (sym yu))) (inr (inr (sym (one r u k.z v (subst (λ n. Face ts n u k.z) br h) (Face_back ts u v r p.pinch.first)))))
                          | inr bs ↦ is.alone u (three ts s v u b a u (sym bs) (sym av) refl sv)
                        ]
                    | inr yu ↦
                        let ya : k.y ≡ a = sym (renamed-other u v k.y yu) ∙ k.by in
                        is.alone k.z (three ts k.x k.y k.z b a k.z xb ya refl k.face)
                  ]
            ];
      }

  -- no name is renamed to u
  pub not_u : (x n : ℕ) → renamed u v x ≡ n → n ≢ u
  not_u x n e f = elim (cases_eq x u) [ inl g ↦ uv (sym (sym (renamed-same u v) ∙ ap (renamed u v) (sym g) ∙ e ∙ f)) | inr g ↦ g (sym (renamed-other u v x g) ∙ e ∙ f) ]

  -- the other way of a border edge is in no face either, before
  alone_before : (a b : ℕ) → a ≢ u → b ≢ u → ((z : ℕ) → Face (collapsed_tris u v ts) b a z → ⊥) → (z : ℕ) → Face ts b a z → ⊥
  alone_before a b au bu alone z h =
      elim (apart_or u v b a z) [
        | inl n ↦ alone (renamed u v z) (after b a z bu au h n)
        | inr (i, j) ↦ gone ⊥ b a z bu au h i j
            (λ e. alone new_vr.0 (three (collapsed_tris u v ts) v r new_vr.0 b a new_vr.0 (sym e.0) (sym e.1) refl new_vr.1))
            (λ e. alone new_sv.0 (three (collapsed_tris u v ts) s v new_sv.0 b a new_sv.0 (sym e.0) (sym e.1) refl new_sv.1))
      ]

  -- a border edge was one
  pub border_from : (a b : ℕ) → IsBorder (collapsed_tris u v ts) a b → IsBorder ts a b
  border_from a b is =
      let k = face_before ts u v a b is.there.0 is.there.1 in
      let au = not_u k.x a k.ax in
      let bu = not_u k.y b k.by in
      let alone = alone_before a b au bu is.alone in
      record {
        there = elim (cases_eq k.x u) [
          | inl xu ↦
              let av : a ≡ v = sym k.ax ∙ ap (renamed u v) xu ∙ renamed-same u v in
              let yu : k.y ≢ u = λ e. (d k.x k.y k.z k.face).0 (xu ∙ sym e) in
              let yb : k.y ≡ b = sym (renamed-other u v k.y yu) ∙ k.by in
              let h : Face ts u b k.z = three ts k.x k.y k.z u b k.z xu yb refl k.face in
              let bv : b ≢ v = λ e. k.apart (inl (sym xu)) (inr (inl (sym (yb ∙ e)))) in
              let y = prev_round b k.z h in
              elim (cases_eq y.0 v) [
                | inl yv ↦
                    let br : b ≡ r = is_r b (subst (λ n. Face ts u n b) yv y.1) in
                    (u, three ts v r u a b u (sym av) (sym br) refl vr)
                | inr yv ↦
                    let g = after_u y.0 b yv bv y.1 in
                    absurd (is.alone y.0 (subst (λ n. Face (collapsed_tris u v ts) b n y.0) (sym av) (Face_back (collapsed_tris u v ts) v y.0 b g)))
              ]
          | inr xu ↦
              let xa : k.x ≡ a = sym (renamed-other u v k.x xu) ∙ k.ax in
              elim (cases_eq k.y u) [
                | inl yu ↦
                    let bv : b ≡ v = sym k.by ∙ ap (renamed u v) yu ∙ renamed-same u v in
                    let h : Face ts a u k.z = three ts k.x k.y k.z a u k.z xa yu refl k.face in
                    let av : a ≢ v = λ e. k.apart (inr (inl (sym yu))) (inl (sym (xa ∙ e))) in
                    let x = next_round k.z a (Face_turn ts a u k.z h) in
                    elim (cases_eq x.0 v) [
                      | inl xv ↦
                          let is_a : a ≡ s = is_s a (subst (λ n. Face ts u a n) xv x.1) in
                          (u, three ts s v u a b u (sym is_a) (sym bv) refl sv)
                      | inr xv ↦ absurd (is.alone x.0 (subst (λ n. Face (collapsed_tris u v ts) n a x.0) (sym bv) (after_u a x.0 av xv x.1)))
                    ]
                | inr yu ↦
                    let yb : k.y ≡ b = sym (renamed-other u v k.y yu) ∙ k.by in
                    (k.z, three ts k.x k.y k.z a b k.z xa yb refl k.face)
              ]
        ];
        alone = alone;
      }

  -- the border stays
  pub border_collapsed : border_edges (collapsed_tris u v ts) ≡ border_edges ts
  border_collapsed = same_border (collapsed_tris u v ts) ts border_from border_to

-- two triangles go
pub two_lost : (ts : List Tri) (u v r s : ℕ) → u ≢ v → AllByRecursion IsProper ts → AreOnce ts → Face ts u v r → Face ts v u s → length (collapsed_tris u v ts) + 2 ≡ length ts
unfolding collapsed_tris
two_lost ts u v r s uv proper once f g =
    let kept = filter (λ t. not (has_both u v t)) ts in
    let put : Tri → Tri = λ t. turned (substituted u v t) in
    omega (
      arith,
      length-in_order tri_cmp (map put kept),
      length-map kept put,
      length-filter_both (has_both u v) (λ t. not (has_both u v t)) (λ _. refl) ts,
      tally_both u v ts uv proper,
      once (step u v),
      once (step v u),
      face_tally ts u v r f,
      face_tally ts v u s g,
    )

module _ (ts : List Tri) (u v r s : ℕ) (mid : List ℕ) (uv : u ≢ v) (d : Different ts) (one : Unique ts) (p : Pinched ts u v r s mid) where
  -- the ring of u, from v on
  names : List ℕ
  names = v ∷ (r ∷ mid ++ s ∷ [])

  -- the triangles afterwards
  pub us : List Tri
  us = collapsed_tris u v ts

  -- which name of the ring it is
  by_name : (P : Type 0) (n : ℕ) → n ∈ v ∷ (r ∷ mid ++ s ∷ []) → (n ≡ v → P) → (n ≡ r → P) → (n ≡ s → P) → (n ∈ mid → P) → P
  by_name P n (inl e) of_v of_r of_s of_mid = of_v e
  by_name P n (inr (inl e)) of_v of_r of_s of_mid = of_r e
  by_name P n (inr (inr j)) of_v of_r of_s of_mid = elim (append_cases n mid (s ∷ []) j) [ inl k ↦ of_mid k | inr (inl e) ↦ of_s e | inr (inr k) ↦ absurd k ]

  -- the edge was there, or leads between v and a name of the middle
  Gained : ℕ → ℕ → Type 0
  Gained a b = HasEdge ts a b ⊎ (((a ≡ v) × Contains mid b) ⊎ ((b ≡ v) × Contains mid a))

  -- where an edge comes from
  edge_to : (a b : ℕ) → HasEdge us a b → (a ≢ u) × (b ≢ u) × Gained a b
  unfolding us Gained
  edge_to a b h =
      let f = of_edge us a b h in
      let k = face_before ts u v a b f.0 f.1 in (
        not_u ts u v r s mid uv d one p k.x a k.ax,
        not_u ts u v r s mid uv d one p k.y b k.by,
        elim (cases_eq k.x u) [
          | inl xu ↦
              let av : a ≡ v = sym k.ax ∙ ap (renamed u v) xu ∙ renamed-same u v in
              let yu : k.y ≢ u = λ e. (d k.x k.y k.z k.face).0 (xu ∙ sym e) in
              let yb : k.y ≡ b = sym (renamed-other u v k.y yu) ∙ k.by in
              let g : Face ts u b k.z = three ts k.x k.y k.z u b k.z xu yb refl k.face in
              by_name (Gained a b) b (on_near ts u (ring true (v ∷ (r ∷ mid ++ s ∷ []))) b k.z p.around_u g).0
              (λ e. absurd (k.apart (inl (sym xu)) (inr (inl (sym (yb ∙ e))))))
              (λ e. inl (edge_of ts a b u (three ts v r u a b u (sym av) (sym e) refl (vr ts u v r s mid uv d one p))))
              (λ e. absurd (k.apart (inl (sym xu)) (inr (inr (sym (one u s k.z v (subst (λ n. Face ts u n k.z) e g) p.pinch.last))))))
              (λ i. inr (inl (av, in_contains mid b i)))
          | inr xu ↦
              let xa : k.x ≡ a = sym (renamed-other u v k.x xu) ∙ k.ax in
              elim (cases_eq k.y u) [
                | inl yu ↦
                    let bv : b ≡ v = sym k.by ∙ ap (renamed u v) yu ∙ renamed-same u v in
                    let g : Face ts a u k.z = three ts k.x k.y k.z a u k.z xa yu refl k.face in
                    by_name (Gained a b) a (on_near ts u (ring true (v ∷ (r ∷ mid ++ s ∷ []))) k.z a p.around_u (Face_turn ts a u k.z g)).1
                    (λ e. absurd (k.apart (inr (inl (sym yu))) (inl (sym (xa ∙ e)))))
                    (λ e. absurd (k.apart (inr (inl (sym yu))) (inr (inr (sym (one r u k.z v (subst (λ n. Face ts n u k.z) e g) (Face_back ts u v r p.pinch.first)))))))
                    (λ e. inl (edge_of ts a b u (three ts s v u a b u (sym e) (sym bv) refl (sv ts u v r s mid uv d one p))))
                    (λ i. inr (inr (bv, in_contains mid a i)))
                | inr yu ↦ inl (edge_of ts a b k.z (three ts k.x k.y k.z a b k.z xa (sym (renamed-other u v k.y yu) ∙ k.by) refl k.face))
              ]
        ],
      )

  -- a name between has another before it and one behind it, neither of which is v
  mid_apart : (n : ℕ) → n ∈ mid → (n ≢ v) × (n ≢ r) × (n ≢ s)
  mid_apart n i =
      let dist = distinct_u ts u v r s mid d one p in (
        (λ e. dist.0 (inr (append_left v mid (s ∷ []) (subst (λ z. z ∈ mid) e i)))),
        (λ e. dist.1.0 (append_left r mid (s ∷ []) (subst (λ z. z ∈ mid) e i))),
        (λ e. (distinct_parts mid (s ∷ []) dist.1.1).2 n i (inl e)),
      )

  -- a name of the middle has a face of u on both sides
  round_mid : (n : ℕ) → n ∈ mid → ((x : ℕ) × Face ts u n x) × ((y : ℕ) × Face ts u y n)
  round_mid n i =
      let near = near_on ts u (ring true (v ∷ (r ∷ mid ++ s ∷ []))) n p.around_u (inr (inr (append_left n mid (s ∷ []) i))) in
      elim near.1 [
        | inl f ↦ ((near.0, f), prev_round ts u v r s mid uv d one p n near.0 f)
        | inr f ↦ (next_round ts u v r s mid uv d one p near.0 n f, (near.0, f))
      ]

  -- and where it goes
  edge_from : (a b : ℕ) → (a ≢ u) × (b ≢ u) × Gained a b → HasEdge us a b
  unfolding us Gained
  edge_from a b (au, bu, inl h) =
      let f = of_edge ts a b h in
      elim (apart_or u v a b f.0) [
        | inl n ↦ edge_of us a b (renamed u v f.0) (after ts u v r s mid uv d one p a b f.0 au bu f.1 n)
        | inr (i, j) ↦ gone ts u v r s mid uv d one p (HasEdge us a b) a b f.0 au bu f.1 i j
            (λ e. let g = new_vr ts u v r s mid uv d one p in edge_of us a b g.0 (three us v r g.0 a b g.0 (sym e.0) (sym e.1) refl g.1))
            (λ e. let g = new_sv ts u v r s mid uv d one p in edge_of us a b g.0 (three us s v g.0 a b g.0 (sym e.0) (sym e.1) refl g.1))
      ]
  edge_from a b (au, bu, inr (inl (av, h))) =
      let i = contains_in mid b h in
      let n = mid_apart b i in
      let x = (round_mid b i).0 in
      let xv : x.0 ≢ v = λ e. n.2 (is_s ts u v r s mid uv d one p b (subst (λ z. Face ts u b z) e x.1)) in
      edge_of us a b x.0 (three us v b x.0 a b x.0 (sym av) refl refl (after_u ts u v r s mid uv d one p b x.0 n.0 xv x.1))
  edge_from a b (au, bu, inr (inr (bv, h))) =
      let i = contains_in mid a h in
      let n = mid_apart a i in
      let y = (round_mid a i).1 in
      let yv : y.0 ≢ v = λ e. n.1 (is_r ts u v r s mid uv d one p a (subst (λ z. Face ts u z a) e y.1)) in
      let g = after_u ts u v r s mid uv d one p y.0 a yv n.0 y.1 in
      edge_of us a b y.0 (three us a v y.0 a b y.0 refl (sym bv) refl (Face_back us v y.0 a g))

  -- the directed edges after the collapse
  pub collapses_edges : CollapsesEdges ts (collapsed_tris u v ts) u v mid
  unfolding us Gained
  collapses_edges a b = (edge_to a b, edge_from a b)
