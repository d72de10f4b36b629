-- A collapse on a list of triangles, and on its half-edges.
use Rattle.std.proofs.Common.{◌≡◌, ◌≢◌, ◌⊎◌, ℕ, Bool, true, false, cond, not, ◌&&◌, ◌||◌, eqb, List, [], ◌∷◌, Option}
use Rattle.std.proofs.Common.{Some, None, is_some, sym, ap, ◌∙◌, refl, subst, arith, inl, inr}
use Rattle.std.proofs.lemmas.Bool.{false≢true, eqb-true, eq-eqb, ne_eqb, and_parts, or_cases, or_left, or_right}
use Rattle.std.proofs.lemmas.Bool.{false_from_ne_true, cases_eq}
use Rattle.std.specs.BTreeMap.{BTreeMap, keys}
use Rattle.std.specs.List.{list_any}
use Rattle.std.specs.Option.{option_map}
use Rattle.mesh_data.specs.declared.geometry.Tri.{Tri}
use Rattle.mesh_data.specs.declared.geometry.Edge.{Edge}
use Rattle.mesh_data.specs.declared.rings.Ring.{Ring}
use Rattle.mesh_data.specs.Edits.{collapsed_tris}
use Rattle.mesh_data.specs.Links.{has_both}
use Rattle.mesh_data.specs.Manifold.{HasRing}
use Rattle.mesh_data.specs.Rings.{link, has_path_edge, IsRingOf}
use Rattle.mesh_data.specs.Triangles.{same_edge, has_corner}
use Rattle.triangle_lists.proofs.Walks.{step, steps_to, same_itself}
use Rattle.oemm_lists.specs.Numbers.{among}
use Rattle.triangle_lists.proofs.RingLaws.{ring, on_path, ring_at, starts_on_ring}
use Rattle.triangle_lists.proofs.Candidates.{found_by_going}
use Rattle.half_edge.specs.declared.surgery.Half.{Half}
use Rattle.half_edge.specs.Halves.{Slots, at, from_next, HasFace, Goes, IsSound, next_key, faces_of}
use Rattle.half_edge.specs.Collapses.{tri, Cut, cut_keys, IsCut, CanCut, IsAfter}
use Rattle.half_edge.specs.Meshes.{out_at, set_at, IsFit, IsMesh}
use Rattle.mesh_data.specs.RingChanges.{IsOriented, MayCollapse}
use Rattle.half_edge.proofs.Bridges.{can_cut}
use Rattle.half_edge.proofs.Collapsed.{moved, there_after, outer_ua, outer_bu, alive, next_kept}
use Rattle.half_edge.proofs.Cuts.{IsKept, AreApart, corner_cases, inner_edge, names_apart, renamed_u, renamed_not}
use Rattle.half_edge.proofs.Faces.{is_tri, turns_tri, is_face, is_tri_itself, half_of_face, link_step}
use Rattle.half_edge.proofs.HeldKeys.{key_is, is_some-set_at}
use Rattle.half_edge.specs.Rings.{third_name}
use Rattle.half_edge.proofs.Sound.{goes}

-- ---- where the names are neighbours, v is on the ring of u

ends_on_ring : (home x : ℕ) (ns : List ℕ) (d f : ℕ) → has_path_edge (steps_to true home x ns) (step d f) ≡ true →
    (f ≡ home) ⊎ (among f ns ≡ true)
ends_on_ring home x [] d f on =
    elim (or_cases (same_edge (step d f) (step x home)) false on) [
      | inl it ↦
          inl (eqb-true f home (and_parts (eqb d x) (eqb f home) it).1)
      | inr never ↦ absurd (false≢true never)
    ]
ends_on_ring home x (y ∷ ns) d f on =
    elim (or_cases (same_edge (step d f) (step x y)) (has_path_edge (steps_to true home y ns) (step d f)) on) [
      | inl it ↦ inr (or_left (eqb y f) (among f ns)
          (eq-eqb y f (sym (eqb-true f y (and_parts (eqb d x) (eqb f y) it).1))))
      | inr later ↦ elim (ends_on_ring home y ns d f later) [
        | inl back ↦ inl back
        | inr more ↦
            inr (or_right (eqb y f) (among f ns) more)
      ]
    ]

-- a triangle with both names, from one of them on
pub both_face : (u v : ℕ) (ts : List Tri) → list_any (has_both u v) ts ≡ true → u ≢ v →
    ((x : ℕ) × (is_face ts u v x ≡ true)) ⊎ ((x : ℕ) × (is_face ts u x v ≡ true))
both_face u v [] h n = absurd (false≢true h)
both_face u v (t ∷ ts) h n =
    elim (or_cases (has_both u v t) (list_any (has_both u v) ts) h) [
      | inl here ↦ elim (here_face (and_parts (has_corner u t) (has_corner v t) here).0
          (and_parts (has_corner u t) (has_corner v t) here).1) [
            | inl one ↦ inl (one.0, or_left (turns_tri u v one.0 t) _ one.1)
            | inr two ↦ inr (two.0, or_left (turns_tri u two.0 v t) _ two.1)
          ]
      | inr later ↦ elim (both_face u v ts later n) [
        | inl one ↦ inl (one.0, or_right (turns_tri u v one.0 t) _ one.1)
        | inr two ↦ inr (two.0, or_right (turns_tri u two.0 v t) _ two.1)
      ]
    ]
  where
    first : (x y z : ℕ) → t.a ≡ x → t.b ≡ y → t.c ≡ z → turns_tri x y z t ≡ true
    first x y z a b c = or_left (is_tri x y z t || is_tri x y z (from_next t)) _
        (or_left (is_tri x y z t) _ (is_tri_itself x y z t (λ i. record { a = a i; b = b i; c = c i })))

    second : (x y z : ℕ) → t.b ≡ x → t.c ≡ y → t.a ≡ z → turns_tri x y z t ≡ true
    second x y z b c a = or_left (is_tri x y z t || is_tri x y z (from_next t)) _
        (or_right (is_tri x y z t) _ (is_tri_itself x y z (from_next t) (λ i. record { a = b i; b = c i; c = a i })))

    third : (x y z : ℕ) → t.c ≡ x → t.a ≡ y → t.b ≡ z → turns_tri x y z t ≡ true
    third x y z c a b = or_right (is_tri x y z t || is_tri x y z (from_next t)) _
        (is_tri_itself x y z (from_next (from_next t)) (λ i. record { a = c i; b = a i; c = b i }))

    here_face : has_corner u t ≡ true → has_corner v t ≡ true →
        ((x : ℕ) × (turns_tri u v x t ≡ true)) ⊎ ((x : ℕ) × (turns_tri u x v t ≡ true))
    here_face hu hv =
        elim (corner_cases u t hu) [
          | inl ua ↦ elim (corner_cases v t hv) [
            | inl va ↦ absurd (n (sym ua ∙ va))
            | inr more ↦ elim more [
              | inl vb ↦ inl (t.c, first u v t.c ua vb refl)
              | inr vc ↦
                  inr (t.b, first u t.b v ua refl vc)
            ]
          ]
          | inr later ↦ elim later [
            | inl ub ↦ elim (corner_cases v t hv) [
              | inl va ↦ inr (t.c, second u t.c v ub refl va)
              | inr more ↦ elim more [
                | inl vb ↦ absurd (n (sym ub ∙ vb))
                | inr vc ↦
                    inl (t.a, second u v t.a ub vc refl)
              ]
            ]
            | inr uc ↦ elim (corner_cases v t hv) [
              | inl va ↦ inl (t.b, third u v t.b uc va refl)
              | inr more ↦ elim more [
                | inl vb ↦ inr (t.a, third u t.a v uc refl vb)
                | inr vc ↦
                    absurd (n (sym uc ∙ vc))
              ]
            ]
          ]
        ]

ring_names : (es : List Edge) (u v : ℕ) (r : Ring) (ns : List ℕ) → IsRingOf es (ring true ns) →
    ((x : ℕ) × (has_path_edge es (step v x) ≡ true)) ⊎ ((x : ℕ) × (has_path_edge es (step x v) ≡ true)) →
    (ms : List ℕ) × IsRingOf es (ring true (v ∷ ms))
ring_names es u v r [] is on = absurd (omega (arith, is.long))
ring_names es u v r (x ∷ ns) is (inl on) = ring_at es (x ∷ ns) v is (starts_on_ring es true x ns is (step v on.0) on.1)
ring_names es u v r (x ∷ ns) is (inr on) =
    ring_at es (x ∷ ns) v is (elim (ends_on_ring x x ns on.0 v (sym (on_path es true x ns is (step on.0 v)) ∙ on.1)) [
      | inl back ↦ or_left (eqb x v) _ (eq-eqb x v (sym back))
      | inr more ↦ or_right (eqb x v) _ more
    ])

closed_ring : (es : List Edge) (r : Ring) → r.closed ≡ true → IsRingOf es r → IsRingOf es (ring true r.names)
closed_ring es r closed is = subst (λ (b : Bool). IsRingOf es (ring b r.names)) closed is

pub ring_from_v : (s : Slots) (u v : ℕ) → MayCollapse (faces_of s) u v →
    (ms : List ℕ) × IsRingOf (link u (faces_of s)) (ring true (v ∷ ms))
ring_from_v s u v may =
    let ts = faces_of s in
    let es = link u ts in
    let found = found_by_going es may.closed in
    let on : ((x : ℕ) × (has_path_edge es (step v x) ≡ true)) ⊎ ((x : ℕ) × (has_path_edge es (step x v) ≡ true)) =
    elim (both_face u v ts may.near may.differ) [
      | inl one ↦ inl (one.0, link_step ts u v one.0 ∙ one.1)
      | inr two ↦ inr (two.0, link_step ts u two.0 v ∙ two.1)
    ] in
    ring_names es u v found.0 found.0.names (closed_ring es found.0 found.1 found.2) on

-- there is a half-edge from u to v
pub edge_there : (s : Slots) (u v : ℕ) → IsSound s → MayCollapse (faces_of s) u v → (k : ℕ) × Goes s k u v
edge_there s u v sound may = by_names (ring_from_v s u v may).0 (ring_from_v s u v may).1
  where
    by_names : (ms : List ℕ) → IsRingOf (link u (faces_of s)) (ring true (v ∷ ms)) → (k : ℕ) × Goes s k u v
    by_names [] r = absurd (omega (arith, r.long))
    by_names (x ∷ ms) r =
        let on : has_path_edge (link u (faces_of s)) (step v x) ≡ true =
        on_path (link u (faces_of s)) true v (x ∷ ms) r (step v x)
        ∙ or_left (same_edge (step v x) (step v x)) _ (same_itself (step v x)) in
        let half = half_of_face s u v x sound (sym (link_step (faces_of s) u v x) ∙ on) in
        (half.0, goes s half.0 (tri u v x) half.1)

-- and it can be cut
pub may_cut : (s : Slots) (u v e : ℕ) → IsSound s → MayCollapse (faces_of s) u v → Goes s e u v → CanCut s u v e
may_cut s u v e sound may go = let r = ring_from_v s u v may in can_cut s u v e r.0 sound may.differ go r.1 may.unshared

-- ---- the keys of held names

goes_moved : (s r : Slots) (u v a b : ℕ) (c : Cut) (k : ℕ) (h : Half) (x : ℕ) → IsCut s u v a b c → IsAfter s r u v c →
    IsKept s u v k h → (x ≡ h.face.a) ⊎ ((h.face.a ≡ u) × (x ≡ v)) → x ≢ u → (y : ℕ) × Goes r k x y
goes_moved s r u v a b c k h x cut after kept which n =
    let new = moved u v c k h in
    let first : new.face.a ≡ x = elim which [
      | inl same ↦ renamed_not u v h.face.a (λ e. n (same ∙ e)) ∙ sym same
      | inr two ↦ renamed_u u v h.face.a two.0 ∙ sym two.1
    ] in
    (new.face.b, (new, there_after s r u v a b c k h cut after kept, first, refl))

pub fit_after : (s r : Slots) (u v a b : ℕ) (c : Cut) (m n : BTreeMap ℕ ℕ) → IsCut s u v a b c → IsAfter s r u v c →
    IsFit s m
    → ((w : ℕ) → out_at n w ≡ set_at b c.t w
    (set_at a (next_key s c.q) w (set_at v c.q w (cond (eqb w u) None (out_at m w))))) → IsFit r n
fit_after s r u v a b c m n cut after fit outs w k here =
    elim (cases_eq w b) [
      | inl wb ↦
          let is : k ≡ c.t = set_told w b c.t _ wb (sym (outs w) ∙ here) in
          subst (λ g. (y : ℕ) × Goes r g w y) (sym is)
          (goes_moved s r u v a b c c.t cut.t.0 w cut after kept_t (inl (wb ∙ sym cut.t.2))
          (λ e. n_all.ub (sym e ∙ wb)))
      | inr nb ↦ elim (cases_eq w a) [
        | inl wa ↦
            let is : k ≡ next_key s c.q =
            set_told w a (next_key s c.q) _ wa (sym (set_other w b c.t _ nb) ∙ sym (outs w) ∙ here) in
            subst (λ g. (y : ℕ) × Goes r g w y) (sym is)
            (goes_moved s r u v a b c (next_key s c.q) next_q.0 w cut after (kept_next next_q.0 next_q.1)
            (inl (wa ∙ sym next_q.2)) (λ e. n_all.ua (sym e ∙ wa)))
        | inr na ↦ elim (cases_eq w v) [
          | inl wv ↦
              let is : k ≡ c.q = set_told w v c.q _ wv (sym (set_other w a (next_key s c.q) _ na)
              ∙ sym (set_other w b c.t _ nb) ∙ sym (outs w) ∙ here) in
              subst (λ g. (y : ℕ) × Goes r g w y) (sym is)
              (goes_moved s r u v a b c c.q cut.q.0 w cut after kept_q (inr (cut.q.2, wv))
              (λ e. n_all.uv (sym e ∙ wv)))
          | inr nv ↦
              let plain : cond (eqb w u) None (out_at m w) ≡ Some k = sym (set_other w v c.q _ nv)
              ∙ sym (set_other w a (next_key s c.q) _ na) ∙ sym (set_other w b c.t _ nb) ∙ sym (outs w) ∙ here in
              elim (cases_eq w u) [
                | inl wu ↦ let none : None ≡ Some k = sym (ap (λ (z : Bool). cond z None (out_at m w)) (eq-eqb w u wu))
                    ∙ plain in absurd (cc)
                | inr nu ↦ old k nb na nv nu (sym (ap (λ (z : Bool). cond z None (out_at m w)) (ne_eqb w u nu)) ∙ plain)
              ]
        ]
      ]
    ]
  where
    set_told : (x y g : ℕ) (o : Option ℕ) → x ≡ y → set_at y g x o ≡ Some k → k ≡ g
    set_told x y g o same told =
        by_slot o (sym (ap (λ (z : Bool). cond z (option_map (λ (i : ℕ). g) o) o) (eq-eqb x y same)) ∙ told)
      where
        by_slot : (p : Option ℕ) → option_map (λ (i : ℕ). g) p ≡ Some k → k ≡ g
        by_slot None e = absurd (cc)
        by_slot (Some i) e = let same : g ≡ k = cc in sym same

    set_other : (x y g : ℕ) (o : Option ℕ) → x ≢ y → set_at y g x o ≡ o
    set_other x y g o n = ap (λ (z : Bool). cond z (option_map (λ (i : ℕ). g) o) o) (ne_eqb x y n)

    n_all : AreApart u v a b
    n_all = names_apart s u v a b c cut

    kept_t : IsKept s u v c.t cut.t.0
    kept_t = alive s u v a b c c.t b u cut (outer_bu u v a b n_all) cut.t

    kept_q : IsKept s u v c.q cut.q.0
    kept_q = alive s u v a b c c.q u a cut (outer_ua u v a b n_all) cut.q

    next_is : next_key s c.q ≡ cut.q.0.next
    next_is = ap (λ (o : Option Half). next_key (o ∷ []) 0) cut.q.1

    next_q : (i : Half) × (at s (next_key s c.q) ≡ Some i) × (i.face.a ≡ a)
    next_q = let turn = cut.sound.turns c.q cut.q.0 cut.q.1 in
        (turn.0, ap (at s) next_is ∙ turn.1, ap (λ (t : Tri). t.a) turn.2 ∙ cut.q.3)

    kept_next : (i : Half) → at s (next_key s c.q) ≡ Some i → IsKept s u v (next_key s c.q) i
    kept_next i there = subst (λ g. IsKept s u v g i) (sym next_is)
        (next_kept s u v c.q cut.q.0 i cut.sound kept_q (ap (at s) (sym next_is) ∙ there))

    old : (g : ℕ) → w ≢ b → w ≢ a → w ≢ v → w ≢ u → out_at m w ≡ Some g → (y : ℕ) × Goes r g w y
    old g nb na nv nu told =
        let go = (fit w g told).1 in
        let kept : IsKept s u v g go.0 = (go.1, keep go.0 go.1 go.2 nb na nv nu) in
        goes_moved s r u v a b c g go.0 w cut after kept (inl (sym go.2)) nu
      where
        keep : (h : Half) → at s g ≡ Some h → h.face.a ≡ w → w ≢ b → w ≢ a → w ≢ v → w ≢ u → has_both u v h.face ≡ false
        keep h there is nb na nv nu = false_from_ne_true (has_both u v h.face) (λ both.
            elim (inner_edge s u v a b c g h cut there both) [
              | inl e ↦ nu (sym is ∙ e.0)
              | inr r1 ↦ elim r1 [
                | inl e ↦ nv (sym is ∙ e.0)
                | inr r2 ↦ elim r2 [
                  | inl e ↦ na (sym is ∙ e.0)
                  | inr r3 ↦ elim r3 [
                    | inl e ↦ nv (sym is ∙ e.0)
                    | inr r4 ↦
                        elim r4 [ inl e ↦ nu (sym is ∙ e.0) | inr e ↦ nb (sym is ∙ e.0) ]
                  ]
                ]
              ]
            ])

-- ---- the whole

-- the keys of held names after a collapse
abbrev pub AreOutsAfter : BTreeMap ℕ ℕ → BTreeMap ℕ ℕ → ℕ → ℕ → ℕ → ℕ → ℕ → ℕ → ℕ → Type 0
AreOutsAfter m n u v a b q next t =
    (w : ℕ) → out_at n w ≡ set_at b t w (set_at a next w (set_at v q w (cond (eqb w u) None (out_at m w))))

pub outs_after : (m n1 n2 n3 n : BTreeMap ℕ ℕ) (u v a b q next t : ℕ)
    → ((w : ℕ) → out_at n1 w ≡ cond (eqb w u) None (out_at m w)) → ((w : ℕ) → out_at n2 w ≡ set_at v q w (out_at n1 w))
    → ((w : ℕ) → out_at n3 w ≡ set_at a next w (out_at n2 w)) → ((w : ℕ) → out_at n w ≡ set_at b t w (out_at n3 w)) →
    AreOutsAfter m n u v a b q next t
outs_after m n1 n2 n3 n u v a b q next t e1 e2 e3 e4 w =
    e4 w ∙ ap (set_at b t w) (e3 w ∙ ap (set_at a next w) (e2 w ∙ ap (set_at v q w) (e1 w)))

some_after : (m n : BTreeMap ℕ ℕ) (u v a b q next t w : ℕ) → AreOutsAfter m n u v a b q next t →
    is_some (out_at n w) ≡ is_some (cond (eqb w u) None (out_at m w))
some_after m n u v a b q next t w outs =
    ap is_some (outs w) ∙ is_some-set_at b t w _ ∙ is_some-set_at a next w _ ∙ is_some-set_at v q w _

pub held_after : (m n : BTreeMap ℕ ℕ) (u v a b q next t : ℕ) → AreOutsAfter m n u v a b q next t → (w : ℕ) →
    list_any (λ x. eqb x w) (keys n) ≡ (list_any (λ x. eqb x w) (keys m) && not (eqb w u))
held_after m n u v a b q next t outs w =
    key_is n w ∙ some_after m n u v a b q next t w outs
    ∙ elim (eqb w u) as (λ z. is_some (cond z None (out_at m w)) ≡ (is_some (out_at m w) && not z)) [
      | true ↦
          sym (and_false (is_some (out_at m w)))
      | false ↦ sym (and_true (is_some (out_at m w)))
    ]
    ∙ ap (λ (z : Bool). z && not (eqb w u)) (sym (key_is m w))
  where
    and_false : (z : Bool) → (z && false) ≡ false
    and_false true = refl
    and_false false = refl

    and_true : (z : Bool) → (z && true) ≡ z
    and_true true = refl
    and_true false = refl

was_held : (m n : BTreeMap ℕ ℕ) (u v a b q next t w k : ℕ) → AreOutsAfter m n u v a b q next t → out_at n w ≡ Some k →
    (g : ℕ) × (out_at m w ≡ Some g) × (w ≢ u)
was_held m n u v a b q next t w k outs here =
    by_slot (cases_eq w u) (out_at m w) refl (sym (some_after m n u v a b q next t w outs) ∙ ap is_some here)
  where
    by_slot : (w ≡ u) ⊎ (w ≢ u) → (o : Option ℕ) → out_at m w ≡ o → is_some (cond (eqb w u) None (out_at m w)) ≡ true →
        (g : ℕ) × (out_at m w ≡ Some g) × (w ≢ u)
    by_slot (inl e) o is h =
        absurd (false≢true (ap (λ (z : Bool). is_some (cond z None (out_at m w))) (sym (eq-eqb w u e)) ∙ h))
    by_slot (inr n1) None is h =
        absurd (false≢true (sym (ap is_some is) ∙ ap (λ (z : Bool). is_some (cond z None (out_at m w)))
        (sym (ne_eqb w u n1)) ∙ h))
    by_slot (inr n1) (Some g) is h = (g, is, n1)

pub third_at : (s : Slots) (k x y z : ℕ) → HasFace s k (tri x y z) → third_name s k ≡ z
third_at s k x y z h = ap (λ (o : Option Half). third_name (o ∷ []) 0) h.1 ∙ ap (λ (t : Tri). t.c) h.2

pub mesh_after : (s r : Slots) (u v e a b next : ℕ) (m n : BTreeMap ℕ ℕ) → CanCut s u v e →
    IsAfter s r u v (cut_keys s e) → IsSound r → faces_of r ≡ collapsed_tris u v (faces_of s) → IsMesh s m →
    IsOriented (collapsed_tris u v (faces_of s))
    → ((w k : ℕ) → w ≢ u → out_at m w ≡ Some k → HasRing (collapsed_tris u v (faces_of s)) w)
    → a ≡ third_name s e → b ≡ third_name s (cut_keys s e).m → next ≡ next_key s (cut_keys s e).q
    → AreOutsAfter m n u v a b (cut_keys s e).q next (cut_keys s e).t → IsMesh r n
mesh_after s r u v e a b next m n can after sound faces mesh oriented rings at_a at_b at_next outs =
    let c = cut_keys s e in
    let is_a : a ≡ can.a = at_a ∙ third_at s c.e u v can.a can.cut.e in
    let is_b : b ≡ can.b = at_b ∙ third_at s c.m v u can.b can.cut.m in
    record {
      sound = sound;
      oriented = subst IsOriented (sym faces) oriented;
      fit = fit_after s r u v can.a can.b c m n can.cut after mesh.fit
          (λ w. outs w ∙ (λ i.
          set_at (is_b i) c.t w (set_at (is_a i) (at_next i) w (set_at v c.q w (cond (eqb w u) None (out_at m w))))));
      ringed = λ w k here. let was = was_held m n u v a b c.q next c.t w k outs here in
          subst (λ (ts : List Tri). HasRing ts w) (sym faces) (rings w was.0 was.2 was.1);
    }

-- the same with what the code has read
pub mesh_after_read : (s r : Slots) (u v e a b next : ℕ) (c : Cut) (m n : BTreeMap ℕ ℕ) → c ≡ cut_keys s e →
    CanCut s u v e → IsAfter s r u v (cut_keys s e) → IsSound r → faces_of r ≡ collapsed_tris u v (faces_of s) →
    IsMesh s m → IsOriented (collapsed_tris u v (faces_of s))
    → ((w k : ℕ) → w ≢ u → out_at m w ≡ Some k → HasRing (collapsed_tris u v (faces_of s)) w)
    → a ≡ third_name s e → b ≡ third_name s c.m → next ≡ next_key s c.q → AreOutsAfter m n u v a b c.q next c.t →
    IsMesh r n
mesh_after_read s r u v e a b next c m n is can after sound faces mesh oriented rings at_a at_b at_next outs =
    mesh_after s r u v e a b next m n can after sound faces mesh oriented rings at_a
    (at_b ∙ ap (λ (x : Cut). third_name s x.m) is) (at_next ∙ ap (λ (x : Cut). next_key s x.q) is)
    (λ w. outs w ∙ ap (λ (x : Cut).
    set_at b x.t w (set_at a next w (set_at v x.q w (cond (eqb w u) None (out_at m w))))) is)
