-- Half-edges after a flip are sound, and make the list of triangles that the flip leaves.
use Rattle.std.proofs.Common.{◌≡◌, ◌≢◌, ◌⊎◌, ℕ, zero, suc, ◌+◌, ◌<◌, Bool, true, false, cond, not, List, [], ◌∷◌, ◌++◌}
use Rattle.std.proofs.Common.{map, length, set, Option, Some, None, is_some, unwrap_or, sym, ap, ◌∙◌, refl, subst}
use Rattle.std.proofs.Common.{arith, inl, inr}
use Rattle.std.proofs.lemmas.Bool.{eq-eqb, ne_eqb, and_from, both_ways, false_from_ne_true, cases_eq}
use Rattle.std.proofs.lemmas.List.{get_or-set_same, get_or-set_other, get_or_past, length-set}
use Rattle.std.specs.List.{filter, flat_map}
use Rattle.std.specs.BTreeMap.{BTreeMap}
use Rattle.std.specs.Option.{option_map}
use Rattle.mesh_data.specs.declared.geometry.Tri.{Tri}
use Rattle.mesh_data.specs.Edits.{flipped_tris}
use Rattle.mesh_data.specs.Links.{has_both, are_neighbours, opposites, apex}
use Rattle.mesh_data.specs.Triangles.{IsProper, has_corner, turned}
use Rattle.triangle_lists.proofs.Orders.{tri_cmp_total}
use Rattle.triangle_lists.proofs.Sorting.{weight, weight-in_order}
use Rattle.triangle_edits.proofs.Turns.{corner_a, corner_b, corner_c, ends_of, apexes_differ}
use Rattle.half_edge.specs.declared.surgery.Half.{Half}
use Rattle.half_edge.specs.Halves.{Slots, at, from_next, HasFace, Goes, IsTwin, IsSound, HasLead, altered, reset}
use Rattle.half_edge.specs.Halves.{next_key, twin_key, led_face, faces_of}
use Rattle.half_edge.specs.Collapses.{tri, Cut, cut_keys}
use Rattle.half_edge.specs.Flips.{CanFlip, slot_flipped, MayTurn}
use Rattle.mesh_data.specs.RingChanges.{IsOriented, MayFlip}
use Rattle.half_edge.specs.Meshes.{out_at, set_at, IsFit, IsMesh}
use Rattle.half_edge.proofs.Bridges.{both_of_half, face_of_apex}
use Rattle.half_edge.proofs.Cuts.{inner_edge_of, proper_of}
use Rattle.half_edge.proofs.Faces.{half_of_face}
use Rattle.half_edge.proofs.Fans.{next_key_face, twin_key_is}
use Rattle.half_edge.proofs.Leads.{led_after, in_order_alike, both_turned, both_next, weight_map, weight_filter}
use Rattle.half_edge.proofs.Merging.{third_at}
use Rattle.half_edge.proofs.HeldKeys.{is_some-set_at, some_of}
use Rattle.half_edge.specs.Rings.{third_name}
use Rattle.mesh_data.specs.Manifold.{HasRing}
use Rattle.half_edge.proofs.Sound.{one_half, goes, same_key}

-- ---- six changes at different keys

alt_same : (k : ℕ) (f : Half → Half) (j : ℕ) (o : Option Half) → j ≡ k → altered k f j o ≡ option_map f o
alt_same k f j o e = ap (λ (b : Bool). cond b (option_map f o) o) (eq-eqb j k e)

alt_other : (k : ℕ) (f : Half → Half) (j : ℕ) (o : Option Half) → j ≢ k → altered k f j o ≡ o
alt_other k f j o n = ap (λ (b : Bool). cond b (option_map f o) o) (ne_eqb j k n)

-- the keys of the two triangles before a flip, and what is at them
pub record Turned (s : Slots) (a b c d : ℕ) (k : Cut) : Type 0 where
  pub sound : IsSound s
  pub ends : a ≢ b
  pub apart : c ≢ d
  pub e : HasFace s k.e (tri a b c)
  pub f : HasFace s k.f (tri b c a)
  pub g : HasFace s k.g (tri c a b)
  pub m : HasFace s k.m (tri b a d)
  pub n : HasFace s k.n (tri a d b)
  pub o : HasFace s k.o (tri d b a)
  pub none : (j : ℕ) → Goes s j c d → ⊥
  pub none_back : (j : ℕ) → Goes s j d c → ⊥

pub turned_keys : (s : Slots) (a b c d e : ℕ) → CanFlip s a b c d e → Turned s a b c d (cut_keys s e)
turned_keys s a b c d e can =
    let sound = can.sound in
    let f = next_key s e in
    let face_f = next_key_face s e (tri a b c) sound can.face in
    let face_g = next_key_face s f (tri b c a) sound face_f in
    let is_m : unwrap_or (twin_key s e) 0 ≡ can.other =
    ap (λ (o : Option ℕ). unwrap_or o 0)
    (twin_key_is s e can.other (tri a b c) sound can.face (goes s can.other (tri b a d) can.face_other)) in
    let m = unwrap_or (twin_key s e) 0 in
    let face_m : HasFace s m (tri b a d) = subst (λ k. HasFace s k (tri b a d)) (sym is_m) can.face_other in
    let face_n = next_key_face s m (tri b a d) sound face_m in
    let face_o = next_key_face s (next_key s m) (tri a d b) sound face_n in
    record {
      sound = sound;
      ends = can.ends;
      apart = can.apart;
      e = can.face;
      f = face_f;
      g = face_g;
      m = face_m;
      n =
          face_n;
      o = face_o;
      none = can.none;
      none_back = can.none_back;
    }

module _ (s r : Slots) (a b c d : ℕ) (k : Cut) (t : Turned s a b c d k) (after : (j : ℕ) →
    at r j ≡ slot_flipped a b c d k j (at s j)) where
  ab : a ≢ b
  ab = t.ends

  face_e : IsProper (tri a b c)
  face_e = proper_of s k.e (tri a b c) t.sound t.e

  face_m : IsProper (tri b a d)
  face_m = proper_of s k.m (tri b a d) t.sound t.m

  bc : b ≢ c
  bc = face_e.1

  ca : c ≢ a
  ca = face_e.2

  ad : a ≢ d
  ad = face_m.1

  db : d ≢ b
  db = face_m.2

  -- keys of different edges differ
  differ_a : (i j : ℕ) (x y : Tri) → HasFace s i x → HasFace s j y → x.a ≢ y.a → i ≢ j
  differ_a i j x y hi hj n same =
      let there : at s j ≡ Some hi.0 = ap (at s) (sym same) ∙ hi.1 in
      let one = one_half s j hi.0 hj.0 there hj.1 in
      n (ap (λ (z : Tri). z.a) (sym hi.2) ∙ ap (λ (z : Half). z.face.a) one ∙ ap (λ (z : Tri). z.a) hj.2)

  differ_b : (i j : ℕ) (x y : Tri) → HasFace s i x → HasFace s j y → x.b ≢ y.b → i ≢ j
  differ_b i j x y hi hj n same =
      let there : at s j ≡ Some hi.0 = ap (at s) (sym same) ∙ hi.1 in
      let one = one_half s j hi.0 hj.0 there hj.1 in
      n (ap (λ (z : Tri). z.b) (sym hi.2) ∙ ap (λ (z : Half). z.face.b) one ∙ ap (λ (z : Tri). z.b) hj.2)

  pub en : k.e ≢ k.n
  en = differ_b k.e k.n (tri a b c) (tri a d b) t.e t.n (λ x. db (sym x))

  pub ef : k.e ≢ k.f
  ef = differ_a k.e k.f (tri a b c) (tri b c a) t.e t.f ab

  eg : k.e ≢ k.g
  eg = differ_a k.e k.g (tri a b c) (tri c a b) t.e t.g (λ x. ca (sym x))

  em : k.e ≢ k.m
  em = differ_a k.e k.m (tri a b c) (tri b a d) t.e t.m ab

  eo : k.e ≢ k.o
  eo = differ_a k.e k.o (tri a b c) (tri d b a) t.e t.o ad

  fg : k.f ≢ k.g
  fg = differ_a k.f k.g (tri b c a) (tri c a b) t.f t.g bc

  pub fm : k.f ≢ k.m
  fm = differ_b k.f k.m (tri b c a) (tri b a d) t.f t.m ca

  fn : k.f ≢ k.n
  fn = differ_a k.f k.n (tri b c a) (tri a d b) t.f t.n (λ x. ab (sym x))

  fo : k.f ≢ k.o
  fo = differ_a k.f k.o (tri b c a) (tri d b a) t.f t.o (λ x. db (sym x))

  gm : k.g ≢ k.m
  gm = differ_a k.g k.m (tri c a b) (tri b a d) t.g t.m (λ x. bc (sym x))

  gn : k.g ≢ k.n
  gn = differ_a k.g k.n (tri c a b) (tri a d b) t.g t.n ca

  go : k.g ≢ k.o
  go = differ_a k.g k.o (tri c a b) (tri d b a) t.g t.o t.apart

  pub mn : k.m ≢ k.n
  mn = differ_a k.m k.n (tri b a d) (tri a d b) t.m t.n (λ x. ab (sym x))

  mo : k.m ≢ k.o
  mo = differ_a k.m k.o (tri b a d) (tri d b a) t.m t.o (λ x. db (sym x))

  no_ : k.n ≢ k.o
  no_ = differ_a k.n k.o (tri a d b) (tri d b a) t.n t.o ad

  flip : {x y : ℕ} → x ≢ y → y ≢ x
  flip n e = n (sym e)

  to_m : Half → Half
  to_m = reset (tri c d b) false k.o

  to_f : Half → Half
  to_f = reset (tri b c d) false k.m

  to_o : Half → Half
  to_o = reset (tri d b c) true k.f

  to_g : Half → Half
  to_g = reset (tri c a d) false k.n

  to_e : Half → Half
  to_e = reset (tri d c a) false k.g

  to_n : Half → Half
  to_n = reset (tri a d c) true k.e

  pass : (l : ℕ) (f : Half → Half) (j : ℕ) (o x : Option Half) → j ≢ l → o ≡ x → altered l f j o ≡ x
  pass l f j o x n e = alt_other l f j o n ∙ e

  hit : (l : ℕ) (f : Half → Half) (j : ℕ) (o x : Option Half) → j ≡ l → o ≡ x → altered l f j o ≡ option_map f x
  hit l f j o x same e = alt_same l f j o same ∙ ap (option_map f) e

  abbrev level1 : ℕ → Option Half
  level1 j = altered k.n to_n j (at s j)

  abbrev level2 : ℕ → Option Half
  level2 j = altered k.e to_e j (level1 j)

  abbrev level3 : ℕ → Option Half
  level3 j = altered k.g to_g j (level2 j)

  abbrev level4 : ℕ → Option Half
  level4 j = altered k.o to_o j (level3 j)

  abbrev level5 : ℕ → Option Half
  level5 j = altered k.f to_f j (level4 j)

  abbrev level6 : ℕ → Option Half
  level6 j = altered k.m to_m j (level5 j)

  is_level : (j : ℕ) → at r j ≡ level6 j
  unfolding to_m to_f to_o to_g to_e to_n
  is_level j = after j

  -- what is at the six keys
  abbrev Hn : Half
  Hn = to_n t.n.0

  abbrev He : Half
  He = to_e t.e.0

  abbrev Hg : Half
  Hg = to_g t.g.0

  abbrev Ho : Half
  Ho = to_o t.o.0

  abbrev Hf : Half
  Hf = to_f t.f.0

  abbrev Hm : Half
  Hm = to_m t.m.0

  at_n : at r k.n ≡ Some Hn
  at_n = is_level k.n ∙ pass k.m to_m k.n (level5 k.n) (Some Hn) (flip mn)
      (pass k.f to_f k.n (level4 k.n) (Some Hn) (flip fn)
      (pass k.o to_o k.n (level3 k.n) (Some Hn) no_
      (pass k.g to_g k.n (level2 k.n) (Some Hn) (flip gn)
      (pass k.e to_e k.n (level1 k.n) (Some Hn) (flip en) (hit k.n to_n k.n (at s k.n) (Some t.n.0) refl t.n.1)))))

  at_e : at r k.e ≡ Some He
  at_e = is_level k.e ∙ pass k.m to_m k.e (level5 k.e) (Some He) em
      (pass k.f to_f k.e (level4 k.e) (Some He) ef
      (pass k.o to_o k.e (level3 k.e) (Some He) eo
      (pass k.g to_g k.e (level2 k.e) (Some He) eg
      (hit k.e to_e k.e (level1 k.e) (Some t.e.0) refl (pass k.n to_n k.e (at s k.e) (Some t.e.0) en t.e.1)))))

  at_g : at r k.g ≡ Some Hg
  at_g = is_level k.g ∙ pass k.m to_m k.g (level5 k.g) (Some Hg) gm
      (pass k.f to_f k.g (level4 k.g) (Some Hg) (flip fg)
      (pass k.o to_o k.g (level3 k.g) (Some Hg) go
      (hit k.g to_g k.g (level2 k.g) (Some t.g.0) refl
      (pass k.e to_e k.g (level1 k.g) (Some t.g.0) (flip eg) (pass k.n to_n k.g (at s k.g) (Some t.g.0) gn t.g.1)))))

  at_o : at r k.o ≡ Some Ho
  at_o = is_level k.o ∙ pass k.m to_m k.o (level5 k.o) (Some Ho) (flip mo)
      (pass k.f to_f k.o (level4 k.o) (Some Ho) (flip fo)
      (hit k.o to_o k.o (level3 k.o) (Some t.o.0) refl
      (pass k.g to_g k.o (level2 k.o) (Some t.o.0) (flip go)
      (pass k.e to_e k.o (level1 k.o) (Some t.o.0) (flip eo)
      (pass k.n to_n k.o (at s k.o) (Some t.o.0) (flip no_) t.o.1)))))

  at_f : at r k.f ≡ Some Hf
  at_f = is_level k.f ∙ pass k.m to_m k.f (level5 k.f) (Some Hf) fm
      (hit k.f to_f k.f (level4 k.f) (Some t.f.0) refl
      (pass k.o to_o k.f (level3 k.f) (Some t.f.0) fo
      (pass k.g to_g k.f (level2 k.f) (Some t.f.0) fg
      (pass k.e to_e k.f (level1 k.f) (Some t.f.0) (flip ef) (pass k.n to_n k.f (at s k.f) (Some t.f.0) fn t.f.1)))))

  at_m : at r k.m ≡ Some Hm
  at_m = is_level k.m ∙ hit k.m to_m k.m (level5 k.m) (Some t.m.0) refl
      (pass k.f to_f k.m (level4 k.m) (Some t.m.0) (flip fm)
      (pass k.o to_o k.m (level3 k.m) (Some t.m.0) mo
      (pass k.g to_g k.m (level2 k.m) (Some t.m.0) (flip gm)
      (pass k.e to_e k.m (level1 k.m) (Some t.m.0) (flip em) (pass k.n to_n k.m (at s k.m) (Some t.m.0) mn t.m.1)))))

  -- a key of another triangle
  record IsRest (j : ℕ) : Type 0 where
    not_e : j ≢ k.e
    not_f : j ≢ k.f
    not_g : j ≢ k.g
    not_m : j ≢ k.m
    not_n : j ≢ k.n
    not_o : j ≢ k.o

  at_rest : (j : ℕ) → IsRest j → at r j ≡ at s j
  at_rest j x = is_level j
      ∙ pass k.m to_m j (level5 j) (at s j) x.not_m
      (pass k.f to_f j (level4 j) (at s j) x.not_f
      (pass k.o to_o j (level3 j) (at s j) x.not_o
      (pass k.g to_g j (level2 j) (at s j) x.not_g
      (pass k.e to_e j (level1 j) (at s j) x.not_e (alt_other k.n to_n j (at s j) x.not_n)))))

  by_key : (P : ℕ → Type 0) → P k.n → P k.e → P k.g → P k.o → P k.f → P k.m → ((j : ℕ) → IsRest j → P j) → (j : ℕ) → P j
  by_key P pn pe pg po pf pm rest j =
      elim (cases_eq j k.n) [
        | inl x ↦ subst P (sym x) pn
        | inr xn ↦ elim (cases_eq j k.e) [
          | inl x ↦ subst P (sym x) pe
          | inr xe ↦ elim (cases_eq j k.g) [
            | inl x ↦ subst P (sym x) pg
            | inr xg ↦ elim (cases_eq j k.o) [
              | inl x ↦ subst P (sym x) po
              | inr xo ↦ elim (cases_eq j k.f) [
                | inl x ↦ subst P (sym x) pf
                | inr xf ↦ elim (cases_eq j k.m) [
                  | inl x ↦ subst P (sym x) pm
                  | inr xm ↦ rest j (record { not_e = xe; not_f = xf; not_g = xg; not_m = xm; not_n = xn; not_o = xo })
                ]
              ]
            ]
          ]
        ]
      ]

  by_half : (Q : ℕ → Half → Type 0) → Q k.n Hn → Q k.e He → Q k.g Hg → Q k.o Ho → Q k.f Hf → Q k.m Hm →
      ((j : ℕ) (h : Half) → at s j ≡ Some h → IsRest j → Q j h) → (j : ℕ) (h : Half) → at r j ≡ Some h → Q j h
  by_half Q qn qe qg qo qf qm rest =
      by_key (λ j. (h : Half) → at r j ≡ Some h → Q j h)
      (λ h is. subst (Q k.n) (one_half r k.n Hn h at_n is) qn)
      (λ h is. subst (Q k.e) (one_half r k.e He h at_e is) qe)
      (λ h is. subst (Q k.g) (one_half r k.g Hg h at_g is) qg)
      (λ h is. subst (Q k.o) (one_half r k.o Ho h at_o is) qo)
      (λ h is. subst (Q k.f) (one_half r k.f Hf h at_f is) qf)
      (λ h is. subst (Q k.m) (one_half r k.m Hm h at_m is) qm)
      (λ j x h is. rest j h (sym (at_rest j x) ∙ is) x)

  -- ---- which keys are others

  rest_lacks : (j : ℕ) (h : Half) → at s j ≡ Some h → IsRest j → has_both a b h.face ≡ false
  rest_lacks j h here x =
      false_from_ne_true (has_both a b h.face) (λ both.
      elim (inner_edge_of s a b c d k.e k.m j h t.sound t.ends t.e t.m here both) [
        | inl e ↦ x.not_e (sym (same_key s k.e j (tri a b c) t.sound t.e (h, here, e.0, e.1)))
        | inr r1 ↦ elim r1 [
          | inl e ↦ x.not_f (sym (same_key s k.f j (tri b c a) t.sound t.f (h, here, e.0, e.1)))
          | inr r2 ↦ elim r2 [
            | inl e ↦ x.not_g (sym (same_key s k.g j (tri c a b) t.sound t.g (h, here, e.0, e.1)))
            | inr r3 ↦ elim r3 [
              | inl e ↦ x.not_m (sym (same_key s k.m j (tri b a d) t.sound t.m (h, here, e.0, e.1)))
              | inr r4 ↦ elim r4 [
                | inl e ↦ x.not_n (sym (same_key s k.n j (tri a d b) t.sound t.n (h, here, e.0, e.1)))
                | inr e ↦ x.not_o (sym (same_key s k.o j (tri d b a) t.sound t.o (h, here, e.0, e.1)))
              ]
            ]
          ]
        ]
      ])

  both : (u : Tri) → has_corner a u ≡ true → has_corner b u ≡ true → has_both a b u ≡ true
  both u x y = and_from (has_corner a u) (has_corner b u) x y

  not_at : (j l : ℕ) (u : Tri) (h : Half) → at s j ≡ Some h → has_both a b h.face ≡ false → HasFace s l u →
      has_both a b u ≡ true → j ≢ l
  not_at j l u h here lacks there has same =
      let also : at s j ≡ Some there.0 = ap (at s) same ∙ there.1 in
      both_ways (has_both a b h.face) lacks (ap (λ (z : Half). has_both a b z.face) (one_half s j h there.0 here also)
      ∙ ap (has_both a b) there.2 ∙ has)

  lacks_rest : (j : ℕ) (h : Half) → at s j ≡ Some h → has_both a b h.face ≡ false → IsRest j
  lacks_rest j h here lacks =
      record {
        not_e = not_at j k.e (tri a b c) h here lacks t.e
            (both (tri a b c) (corner_a a (tri a b c) refl) (corner_b b (tri a b c) refl));
        not_f = not_at j k.f (tri b c a) h here lacks t.f
            (both (tri b c a) (corner_c a (tri b c a) refl) (corner_a b (tri b c a) refl));
        not_g = not_at j k.g (tri c a b) h here lacks t.g
            (both (tri c a b) (corner_b a (tri c a b) refl) (corner_c b (tri c a b) refl));
        not_m = not_at j k.m (tri b a d) h here lacks t.m
            (both (tri b a d) (corner_b a (tri b a d) refl) (corner_a b (tri b a d) refl));
        not_n = not_at j k.n (tri a d b) h here lacks t.n
            (both (tri a d b) (corner_a a (tri a d b) refl) (corner_c b (tri a d b) refl));
        not_o = not_at j k.o (tri d b a) h here lacks t.o
            (both (tri d b a) (corner_c a (tri d b a) refl) (corner_b b (tri d b a) refl));
      }

  next_rest : (j : ℕ) (h i : Half) → at s j ≡ Some h → IsRest j → at s h.next ≡ Some i → IsRest h.next
  next_rest j h i here x there =
      let turn = t.sound.turns j h here in
      lacks_rest h.next i there (ap (λ (z : Half). has_both a b z.face) (one_half s h.next i turn.0 there turn.1)
      ∙ ap (has_both a b) turn.2 ∙ both_next a b h.face ∙ rest_lacks j h here x)

  -- ---- edges

  record Stays (j : ℕ) (h : Half) : Type 0 where
    goes_so : Goes s j h.face.a h.face.b
    not_e : j ≢ k.e
    not_m : j ≢ k.m

  abbrev EdgeOf : ℕ → Half → Type 0
  EdgeOf j h = ((j ≡ k.e) × (h.face.a ≡ d) × (h.face.b ≡ c)) ⊎
      (((j ≡ k.m) × (h.face.a ≡ c) × (h.face.b ≡ d)) ⊎ Stays j h)

  edge_of : (j : ℕ) (h : Half) → at r j ≡ Some h → EdgeOf j h
  unfolding to_m to_f to_o to_g to_e to_n
  edge_of =
      by_half EdgeOf
      (inr (inr (record { goes_so = goes s k.n (tri a d b) t.n; not_e = flip en; not_m = flip mn })))
      (inl (refl, refl, refl))
      (inr (inr (record { goes_so = goes s k.g (tri c a b) t.g; not_e = flip eg; not_m = gm })))
      (inr (inr (record { goes_so = goes s k.o (tri d b a) t.o; not_e = flip eo; not_m = flip mo })))
      (inr (inr (record { goes_so = goes s k.f (tri b c a) t.f; not_e = flip ef; not_m = fm })))
      (inr (inl (refl, refl, refl)))
      (λ j h here x. inr (inr (record { goes_so = (h, here, refl, refl); not_e = x.not_e; not_m = x.not_m })))

  goes_e : Goes r k.e d c
  unfolding to_e
  goes_e = (He, at_e, refl, refl)

  goes_m : Goes r k.m c d
  unfolding to_m
  goes_m = (Hm, at_m, refl, refl)

  pub stays : (x y j : ℕ) → j ≢ k.e → j ≢ k.m → Goes s j x y → Goes r j x y
  unfolding to_f to_o to_g to_n
  stays x y =
      by_key (λ j. j ≢ k.e → j ≢ k.m → Goes s j x y → Goes r j x y)
      (λ _ _ go. (Hn, at_n, at_first k.n (tri a d b) t.n go, at_second k.n (tri a d b) t.n go))
      (λ ne _ go. absurd (ne refl))
      (λ _ _ go. (Hg, at_g, at_first k.g (tri c a b) t.g go, at_second k.g (tri c a b) t.g go))
      (λ _ _ go. (Ho, at_o, at_first k.o (tri d b a) t.o go, at_second k.o (tri d b a) t.o go))
      (λ _ _ go. (Hf, at_f, at_first k.f (tri b c a) t.f go, at_second k.f (tri b c a) t.f go))
      (λ _ nm go. absurd (nm refl))
      (λ j x _ _ go. (go.0, at_rest j x ∙ go.1, go.2, go.3))
    where
      at_first : (l : ℕ) (u : Tri) → HasFace s l u → Goes s l x y → u.a ≡ x
      at_first l u face go = ap (λ (z : Tri). z.a) (sym face.2)
          ∙ ap (λ (z : Half). z.face.a) (one_half s l face.0 go.0 face.1 go.1) ∙ go.2

      at_second : (l : ℕ) (u : Tri) → HasFace s l u → Goes s l x y → u.b ≡ y
      at_second l u face go = ap (λ (z : Tri). z.b) (sym face.2)
          ∙ ap (λ (z : Half). z.face.b) (one_half s l face.0 go.0 face.1 go.1) ∙ go.3

  alone_after : (j l x y : ℕ) → Goes r j x y → Goes r l x y → j ≡ l
  alone_after j l x y one two =
      elim (edge_of j one.0 one.1) [
        | inl e ↦ elim (edge_of l two.0 two.1) [
          | inl f ↦ e.0 ∙ sym f.0
          | inr more ↦ elim more [
            | inl f ↦ absurd (t.apart (sym f.1 ∙ two.2 ∙ sym one.2 ∙ e.1))
            | inr f ↦ absurd (t.none_back l (
              f.goes_so.0,
              f.goes_so.1,
              f.goes_so.2 ∙ two.2 ∙ sym one.2 ∙ e.1,
              f.goes_so.3 ∙ two.3 ∙ sym one.3 ∙ e.2,
            ))
          ]
        ]
        | inr rest ↦ elim rest [
          | inl e ↦ elim (edge_of l two.0 two.1) [
            | inl f ↦ absurd (t.apart (sym e.1 ∙ one.2 ∙ sym two.2 ∙ f.1))
            | inr more ↦ elim more [
              | inl f ↦ e.0 ∙ sym f.0
              | inr f ↦ absurd (t.none l (
                f.goes_so.0,
                f.goes_so.1,
                f.goes_so.2 ∙ two.2 ∙ sym one.2 ∙ e.1,
                f.goes_so.3
                    ∙ two.3 ∙ sym one.3 ∙ e.2,
              ))
            ]
          ]
          | inr e ↦ elim (edge_of l two.0 two.1) [
            | inl f ↦ absurd (t.none_back j (
              e.goes_so.0,
              e.goes_so.1,
              e.goes_so.2 ∙ one.2 ∙ sym two.2 ∙ f.1,
              e.goes_so.3 ∙ one.3 ∙ sym two.3 ∙ f.2,
            ))
            | inr more ↦ elim more [
              | inl f ↦ absurd (t.none j (
                e.goes_so.0,
                e.goes_so.1,
                e.goes_so.2 ∙ one.2 ∙ sym two.2 ∙ f.1,
                e.goes_so.3
                    ∙ one.3 ∙ sym two.3 ∙ f.2,
              ))
              | inr f ↦ t.sound.alone j l x y (e.goes_so.0, e.goes_so.1, e.goes_so.2 ∙ one.2, e.goes_so.3 ∙ one.3)
                  (f.goes_so.0, f.goes_so.1, f.goes_so.2 ∙ two.2, f.goes_so.3 ∙ two.3)
            ]
          ]
        ]
      ]

  -- ---- twins

  keep_twin : (j x y : ℕ) (o : Option ℕ) → Goes s j x y → j ≢ k.e → j ≢ k.m → IsTwin s x y o → IsTwin r x y o
  keep_twin j x y None go ne nm lone =
      λ g back.
      elim (edge_of g back.0 back.1) [
        | inl e ↦ t.none j (go.0, go.1, go.2 ∙ sym back.3 ∙ e.2, go.3 ∙ sym back.2 ∙ e.1)
        | inr more ↦ elim more [
          | inl e ↦ t.none_back j (go.0, go.1, go.2 ∙ sym back.3 ∙ e.2, go.3 ∙ sym back.2 ∙ e.1)
          | inr e ↦ lone g (e.goes_so.0, e.goes_so.1, e.goes_so.2 ∙ back.2, e.goes_so.3 ∙ back.3)
        ]
      ]
  keep_twin j x y (Some g) go ne nm there =
      let edge : (l : ℕ) (u : Tri) → HasFace s l u → g ≡ l → (u.a ≡ y) × (u.b ≡ x) = λ l u face same. (
        ap (λ (z : Tri). z.a) (sym face.2)
            ∙ ap (λ (z : Half). z.face.a) (one_half s l face.0 there.0 face.1 (ap (at s) (sym same) ∙ there.1))
            ∙ there.2,
        ap (λ (z : Tri). z.b) (sym face.2)
            ∙ ap (λ (z : Half). z.face.b) (one_half s l face.0 there.0 face.1 (ap (at s) (sym same) ∙ there.1))
            ∙ there.3,
      ) in
      let not_e : g ≢ k.e = λ same. let ends = edge k.e (tri a b c) t.e same in
      nm (sym (same_key s k.m j (tri b a d) t.sound t.m (go.0, go.1, go.2 ∙ sym ends.1, go.3 ∙ sym ends.0))) in
      let not_m : g ≢ k.m = λ same. let ends = edge k.m (tri b a d) t.m same in
      ne (sym (same_key s k.e j (tri a b c) t.sound t.e (go.0, go.1, go.2 ∙ sym ends.1, go.3 ∙ sym ends.0))) in
      stays y x g not_e not_m there

  twin_at : (l : ℕ) (u : Tri) → (face : HasFace s l u) → IsTwin s u.a u.b face.0.twin
  twin_at l u face = subst (λ (z : Tri). IsTwin s z.a z.b face.0.twin) face.2 (t.sound.twins l face.0 face.1)

  twin_known : (l g : ℕ) (u : Tri) → (face : HasFace s l u) → Goes s g u.b u.a → face.0.twin ≡ Some g
  twin_known l g u face go = sym (ap (λ (o : Option Half). twin_key (o ∷ []) 0) face.1)
      ∙ twin_key_is s l g u t.sound face go

  twins_after : (j : ℕ) (h : Half) → at r j ≡ Some h → IsTwin r h.face.a h.face.b h.twin
  unfolding to_m to_f to_o to_g to_e to_n
  twins_after =
      by_half (λ j h. IsTwin r h.face.a h.face.b h.twin)
      (keep_twin k.n a d t.n.0.twin (goes s k.n (tri a d b) t.n) (flip en) (flip mn) (twin_at k.n (tri a d b) t.n))
      (subst (IsTwin r d c) (sym (twin_known k.e k.m (tri a b c) t.e (goes s k.m (tri b a d) t.m))) goes_m)
      (keep_twin k.g c a t.g.0.twin (goes s k.g (tri c a b) t.g) (flip eg) gm (twin_at k.g (tri c a b) t.g))
      (keep_twin k.o d b t.o.0.twin (goes s k.o (tri d b a) t.o) (flip eo) (flip mo) (twin_at k.o (tri d b a) t.o))
      (keep_twin k.f b c t.f.0.twin (goes s k.f (tri b c a) t.f) (flip ef) fm (twin_at k.f (tri b c a) t.f))
      (subst (IsTwin r c d) (sym (twin_known k.m k.e (tri b a d) t.m (goes s k.e (tri a b c) t.e))) goes_e)
      (λ j h here x. keep_twin j h.face.a h.face.b h.twin (h, here, refl, refl) x.not_e x.not_m
      (t.sound.twins j h here))

  -- ---- the rest

  proper_after : (j : ℕ) (h : Half) → at r j ≡ Some h → IsProper h.face
  unfolding to_m to_f to_o to_g to_e to_n
  proper_after =
      by_half (λ j h. IsProper h.face) (ad, flip t.apart, ca) (flip t.apart, ca, ad) (ca, ad, flip t.apart)
      (db, bc, t.apart) (bc, t.apart, db) (t.apart, db, bc) (λ j h here x. t.sound.proper j h here)

  turns_after : (j : ℕ) (h : Half) → at r j ≡ Some h → HasFace r h.next (from_next h.face)
  unfolding to_m to_f to_o to_g to_e to_n
  turns_after =
      by_half (λ j h. HasFace r h.next (from_next h.face)) (He, at_e, refl) (Hg, at_g, refl) (Hn, at_n, refl)
      (Hf, at_f, refl) (Hm, at_m, refl) (Ho, at_o, refl)
      (λ j h here x. let turn = t.sound.turns j h here in
      (turn.0, at_rest h.next (next_rest j h turn.0 here x turn.1) ∙ turn.1, turn.2))

  leads_after : (j : ℕ) (h : Half) → at r j ≡ Some h → HasLead r h
  unfolding to_m to_f to_o to_g to_e to_n
  leads_after =
      by_half (λ j h. HasLead r h) (inl refl) (inr (Hg, at_g, inr (Hn, at_n, refl))) (inr (Hn, at_n, inl refl))
      (inl refl) (inr (Hm, at_m, inr (Ho, at_o, refl))) (inr (Ho, at_o, inl refl))
      (λ j h here x. elim (t.sound.leads j h here) [
        | inl lead ↦ inl lead
        | inr more ↦
            let rest_i = next_rest j h more.0 here x more.1 in
            elim more.2 [
              | inl lead ↦ inr (more.0, at_rest h.next rest_i ∙ more.1, inl lead)
              | inr last ↦ inr (
                more.0,
                at_rest h.next rest_i ∙ more.1,
                inr (
                  last.0,
                  at_rest more.0.next (next_rest h.next more.0 last.0 more.1 rest_i last.1) ∙ last.1,
                  last.2,
                ),
              )
            ]
      ])

  pub sound_flipped : IsSound r
  sound_flipped =
      record {
        proper = proper_after;
        turns = turns_after;
        alone = alone_after;
        twins = twins_after;
        leads =
            leads_after;
      }

  -- ---- the list of triangles

  weight_append : (g : Tri → ℕ) (us vs : List Tri) → weight g (us ++ vs) ≡ weight g us + weight g vs
  weight_append g [] vs = omega arith
  weight_append g (u ∷ us) vs = omega (arith, weight_append g us vs)

  -- a slot that is emptied takes its triangle away
  weight_set : (g : Tri → ℕ) (q : Slots) (j : ℕ) →
      weight g (flat_map led_face (set q j None)) + weight g (led_face (at q j)) ≡ weight g (flat_map led_face q)
  weight_set g [] j = refl
  weight_set g (o ∷ q) zero = omega (arith, weight_append g (led_face o) (flat_map led_face q))
  weight_set g (o ∷ q) (suc j) =
      omega (
        arith,
        weight_append g (led_face o) (flat_map led_face (set q j None)),
        weight_append g (led_face o) (flat_map led_face q),
        weight_set g q j,
      )

  abbrev kept : Tri → Bool
  kept u = not (has_both a b u)

  map_id : (us : List Tri) → map (λ (u : Tri). u) us ≡ us
  map_id [] = refl
  map_id (u ∷ us) = ap (λ (vs : List Tri). u ∷ vs) (map_id us)

  led_none : (lead : Bool) (u : Tri) → has_both a b u ≡ true → filter kept (cond lead (u ∷ []) []) ≡ []
  led_none true u has = ap (λ (z : Bool). cond (not z) (u ∷ []) []) has
  led_none false u has = refl

  led_same : (lead : Bool) (u : Tri) → has_both a b u ≡ false →
      filter kept (cond lead (u ∷ []) []) ≡ cond lead (u ∷ []) []
  led_same true u lacks = ap (λ (z : Bool). cond (not z) (u ∷ []) []) lacks
  led_same false u lacks = refl

  gone_at : (l : ℕ) (u : Tri) → HasFace s l u → has_both a b u ≡ true → filter kept (led_face (at s l)) ≡ []
  gone_at l u face has = ap (λ (o : Option Half). filter kept (led_face o)) face.1
      ∙ led_none face.0.lead face.0.face (ap (has_both a b) face.2 ∙ has)

  -- r without the two new triangles
  abbrev rest_slots : Slots
  rest_slots = set (set r k.n None) k.o None

  inside : (l : ℕ) (h : Half) → at r l ≡ Some h → l < length r
  inside l h here = grind (arith, get_or_past)

  rest_at : (j : ℕ) → j ≢ k.n → j ≢ k.o → at rest_slots j ≡ at r j
  rest_at j nn away = get_or-set_other (set r k.n None) k.o j None None away ∙ get_or-set_other r k.n j None None nn

  rest_n : at rest_slots k.n ≡ None
  rest_n = get_or-set_other (set r k.n None) k.o k.n None None no_
      ∙ get_or-set_same r k.n None None (inside k.n Hn at_n)

  rest_o : at rest_slots k.o ≡ None
  rest_o = get_or-set_same (set r k.n None) k.o None None (omega (arith, length-set r k.n None, inside k.o Ho at_o))

  led_at : (j : ℕ) → led_face (at rest_slots j) ≡ map (λ (u : Tri). u) (filter kept (led_face (at s j)))
  unfolding to_m to_f to_g to_e
  led_at =
      by_key (λ j. led_face (at rest_slots j) ≡ map (λ (u : Tri). u) (filter kept (led_face (at s j))))
      (ap led_face rest_n ∙ sym
      (ap (map (λ (u : Tri). u))
      (gone_at k.n (tri a d b) t.n (both (tri a d b) (corner_a a (tri a d b) refl) (corner_c b (tri a d b) refl)))))
      (ap led_face (rest_at k.e en eo ∙ at_e)
      ∙ sym (ap (map (λ (u : Tri). u))
      (gone_at k.e (tri a b c) t.e (both (tri a b c) (corner_a a (tri a b c) refl) (corner_b b (tri a b c) refl)))))
      (ap led_face (rest_at k.g gn go ∙ at_g)
      ∙ sym (ap (map (λ (u : Tri). u))
      (gone_at k.g (tri c a b) t.g (both (tri c a b) (corner_b a (tri c a b) refl) (corner_c b (tri c a b) refl)))))
      (ap led_face rest_o ∙ sym
      (ap (map (λ (u : Tri). u))
      (gone_at k.o (tri d b a) t.o (both (tri d b a) (corner_c a (tri d b a) refl) (corner_b b (tri d b a) refl)))))
      (ap led_face (rest_at k.f fn fo ∙ at_f)
      ∙ sym (ap (map (λ (u : Tri). u))
      (gone_at k.f (tri b c a) t.f (both (tri b c a) (corner_c a (tri b c a) refl) (corner_a b (tri b c a) refl)))))
      (ap led_face (rest_at k.m mn mo ∙ at_m)
      ∙ sym (ap (map (λ (u : Tri). u))
      (gone_at k.m (tri b a d) t.m (both (tri b a d) (corner_b a (tri b a d) refl) (corner_a b (tri b a d) refl)))))
      (λ j x. ap led_face (rest_at j x.not_n x.not_o ∙ at_rest j x)
      ∙ sym (ap (map (λ (u : Tri). u)) (by_slot j x (at s j) refl) ∙ map_id (led_face (at s j))))
    where
      by_slot : (j : ℕ) → IsRest j → (o : Option Half) → at s j ≡ o → filter kept (led_face o) ≡ led_face (at s j)
      by_slot j x None here = sym (ap led_face here)
      by_slot j x (Some h) here = led_same h.lead h.face (rest_lacks j h here x) ∙ sym (ap led_face here)

  weight_after : (g : Tri → ℕ) →
      weight g (flat_map led_face r) ≡ g (tri a d c) + (g (tri d b c) + weight g (filter kept (flat_map led_face s)))
  unfolding to_n to_o
  weight_after g =
      let one = weight_set g r k.n in
      let two = weight_set g (set r k.n None) k.o in
      let at_n' : weight g (led_face (at r k.n)) ≡ g (tri a d c) + 0 =
      ap (λ (o : Option Half). weight g (led_face o)) at_n in
      let at_o' : weight g (led_face (at (set r k.n None) k.o)) ≡ g (tri d b c) + 0 =
      ap (λ (o : Option Half). weight g (led_face o)) (get_or-set_other r k.n k.o None None (flip no_) ∙ at_o) in
      let rest : weight g (flat_map led_face rest_slots) ≡ weight g (filter kept (flat_map led_face s)) =
      ap (weight g) (led_after (λ (u : Tri). u) kept s rest_slots led_at
      ∙ map_id (filter kept (flat_map led_face s))) in
      omega (arith, one, two, at_n', at_o', rest)

  all_same : (g : Tri → ℕ) (us : List Tri) →
      weight (λ u. cond (kept u) (g (turned u)) 0) us ≡ weight (λ u. cond (kept (turned u)) (g (turned u)) 0) us
  all_same g [] = refl
  all_same g (u ∷ us) = (λ i. cond (not (sym (both_turned a b u) i)) (g (turned u)) 0 + all_same g us i)

  pub faces_flipped : faces_of r ≡ flipped_tris a b c d (faces_of s)
  unfolding flipped_tris
  faces_flipped =
      in_order_alike (map turned (flat_map led_face r))
      (turned (tri a d c) ∷ turned (tri d b c) ∷ filter kept (faces_of s)) (λ g.
      let left : weight g (map turned (flat_map led_face r)) ≡ g (turned (tri a d c)) +
      (g (turned (tri d b c)) + weight (λ u. g (turned u)) (filter kept (flat_map led_face s))) =
      weight_map turned g (flat_map led_face r) ∙ weight_after (λ u. g (turned u)) in
      let right : weight (λ u. g (turned u)) (filter kept (flat_map led_face s)) ≡ weight g (filter kept (faces_of s)) =
      weight_filter kept (λ u. g (turned u)) (flat_map led_face s)
      ∙ all_same g (flat_map led_face s)
      ∙ sym (weight_map turned (λ u. cond (kept u) (g u) 0) (flat_map led_face s))
      ∙ sym (weight-in_order tri_cmp_total (λ u. cond (kept u) (g u) 0) (map turned (flat_map led_face s)))
      ∙ sym (weight_filter kept g (faces_of s)) in
      left ∙ ap (λ (n : ℕ). g (turned (tri a d c)) + (g (turned (tri d b c)) + n)) right)

-- ---- the whole

apex_half : (s : Slots) (a b c : ℕ) → IsSound s → apex (faces_of s) a b ≡ Some c → (k : ℕ) × HasFace s k (tri a b c)
apex_half s a b c sound h = half_of_face s a b c sound (face_of_apex (faces_of s) a b c h)

no_edge : (s : Slots) (c d k : ℕ) → IsSound s → are_neighbours (faces_of s) c d ≡ false → Goes s k c d → ⊥
no_edge s c d k sound free go =
    both_ways (are_neighbours (faces_of s) c d) free
    (both_of_half s k go.0 c d sound go.1
    (and_from (has_corner c go.0.face) (has_corner d go.0.face) (corner_a c go.0.face go.2)
    (corner_b d go.0.face go.3)))

no_edge_back : (s : Slots) (c d k : ℕ) → IsSound s → are_neighbours (faces_of s) c d ≡ false → Goes s k d c → ⊥
no_edge_back s c d k sound free go =
    both_ways (are_neighbours (faces_of s) c d) free
    (both_of_half s k go.0 c d sound go.1
    (and_from (has_corner c go.0.face) (has_corner d go.0.face) (corner_b c go.0.face go.3)
    (corner_a d go.0.face go.2)))

pub may_flip : (s : Slots) (a b c d e : ℕ) → IsSound s → MayFlip (faces_of s) a b c d → Goes s e a b →
    CanFlip s a b c d e
may_flip s a b c d e sound may go =
    let ends = ends_of (faces_of s) a b c d may.opposite in
    let ahead = apex_half s a b c sound ends.0 in
    let behind = apex_half s b a d sound ends.1 in
    let is_e : ahead.0 ≡ e = same_key s ahead.0 e (tri a b c) sound ahead.1 go in
    record {
      sound = sound;
      ends = may.differ;
      apart = apexes_differ (faces_of s) a b c d may.opposite may.unjoined;
      face = subst (λ k. HasFace s k (tri a b c)) is_e ahead.1;
      other = behind.0;
      face_other = behind.1;
      none = λ k. no_edge s c d k sound may.unjoined;
      none_back = λ k. no_edge_back s c d k sound may.unjoined;
    }

pub flip_edge_there : (s : Slots) (a b c d : ℕ) → IsSound s → MayFlip (faces_of s) a b c d → (k : ℕ) × Goes s k a b
flip_edge_there s a b c d sound may =
    let ahead = apex_half s a b c sound (ends_of (faces_of s) a b c d may.opposite).0 in
    (ahead.0, goes s ahead.0 (tri a b c) ahead.1)

-- the keys of held names after a flip
pub fit_flipped : (s r : Slots) (a b c d : ℕ) (k : Cut) (m n : BTreeMap ℕ ℕ) → Turned s a b c d k →
    ((j : ℕ) → at r j ≡ slot_flipped a b c d k j (at s j)) → IsFit s m
    → ((w : ℕ) → out_at n w ≡ set_at b k.f w (set_at a k.n w (out_at m w))) → IsFit r n
fit_flipped s r a b c d k m n t after fit outs w l here =
    elim (cases_eq w b) [
      | inl wb ↦
          let is : l ≡ k.f = set_told w b k.f l _ wb (sym (outs w) ∙ here) in
          let go = stays s r a b c d k t after b c k.f (λ x. ef s r a b c d k t after (sym x))
          (fm s r a b c d k t after) (goes s k.f (tri b c a) t.f) in
          subst (λ g. (y : ℕ) × Goes r g w y) (sym is) (c, subst (λ (x : ℕ). Goes r k.f x c) (sym wb) go)
      | inr nb ↦ elim (cases_eq w a) [
        | inl wa ↦
            let is : l ≡ k.n = set_told w a k.n l _ wa (sym (set_other w b k.f _ nb) ∙ sym (outs w) ∙ here) in
            let go = stays s r a b c d k t after a d k.n (λ x. en s r a b c d k t after (sym x))
            (λ x. mn s r a b c d k t after (sym x)) (goes s k.n (tri a d b) t.n) in
            subst (λ g. (y : ℕ) × Goes r g w y) (sym is) (d, subst (λ (x : ℕ). Goes r k.n x d) (sym wa) go)
        | inr na ↦
            let told : out_at m w ≡ Some l = sym (set_other w a k.n _ na) ∙ sym (set_other w b k.f _ nb) ∙ sym (outs w)
            ∙ here in
            let old = fit w l told in
            let first = λ (g : ℕ) (u : Tri) (face : HasFace s g u) (same : l ≡ g). sym old.1.2
            ∙ ap (λ (z : Half). z.face.a) (one_half s g old.1.0 face.0 (ap (at s) (sym same) ∙ old.1.1) face.1)
            ∙ ap (λ (z : Tri). z.a) face.2 in (
              old.0,
              stays s r a b c d k t after w old.0 l (λ same. na (first k.e (tri a b c) t.e same))
                  (λ same. nb (first k.m (tri b a d) t.m same)) old.1,
            )
      ]
    ]
  where
    set_told : (x y g i : ℕ) (o : Option ℕ) → x ≡ y → set_at y g x o ≡ Some i → i ≡ g
    set_told x y g i o same told =
        by_slot o (sym (ap (λ (z : Bool). cond z (option_map (λ (q : ℕ). g) o) o) (eq-eqb x y same)) ∙ told)
      where
        by_slot : (p : Option ℕ) → option_map (λ (q : ℕ). g) p ≡ Some i → i ≡ g
        by_slot None e = absurd (cc)
        by_slot (Some q) e = let equal : g ≡ i = cc in sym equal

    set_other : (x y g : ℕ) (o : Option ℕ) → x ≢ y → set_at y g x o ≡ o
    set_other x y g o away = ap (λ (z : Bool). cond z (option_map (λ (q : ℕ). g) o) o) (ne_eqb x y away)

-- the names opposite of the edge are those that were read
pub same_ends : (s : Slots) (a b c d : ℕ) (may : MayTurn (faces_of s) a b) → opposites (faces_of s) a b ≡ Some (c, d) →
    (may.c ≡ c) × (may.d ≡ d)
same_ends s a b c d may sides =
    let same : Some (may.c, may.d) ≡ Some (c, d) = sym may.may.opposite ∙ sides in
    let pair : (may.c, may.d) ≡ (c, d) = cc in
    (ap (λ (p : ℕ × ℕ). p.0) pair, ap (λ (p : ℕ × ℕ). p.1) pair)

-- whichever names are told
pub may_flip_by : (s : Slots) (a b c d : ℕ) (may : MayTurn (faces_of s) a b) →
    opposites (faces_of s) a b ≡ Some (c, d) → MayFlip (faces_of s) a b c d
may_flip_by s a b c d may sides =
    let same = same_ends s a b c d may sides in
    subst (λ (x : ℕ). MayFlip (faces_of s) a b x d) same.0
    (subst (λ (y : ℕ). MayFlip (faces_of s) a b may.c y) same.1 may.may)

pub flip_read : (s : Slots) (a b e x y : ℕ) (k : Cut) → IsSound s → (may : MayTurn (faces_of s) a b) → Goes s e a b →
    k ≡ cut_keys s e → x ≡ third_name s e → y ≡ third_name s k.m → (x ≡ may.c) × (y ≡ may.d)
flip_read s a b e x y k sound may go is at_x at_y =
    let can = may_flip s a b may.c may.d e sound may.may go in
    let t = turned_keys s a b may.c may.d e can in (
      at_x ∙ third_at s e a b may.c t.e,
      at_y ∙ ap (λ (z : Cut). third_name s z.m) is
          ∙ third_at s (cut_keys s e).m b a may.d t.m,
    )

pub can_flip_read : (s : Slots) (a b e x y : ℕ) (k : Cut) → IsSound s → (may : MayTurn (faces_of s) a b) →
    Goes s e a b → k ≡ cut_keys s e → x ≡ third_name s e → y ≡ third_name s k.m → CanFlip s a b x y e
can_flip_read s a b e x y k sound may go is at_x at_y =
    let names = flip_read s a b e x y k sound may go is at_x at_y in
    subst (λ (z : ℕ). CanFlip s a b z y e) (sym names.0)
    (subst (λ (z : ℕ). CanFlip s a b may.c z e) (sym names.1) (may_flip s a b may.c may.d e sound may.may go))

pub faces_read : (s r : Slots) (a b e x y c d : ℕ) (k : Cut) → IsSound s → MayTurn (faces_of s) a b → Goes s e a b →
    k ≡ cut_keys s e → x ≡ third_name s e → y ≡ third_name s k.m → faces_of r ≡ flipped_tris a b x y (faces_of s) →
    opposites (faces_of s) a b ≡ Some (c, d) → faces_of r ≡ flipped_tris a b c d (faces_of s)
faces_read s r a b e x y c d k sound may go is at_x at_y faces sides =
    let names = flip_read s a b e x y k sound may go is at_x at_y in
    let same = same_ends s a b c d may sides in
    faces ∙ (λ i. flipped_tris a b (names.0 i) (names.1 i) (faces_of s))
    ∙ (λ i. flipped_tris a b (same.0 i) (same.1 i) (faces_of s))

pub mesh_flipped_read : (s r : Slots) (a b e x y : ℕ) (k : Cut) (m n1 n : BTreeMap ℕ ℕ) → IsMesh s m →
    (may : MayTurn (faces_of s) a b) → Goes s e a b → k ≡ cut_keys s e → x ≡ third_name s e → y ≡ third_name s k.m
    → ((j : ℕ) → at r j ≡ slot_flipped a b x y (cut_keys s e) j (at s j)) → IsSound r →
    faces_of r ≡ flipped_tris a b x y (faces_of s)
    → IsOriented (flipped_tris a b may.c may.d (faces_of s)) →
    ((c d w l : ℕ) → opposites (faces_of s) a b ≡ Some (c, d) → out_at m w ≡ Some l →
    HasRing (flipped_tris a b c d (faces_of s)) w)
    → ((w : ℕ) → out_at n1 w ≡ set_at a k.n w (out_at m w)) → ((w : ℕ) → out_at n w ≡ set_at b k.f w (out_at n1 w)) →
    IsMesh r n
mesh_flipped_read s r a b e x y k m n1 n mesh may go is at_x at_y after sound faces oriented rings outs1 outs2 =
    let can = can_flip_read s a b e x y k mesh.sound may go is at_x at_y in
    let outs : (w : ℕ) → out_at n w ≡ set_at b (cut_keys s e).f w (set_at a (cut_keys s e).n w (out_at m w)) =
    λ w. outs2 w ∙ ap (set_at b k.f w) (outs1 w) ∙ ap (λ (z : Cut). set_at b z.f w (set_at a z.n w (out_at m w))) is in
    record {
      sound = sound;
      oriented = subst IsOriented
          (sym (faces_read s r a b e x y may.c may.d k mesh.sound may go is at_x at_y faces may.may.opposite)) oriented;
      fit = fit_flipped s r a b x y (cut_keys s e) m n (turned_keys s a b x y e can) after mesh.fit outs;
      ringed = λ w l here.
          let was = was_some (set_at b k.f w (set_at a k.n w (out_at m w))) w l
          (sym (outs2 w ∙ ap (set_at b k.f w) (outs1 w)) ∙ here) in
          let held = some_of (out_at m w) (sym (is_some-set_at a k.n w (out_at m w))
          ∙ sym (is_some-set_at b k.f w (set_at a k.n w (out_at m w))) ∙ was) in
          subst (λ (ts : List Tri). HasRing ts w)
          (sym (faces_read s r a b e x y may.c may.d k mesh.sound may go is at_x at_y faces may.may.opposite))
          (rings may.c may.d w held.0 may.may.opposite held.1);
    }
  where
    was_some : (o : Option ℕ) (w l : ℕ) → o ≡ Some l → is_some o ≡ true
    was_some o w l e = ap is_some e
