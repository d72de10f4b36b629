-- The faces at the other names after a collapse of u onto v.
use Rattle.collapse_topology.proofs.CollapsedFaces.{face_after, face_before, renamed-other, renamed-same}
use Rattle.face_rings.proofs.Faces.{Apart, three}
use Rattle.face_rings.proofs.Members.{append_cases, append_left, append_right, steps_in}
use Rattle.face_rings.proofs.Paths.{not_in, path, path_in, shorter}
use Rattle.face_rings.specs.Faces.{Face, IsFan, Leads, ◌∈◌}
use Rattle.mesh_data.specs.Edits.{collapsed_tris, renamed}
use Rattle.mesh_data.specs.Rings.{path_edges}
use Rattle.mesh_data.specs.declared.geometry.Edge.{Edge}
use Rattle.mesh_data.specs.declared.geometry.Tri.{Tri}
use Rattle.std.proofs.Common.{List, [], ap, inl, inr, map, refl, subst, sym, ℕ, ◌++◌, ◌∙◌, ◌∷◌, ◌≡◌, ◌≢◌, ◌⊎◌}
use Rattle.std.proofs.lemmas.Bool.Decides.{eqb_tells}
use Rattle.triangle_lists.proofs.Walks.{step}

-- the step from u goes to b, and the step to u comes from a
from_u : (p : List ℕ) (a u b : ℕ) (q : List ℕ) (y : ℕ) → ¬ (u ∈ p ++ a ∷ []) → ¬ (u ∈ b ∷ q) → Leads u y (path_edges (p ++ a ∷ u ∷ b ∷ q)) → a ≢ u → y ≡ b
from_u p a u b q y np nq i n =
    elim (append_cases (step u y) (path_edges (p ++ a ∷ [])) ((step a u) ∷ (step u b) ∷ path_edges (b ∷ q)) (subst (λ l. Leads u y l) (path p a u b q) i)) [
      | inl j ↦ absurd (np (steps_in (p ++ a ∷ []) (step u y) j).0)
      | inr (inl e) ↦ absurd (n (sym (ap (λ (z : Edge). z.a) e)))
      | inr (inr (inl e)) ↦ ap (λ (z : Edge). z.b) e
      | inr (inr (inr j)) ↦ absurd (nq (steps_in (b ∷ q) (step u y) j).0)
    ]

to_u : (p : List ℕ) (a u b : ℕ) (q : List ℕ) (x : ℕ) → ¬ (u ∈ p ++ a ∷ []) → ¬ (u ∈ b ∷ q) → Leads x u (path_edges (p ++ a ∷ u ∷ b ∷ q)) → b ≢ u → x ≡ a
to_u p a u b q x np nq i n =
    elim (append_cases (step x u) (path_edges (p ++ a ∷ [])) ((step a u) ∷ (step u b) ∷ path_edges (b ∷ q)) (subst (λ l. Leads x u l) (path p a u b q) i)) [
      | inl j ↦ absurd (np (steps_in (p ++ a ∷ []) (step x u) j).1)
      | inr (inl e) ↦ ap (λ (z : Edge). z.a) e
      | inr (inr (inl e)) ↦ absurd (n (sym (ap (λ (z : Edge). z.b) e)))
      | inr (inr (inr j)) ↦ absurd (nq (steps_in (b ∷ q) (step x u) j).1)
    ]

-- a face at w before, where w is neither name
record At (ts : List Tri) (u v w x y : ℕ) : Type 0 where
  p : ℕ
  q : ℕ
  face : Face ts w p q
  apart : Apart u v w p q
  px : renamed u v p ≡ x
  qy : renamed u v q ≡ y

-- where a face at w comes from
at_before : (ts : List Tri) (u v w x y : ℕ) → w ≢ v → Face (collapsed_tris u v ts) w x y → At ts u v w x y
at_before ts u v w x y n f =
    let b = face_before ts u v w x y f in
    let e : b.x ≡ w = same b.x b.ax in
    record {
      p = b.y;
      q = b.z;
      face = subst (λ z. Face ts z b.y b.z) e b.face;
      apart = subst (λ z. Apart u v z b.y b.z) e b.apart;
      px = b.by;
      qy = b.cz;
    }
  where
    same : (z : ℕ) → renamed u v z ≡ w → z ≡ w
    same z e = elim (eqb_tells z u) [
      | inl h ↦ absurd (n (sym e ∙ ap (renamed u v) h.1 ∙ renamed-same u v))
      | inr h ↦ sym (renamed-other u v z h.1) ∙ e
    ]

-- and where one goes
at_after : (ts : List Tri) (u v w p q : ℕ) → w ≢ u → Face ts w p q → Apart u v w p q → Face (collapsed_tris u v ts) w (renamed u v p) (renamed u v q)
at_after ts u v w p q n f a = subst (λ z. Face (collapsed_tris u v ts) z (renamed u v p) (renamed u v q)) (renamed-other u v w n) (face_after ts u v w p q f a)

-- the ring of an opposite name: u goes out between v and another name
pub drop_fan : (ts : List Tri) (u v w a b : ℕ) (p q : List ℕ) → u ≢ v → w ≢ u → w ≢ v → a ≢ b
    → IsFan ts w (p ++ a ∷ u ∷ b ∷ q) → ¬ (u ∈ p ++ a ∷ []) → ¬ (u ∈ b ∷ q) → (a ≡ v) ⊎ (b ≡ v)
    → IsFan (collapsed_tris u v ts) w (p ++ a ∷ b ∷ q)
drop_fan ts u v w a b p q n wu wv ab f np nq here x y = (to, from)
  where
    au : a ≢ u
    au e = np (append_right u p (a ∷ []) (inl (sym e)))

    bu : b ≢ u
    bu e = nq (inl (sym e))

    new : Leads x y (path_edges (p ++ a ∷ []) ++ (step a b) ∷ path_edges (b ∷ q)) → (step x y) ∈ path_edges (p ++ a ∷ b ∷ q)
    new i = subst (λ l. Leads x y l) (sym (shorter p a b q)) i

    middle : x ≡ a → y ≡ b → Leads x y (path_edges (p ++ a ∷ []) ++ (step a b) ∷ path_edges (b ∷ q))
    middle e g = append_right (step x y) (path_edges (p ++ a ∷ [])) ((step a b) ∷ path_edges (b ∷ q)) (inl (ap (λ z. (step z y)) e ∙ ap (λ z. (step a z)) g))

    by_u : (s t : ℕ) → s ≡ u → Face ts w s t → Apart u v w s t → renamed u v s ≡ x → renamed u v t ≡ y → Leads x y (path_edges (p ++ a ∷ []) ++ (step a b) ∷ path_edges (b ∷ q))
    by_u s t e g k ex ey =
        let tb : t ≡ b = from_u p a u b q t np nq ((f u t).0 (subst (λ z. Face ts w z t) e g)) au in
        elim here [
          | inl h ↦ middle (sym ex ∙ ap (renamed u v) e ∙ renamed-same u v ∙ sym h) (sym ey ∙ ap (renamed u v) tb ∙ renamed-other u v b bu)
          | inr h ↦ absurd (k (inr (inl (sym e))) (inr (inr (sym (tb ∙ h)))))
        ]

    by_to : (s t : ℕ) → t ≡ u → Face ts w s t → Apart u v w s t → renamed u v s ≡ x → renamed u v t ≡ y → Leads x y (path_edges (p ++ a ∷ []) ++ (step a b) ∷ path_edges (b ∷ q))
    by_to s t e g k ex ey =
        let sa : s ≡ a = to_u p a u b q s np nq ((f s u).0 (subst (λ z. Face ts w s z) e g)) bu in
        elim here [
          | inl h ↦ absurd (k (inr (inr (sym e))) (inr (inl (sym (sa ∙ h)))))
          | inr h ↦ middle (sym ex ∙ ap (renamed u v) sa ∙ renamed-other u v a au) (sym ey ∙ ap (renamed u v) e ∙ renamed-same u v ∙ sym h)
        ]

    plain : (s t : ℕ) → s ≢ u → t ≢ u → Face ts w s t → renamed u v s ≡ x → renamed u v t ≡ y → Leads x y (path_edges (p ++ a ∷ []) ++ (step a b) ∷ path_edges (b ∷ q))
    plain s t ns nt g ex ey =
        let i : Leads x y (path_edges (p ++ a ∷ u ∷ b ∷ q)) = subst (λ z. Leads x z (path_edges (p ++ a ∷ u ∷ b ∷ q))) (sym (renamed-other u v t nt) ∙ ey) (subst (λ z. Leads z t (path_edges (p ++ a ∷ u ∷ b ∷ q))) (sym (renamed-other u v s ns) ∙ ex) ((f s t).0 g)) in
        let nx : x ≢ u = λ e. ns (sym (renamed-other u v s ns) ∙ ex ∙ e) in
        let ny : y ≢ u = λ e. nt (sym (renamed-other u v t nt) ∙ ey ∙ e) in
        elim (path_in p a u b q x y i nx ny) [
          | inl j ↦ append_left (step x y) (path_edges (p ++ a ∷ [])) ((step a b) ∷ path_edges (b ∷ q)) j
          | inr j ↦ append_right (step x y) (path_edges (p ++ a ∷ [])) ((step a b) ∷ path_edges (b ∷ q)) (inr j)
        ]

    to : Face (collapsed_tris u v ts) w x y → (step x y) ∈ path_edges (p ++ a ∷ b ∷ q)
    to g =
        let k = at_before ts u v w x y wv g in
        new (elim (eqb_tells k.p u) [
          | inl e ↦ by_u k.p k.q e.1 k.face k.apart k.px k.qy
          | inr e ↦ elim (eqb_tells k.q u) [
            | inl h ↦ by_to k.p k.q h.1 k.face k.apart k.px k.qy
            | inr h ↦ plain k.p k.q e.1 h.1 k.face k.px k.qy
          ]
        ])

    old : Leads x y (path_edges (p ++ a ∷ u ∷ b ∷ q)) → (x ≢ u) × (y ≢ u) → Face (collapsed_tris u v ts) w x y
    old j (nx, ny) =
        subst (λ z. Face (collapsed_tris u v ts) w x z) (renamed-other u v y ny) (subst (λ z. Face (collapsed_tris u v ts) w z (renamed u v y)) (renamed-other u v x nx)
        (at_after ts u v w x y wu ((f x y).1 j) (λ i m. elim i [ inl e ↦ wu (sym e) | inr (inl e) ↦ nx (sym e) | inr (inr e) ↦ ny (sym e) ])))

    has_a : Face ts w a u
    has_a = (f a u).1 (subst (λ l. Leads a u l) (sym (path p a u b q)) (append_right (step a u) (path_edges (p ++ a ∷ [])) ((step a u) ∷ (step u b) ∷ path_edges (b ∷ q)) (inl refl)))

    has_b : Face ts w u b
    has_b = (f u b).1 (subst (λ l. Leads u b l) (sym (path p a u b q)) (append_right (step u b) (path_edges (p ++ a ∷ [])) ((step a u) ∷ (step u b) ∷ path_edges (b ∷ q)) (inr (inl refl))))

    joined : Face (collapsed_tris u v ts) w a b
    joined = elim here [
      | inl h ↦ three (collapsed_tris u v ts) w _ _ w a b refl (renamed-same u v ∙ sym h) (renamed-other u v b bu)
          (at_after ts u v w u b wu has_b (λ i m. elim m [ inl e ↦ wv (sym e) | inr (inl e) ↦ n (sym e) | inr (inr e) ↦ ab (h ∙ e) ]))
      | inr h ↦ three (collapsed_tris u v ts) w _ _ w a b refl (renamed-other u v a au) (renamed-same u v ∙ sym h)
          (at_after ts u v w a u wu has_a (λ i m. elim m [ inl e ↦ wv (sym e) | inr (inl e) ↦ ab (sym e ∙ sym h) | inr (inr e) ↦ n (sym e) ]))
    ]

    from : (step x y) ∈ path_edges (p ++ a ∷ b ∷ q) → Face (collapsed_tris u v ts) w x y
    from i =
        elim (append_cases (step x y) (path_edges (p ++ a ∷ [])) ((step a b) ∷ path_edges (b ∷ q)) (subst (λ l. Leads x y l) (shorter p a b q) i)) [
          | inl j ↦ let k = steps_in (p ++ a ∷ []) (step x y) j in
              old (subst (λ l. Leads x y l) (sym (path p a u b q)) (append_left (step x y) (path_edges (p ++ a ∷ [])) ((step a u) ∷ (step u b) ∷ path_edges (b ∷ q)) j)) (not_in u x (p ++ a ∷ []) np k.0, not_in u y (p ++ a ∷ []) np k.1)
          | inr (inl e) ↦ three (collapsed_tris u v ts) w a b w x y refl (sym (ap (λ (z : Edge). z.a) e)) (sym (ap (λ (z : Edge). z.b) e)) joined
          | inr (inr j) ↦ let k = steps_in (b ∷ q) (step x y) j in
              old (subst (λ l. Leads x y l) (sym (path p a u b q)) (append_right (step x y) (path_edges (p ++ a ∷ [])) ((step a u) ∷ (step u b) ∷ path_edges (b ∷ q)) (inr (inr j)))) (not_in u x (b ∷ q) nq k.0, not_in u y (b ∷ q) nq k.1)
        ]

-- ---- the rings without both names: v stands in the place of u
-- steps of renamed names are renamed steps
steps-map : (u v : ℕ) (xs : List ℕ) (e : Edge) → e ∈ path_edges xs → Leads (renamed u v e.a) (renamed u v e.b) (path_edges (map (renamed u v) xs))
steps-map u v [] e i = absurd i
steps-map u v (x ∷ []) e i = absurd i
steps-map u v (x ∷ y ∷ ys) e (inl f) = inl (ap (λ (d : Edge). step (renamed u v d.a) (renamed u v d.b)) f)
steps-map u v (x ∷ y ∷ ys) e (inr j) = inr (steps-map u v (y ∷ ys) e j)

from-map : (u v : ℕ) (xs : List ℕ) (e : Edge) → e ∈ path_edges (map (renamed u v) xs) → (d : Edge) × (d ∈ path_edges xs) × (renamed u v d.a ≡ e.a) × (renamed u v d.b ≡ e.b)
from-map u v [] e i = absurd i
from-map u v (x ∷ []) e i = absurd i
from-map u v (x ∷ y ∷ ys) e (inl f) = (step x y, inl refl, sym (ap (λ (d : Edge). d.a) f), sym (ap (λ (d : Edge). d.b) f))
from-map u v (x ∷ y ∷ ys) e (inr j) = let r = from-map u v (y ∷ ys) e j in (r.0, inr r.1, r.2, r.3)

-- the faces at a name that has at most one of u and v on its ring
pub rename_fan : (ts : List Tri) (u v w : ℕ) (xs : List ℕ) → w ≢ u → w ≢ v → IsFan ts w xs → (u ∈ xs → v ∈ xs → ⊥) → IsFan (collapsed_tris u v ts) w (map (renamed u v) xs)
rename_fan ts u v w xs wu wv f not_both x y = (to, from)
  where
    to : Face (collapsed_tris u v ts) w x y → Leads x y (path_edges (map (renamed u v) xs))
    to g =
        let k = at_before ts u v w x y wv g in
        subst (λ z. Leads x z (path_edges (map (renamed u v) xs))) k.qy (subst (λ z. Leads z (renamed u v k.q) (path_edges (map (renamed u v) xs))) k.px (steps-map u v xs (step k.p k.q) ((f k.p k.q).0 k.face)))

    on : (z p q : ℕ) → z ≢ w → p ∈ xs → q ∈ xs → (z ≡ w) ⊎ ((z ≡ p) ⊎ (z ≡ q)) → z ∈ xs
    on z p q n i j (inl e) = absurd (n e)
    on z p q n i j (inr (inl e)) = subst (λ h. h ∈ xs) (sym e) i
    on z p q n i j (inr (inr e)) = subst (λ h. h ∈ xs) (sym e) j

    from : Leads x y (path_edges (map (renamed u v) xs)) → Face (collapsed_tris u v ts) w x y
    from i =
        let m = from-map u v xs (step x y) i in
        let k = steps_in xs m.0 m.1 in
        three (collapsed_tris u v ts) w _ _ w x y refl m.2 m.3
        (at_after ts u v w m.0.a m.0.b wu ((f m.0.a m.0.b).1 m.1) (λ p q. not_both (on u m.0.a m.0.b (λ e. wu (sym e)) k.0 k.1 p) (on v m.0.a m.0.b (λ e. wv (sym e)) k.0 k.1 q)))
