-- The faces after a collapse.
use Rattle.face_rings.proofs.Faces.{Apart, Face_turn, and_not, has_turns, not_and, same_tri, turned-Turns, turns_has}
use Rattle.face_rings.proofs.Members.{filter_from, filter_to, in_order_from, in_order_to, map_from, map_to}
use Rattle.face_rings.specs.Faces.{Face, Turns, ◌∈◌}
use Rattle.mesh_data.specs.Edits.{collapsed_tris, substituted, renamed}
use Rattle.mesh_data.specs.Links.{has_both}
use Rattle.mesh_data.specs.Triangles.{turned}
use Rattle.mesh_data.specs.declared.geometry.Tri.{Tri}
use Rattle.std.proofs.Common.{List, ap, cond, eq-eqb, false, filter, inl, inr, not, refl, subst, sym, ℕ, ◌∙◌, ◌≡◌, ◌≢◌, ◌⊎◌}
use Rattle.std.proofs.lemmas.Bool.{ne_eqb, not-true}
use Rattle.std.proofs.lemmas.Bool.Decides.{eqb_tells}

-- ---- a collapse and faces
-- u becomes v, and others stay
pub renamed-same : (u v : ℕ) → renamed u v u ≡ v
renamed-same u v = ap (λ b. cond b v u) (eq-eqb u u refl)

pub renamed-other : (u v x : ℕ) → x ≢ u → renamed u v x ≡ x
renamed-other u v x n = ap (λ b. cond b v x) (ne_eqb x u n)

-- the faces after a collapse are faces before it, without both names, with v for u
pub collapsed-Face : (ts : List Tri) (u v a b c : ℕ) → Face (collapsed_tris u v ts) a b c
    → (t : Tri) × (t ∈ ts) × (has_both u v t ≡ false) × Turns (turned (substituted u v t)) a b c
unfolding collapsed_tris
collapsed-Face ts u v a b c f =
    let i = in_order_from f.0 _ f.1 in
    let m = map_from (λ t. turned (substituted u v t)) (filter (λ t. not (has_both u v t)) ts) f.0 i in
    let k = filter_from (λ t. not (has_both u v t)) ts m.0 m.1 in
    (m.0, k.0, not-true _ k.1, subst (λ (s : Tri). Turns s a b c) m.2 f.2)

-- and such faces stay, with v for u
pub Face-collapsed : (ts : List Tri) (u v : ℕ) (t : Tri) → t ∈ ts → has_both u v t ≡ false
    → Face (collapsed_tris u v ts) (renamed u v t.a) (renamed u v t.b) (renamed u v t.c)
unfolding collapsed_tris
Face-collapsed ts u v t i n =
    (turned (substituted u v t), in_order_to (turned (substituted u v t)) _ (map_to (λ t. turned (substituted u v t)) _ t (filter_to (λ s. not (has_both u v s)) ts t i (ap not n))), turned-Turns (substituted u v t))

-- what was renamed to a turn of three names is a turn of the renamed
pull : (f : ℕ → ℕ) (t s : Tri) (a b c : ℕ) → Turns s (f t.a) (f t.b) (f t.c) → Turns s a b c
    → (x : ℕ) × (y : ℕ) × (z : ℕ) × Turns t x y z × (f x ≡ a) × (f y ≡ b) × (f z ≡ c)
pull f t s a b c (inl p) (inl q) = let e = same_tri _ _ _ _ _ _ (sym p ∙ q) in (t.a, t.b, t.c, inl refl, e.0, e.1, e.2)
pull f t s a b c (inl p) (inr (inl q)) = let e = same_tri _ _ _ _ _ _ (sym p ∙ q) in (t.c, t.a, t.b, inr (inl refl), e.2, e.0, e.1)
pull f t s a b c (inl p) (inr (inr q)) = let e = same_tri _ _ _ _ _ _ (sym p ∙ q) in (t.b, t.c, t.a, inr (inr refl), e.1, e.2, e.0)
pull f t s a b c (inr (inl p)) (inl q) = let e = same_tri _ _ _ _ _ _ (sym p ∙ q) in (t.b, t.c, t.a, inr (inr refl), e.0, e.1, e.2)
pull f t s a b c (inr (inl p)) (inr (inl q)) = let e = same_tri _ _ _ _ _ _ (sym p ∙ q) in (t.a, t.b, t.c, inl refl, e.2, e.0, e.1)
pull f t s a b c (inr (inl p)) (inr (inr q)) = let e = same_tri _ _ _ _ _ _ (sym p ∙ q) in (t.c, t.a, t.b, inr (inl refl), e.1, e.2, e.0)
pull f t s a b c (inr (inr p)) (inl q) = let e = same_tri _ _ _ _ _ _ (sym p ∙ q) in (t.c, t.a, t.b, inr (inl refl), e.0, e.1, e.2)
pull f t s a b c (inr (inr p)) (inr (inl q)) = let e = same_tri _ _ _ _ _ _ (sym p ∙ q) in (t.b, t.c, t.a, inr (inr refl), e.2, e.0, e.1)
pull f t s a b c (inr (inr p)) (inr (inr q)) = let e = same_tri _ _ _ _ _ _ (sym p ∙ q) in (t.a, t.b, t.c, inl refl, e.1, e.2, e.0)

-- a face after the collapse comes from a face before it that had not both names
pub record Before (ts : List Tri) (u v a b c : ℕ) : Type 0 where
  pub x : ℕ
  pub y : ℕ
  pub z : ℕ
  pub face : Face ts x y z
  pub apart : Apart u v x y z
  pub ax : renamed u v x ≡ a
  pub by : renamed u v y ≡ b
  pub cz : renamed u v z ≡ c

pub face_before : (ts : List Tri) (u v a b c : ℕ) → Face (collapsed_tris u v ts) a b c → Before ts u v a b c
face_before ts u v a b c f =
    let k = collapsed-Face ts u v a b c f in
    let p = pull (renamed u v) k.0 (turned (substituted u v k.0)) a b c (turned-Turns (substituted u v k.0)) k.3 in
    record {
      x = p.0;
      y = p.1;
      z = p.2;
      face = (k.0, k.1, p.3);
      apart = λ i j. and_not _ _ k.2 (has_turns u k.0 p.0 p.1 p.2 p.3 i) (has_turns v k.0 p.0 p.1 p.2 p.3 j);
      ax = p.4;
      by = p.5;
      cz = p.6;
    }

-- and such a face stays, renamed
push_turn : (f : ℕ → ℕ) (ts : List Tri) (t : Tri) (a b c : ℕ) → Turns t a b c → Face ts (f t.a) (f t.b) (f t.c) → Face ts (f a) (f b) (f c)
push_turn f ts t a b c (inl e) k = subst (λ (s : Tri). Face ts (f s.a) (f s.b) (f s.c)) e k
push_turn f ts t a b c (inr (inl e)) k = Face_turn ts (f c) (f a) (f b) (Face_turn ts (f b) (f c) (f a) (subst (λ (s : Tri). Face ts (f s.a) (f s.b) (f s.c)) e k))
push_turn f ts t a b c (inr (inr e)) k = Face_turn ts (f c) (f a) (f b) (subst (λ (s : Tri). Face ts (f s.a) (f s.b) (f s.c)) e k)

-- a face that had not both names stays, renamed
pub face_after : (ts : List Tri) (u v a b c : ℕ) → Face ts a b c → Apart u v a b c → Face (collapsed_tris u v ts) (renamed u v a) (renamed u v b) (renamed u v c)
face_after ts u v a b c f n =
    push_turn (renamed u v) (collapsed_tris u v ts) f.0 a b c f.2 (Face-collapsed ts u v f.0 f.1 (not_and _ _ (λ i j. n (turns_has u f.0 a b c f.2 i) (turns_has v f.0 a b c f.2 j))))

-- two names that become one are one, or are u and v
pub merged : (u v x y : ℕ) → renamed u v x ≡ renamed u v y → (x ≡ y) ⊎ (((x ≡ u) × (y ≡ v)) ⊎ ((x ≡ v) × (y ≡ u)))
merged u v x y e =
    elim (eqb_tells x u) [
      | inl p ↦ elim (eqb_tells y u) [
        | inl q ↦ inl (p.1 ∙ sym q.1)
        | inr q ↦ inr (inl (p.1, sym (renamed-other u v y q.1) ∙ sym e ∙ ap (renamed u v) p.1 ∙ renamed-same u v))
      ]
      | inr p ↦ elim (eqb_tells y u) [
        | inl q ↦ inr (inr (sym (renamed-other u v x p.1) ∙ e ∙ ap (renamed u v) q.1 ∙ renamed-same u v, q.1))
        | inr q ↦ inl (sym (renamed-other u v x p.1) ∙ e ∙ renamed-other u v y q.1)
      ]
    ]
