-- The half-edges round an edge that is collapsed.
use Rattle.std.proofs.Common.{◌≡◌, ◌≢◌, ◌⊎◌, ℕ, Bool, true, false, cond, ◌||◌, eqb, Some, sym, ap, ◌∙◌, refl, subst}
use Rattle.std.proofs.Common.{inl, inr}
use Rattle.std.proofs.lemmas.Bool.{eqb-true, eq-eqb, ne_eqb, and_parts, and_from, or_cases, both_ways, cases_eq}
use Rattle.mesh_data.specs.declared.geometry.Tri.{Tri}
use Rattle.mesh_data.specs.Edits.{renamed}
use Rattle.mesh_data.specs.Links.{has_both}
use Rattle.mesh_data.specs.Triangles.{IsProper, has_corner}
use Rattle.triangle_edits.proofs.Turns.{corner_a, corner_b, corner_c}
use Rattle.half_edge.specs.declared.surgery.Half.{Half}
use Rattle.half_edge.specs.Halves.{Slots, at, HasFace, IsSound}
use Rattle.half_edge.specs.Collapses.{tri, Cut, IsCut}
use Rattle.half_edge.proofs.Sound.{same_face, next_face, last_face}

-- the half-edge at this key is there, and its triangle lacks one of the names
abbrev pub IsKept : Slots → ℕ → ℕ → ℕ → Half → Type 0
IsKept s u v k h = (at s k ≡ Some h) × (has_both u v h.face ≡ false)

-- where a name stands in a triangle
pub corner_cases : (v : ℕ) (t : Tri) → has_corner v t ≡ true → (t.a ≡ v) ⊎ ((t.b ≡ v) ⊎ (t.c ≡ v))
corner_cases v t h =
    elim (or_cases (eqb t.a v || eqb t.b v) (eqb t.c v) h) [
      | inl first ↦ elim (or_cases (eqb t.a v) (eqb t.b v) first) [
        | inl a ↦ inl (eqb-true t.a v a)
        | inr b ↦
            inr (inl (eqb-true t.b v b))
      ]
      | inr c ↦ inr (inr (eqb-true t.c v c))
    ]

-- an edge of one of the two triangles at the edge of u and v
abbrev pub IsInner : ℕ → ℕ → ℕ → ℕ → ℕ → ℕ → Type 0
IsInner u v a b c d =
    ((c ≡ u) × (d ≡ v)) ⊎ (((c ≡ v) × (d ≡ a)) ⊎
    (((c ≡ a) × (d ≡ u)) ⊎ (((c ≡ v) × (d ≡ u)) ⊎ (((c ≡ u) × (d ≡ b)) ⊎ ((c ≡ b) × (d ≡ v))))))

-- a half-edge of a triangle with both names is one of the six
pub inner_edge_of : (s : Slots) (u v a b e m k : ℕ) (h : Half) → IsSound s → u ≢ v → HasFace s e (tri u v a) →
    HasFace s m (tri v u b) → at s k ≡ Some h → has_both u v h.face ≡ true → IsInner u v a b h.face.a h.face.b
inner_edge_of s u v a b e m k h sound ends face_e face_m here both =
    let parts = and_parts (has_corner u h.face) (has_corner v h.face) both in
    let t = h.face in
    let proper = sound.proper k h here in
    let mine : HasFace s k t = (h, here, refl) in
    let next = next_face s k t sound mine in
    let last = last_face s k t sound mine in
    elim (corner_cases u t parts.0) [
      | inl ua ↦ elim (corner_cases v t parts.1) [
        | inl va ↦ absurd (ends (sym ua ∙ va))
        | inr more ↦ elim more [
          | inl vb ↦ inl (ua, vb)
          | inr vc ↦
              let is : last.1.0.face ≡ tri v u b = same_face s m last.0 (tri v u b) last.1.0 sound face_m last.1.1
              (ap (λ (x : Tri). x.a) last.1.2 ∙ vc) (ap (λ (x : Tri). x.b) last.1.2 ∙ ua) in
              inr (inr (inr (inr (inl (ua, sym (ap (λ (x : Tri). x.c) last.1.2) ∙ ap (λ (x : Tri). x.c) is)))))
        ]
      ]
      | inr later ↦ elim later [
        | inl ub ↦ elim (corner_cases v t parts.1) [
          | inl va ↦ inr (inr (inr (inl (va, ub))))
          | inr more ↦ elim more [
            | inl vb ↦ absurd (ends (sym ub ∙ vb))
            | inr vc ↦
                let is : next.1.0.face ≡ tri u v a = same_face s e next.0 (tri u v a) next.1.0 sound face_e next.1.1
                (ap (λ (x : Tri). x.a) next.1.2 ∙ ub) (ap (λ (x : Tri). x.b) next.1.2 ∙ vc) in
                inr (inr (inl (sym (ap (λ (x : Tri). x.c) next.1.2) ∙ ap (λ (x : Tri). x.c) is, ub)))
          ]
        ]
        | inr uc ↦ elim (corner_cases v t parts.1) [
          | inl va ↦
              let is : last.1.0.face ≡ tri u v a = same_face s e last.0 (tri u v a) last.1.0 sound face_e last.1.1
              (ap (λ (x : Tri). x.a) last.1.2 ∙ uc) (ap (λ (x : Tri). x.b) last.1.2 ∙ va) in
              inr (inl (va, sym (ap (λ (x : Tri). x.c) last.1.2) ∙ ap (λ (x : Tri). x.c) is))
          | inr more ↦ elim more [
            | inl vb ↦
                let is : next.1.0.face ≡ tri v u b = same_face s m next.0 (tri v u b) next.1.0 sound face_m next.1.1
                (ap (λ (x : Tri). x.a) next.1.2 ∙ vb) (ap (λ (x : Tri). x.b) next.1.2 ∙ uc) in
                inr (inr (inr (inr (inr (sym (ap (λ (x : Tri). x.c) next.1.2) ∙ ap (λ (x : Tri). x.c) is, vb)))))
            | inr vc ↦ absurd (ends (sym uc ∙ vc))
          ]
        ]
      ]
    ]

pub inner_edge : (s : Slots) (u v a b : ℕ) (c : Cut) (k : ℕ) (h : Half) → IsCut s u v a b c → at s k ≡ Some h →
    has_both u v h.face ≡ true → IsInner u v a b h.face.a h.face.b
inner_edge s u v a b c k h cut here both = inner_edge_of s u v a b c.e c.m k h cut.sound cut.ends cut.e cut.m here both

-- the names differ
pub record AreApart (u v a b : ℕ) : Type 0 where
  pub uv : u ≢ v
  pub ua : u ≢ a
  pub va : v ≢ a
  pub ub : u ≢ b
  pub vb : v ≢ b
  pub ab : a ≢ b

pub proper_of : (s : Slots) (k : ℕ) (t : Tri) → IsSound s → HasFace s k t → IsProper t
proper_of s k t sound h = subst IsProper h.2 (sound.proper k h.0 h.1)

pub names_apart : (s : Slots) (u v a b : ℕ) (c : Cut) → IsCut s u v a b c → AreApart u v a b
names_apart s u v a b c cut =
    let one = proper_of s c.e (tri u v a) cut.sound cut.e in
    let two = proper_of s c.m (tri v u b) cut.sound cut.m in
    record { uv = cut.ends; ua = λ e. one.2 (sym e); va = one.1; ub = two.1; vb = λ e. two.2 (sym e); ab = cut.apart }

-- no kept half-edge has an edge of the two triangles
dead : (s : Slots) (u v : ℕ) (f k : ℕ) (t : Tri) (h : Half) → IsSound s → HasFace s f t → has_both u v t ≡ true →
    IsKept s u v k h → h.face.a ≡ t.a → h.face.b ≡ t.b → ⊥
dead s u v f k t h sound there both kept a b =
    both_ways (has_both u v h.face) kept.1 (ap (has_both u v) (same_face s f k t h sound there kept.0 a b) ∙ both)

both_from : (u v : ℕ) (t : Tri) → has_corner u t ≡ true → has_corner v t ≡ true → has_both u v t ≡ true
both_from u v t x y = and_from (has_corner u t) (has_corner v t) x y

abbrev Dead : ℕ → ℕ → Half → Type 0
Dead c d h = h.face.a ≡ c → h.face.b ≡ d → ⊥

pub dead_uv : (s : Slots) (u v a b : ℕ) (c : Cut) (k : ℕ) (h : Half) → IsCut s u v a b c → IsKept s u v k h → Dead u v h
dead_uv s u v a b c k h cut kept x y =
    dead s u v c.e k (tri u v a) h cut.sound cut.e
    (both_from u v (tri u v a) (corner_a u (tri u v a) refl) (corner_b v (tri u v a) refl)) kept x y

pub dead_vu : (s : Slots) (u v a b : ℕ) (c : Cut) (k : ℕ) (h : Half) → IsCut s u v a b c → IsKept s u v k h → Dead v u h
dead_vu s u v a b c k h cut kept x y =
    dead s u v c.m k (tri v u b) h cut.sound cut.m
    (both_from u v (tri v u b) (corner_b u (tri v u b) refl) (corner_a v (tri v u b) refl)) kept x y

pub dead_va : (s : Slots) (u v a b : ℕ) (c : Cut) (k : ℕ) (h : Half) → IsCut s u v a b c → IsKept s u v k h → Dead v a h
dead_va s u v a b c k h cut kept x y =
    dead s u v c.f k (tri v a u) h cut.sound cut.f
    (both_from u v (tri v a u) (corner_c u (tri v a u) refl) (corner_a v (tri v a u) refl)) kept x y

pub dead_au : (s : Slots) (u v a b : ℕ) (c : Cut) (k : ℕ) (h : Half) → IsCut s u v a b c → IsKept s u v k h → Dead a u h
dead_au s u v a b c k h cut kept x y =
    dead s u v c.g k (tri a u v) h cut.sound cut.g
    (both_from u v (tri a u v) (corner_b u (tri a u v) refl) (corner_c v (tri a u v) refl)) kept x y

pub dead_ub : (s : Slots) (u v a b : ℕ) (c : Cut) (k : ℕ) (h : Half) → IsCut s u v a b c → IsKept s u v k h → Dead u b h
dead_ub s u v a b c k h cut kept x y =
    dead s u v c.n k (tri u b v) h cut.sound cut.n
    (both_from u v (tri u b v) (corner_a u (tri u b v) refl) (corner_c v (tri u b v) refl)) kept x y

pub dead_bv : (s : Slots) (u v a b : ℕ) (c : Cut) (k : ℕ) (h : Half) → IsCut s u v a b c → IsKept s u v k h → Dead b v h
dead_bv s u v a b c k h cut kept x y =
    dead s u v c.o k (tri b v u) h cut.sound cut.o
    (both_from u v (tri b v u) (corner_c u (tri b v u) refl) (corner_b v (tri b v u) refl)) kept x y

-- ---- names that become one

pub renamed_same : (u v x y : ℕ) → renamed u v x ≡ renamed u v y → (x ≡ y) ⊎ (((x ≡ u) × (y ≡ v)) ⊎ ((x ≡ v) × (y ≡ u)))
renamed_same u v x y h =
    elim (cases_eq x u) [
      | inl xu ↦ elim (cases_eq y u) [
        | inl yu ↦ inl (xu ∙ sym yu)
        | inr yn ↦ inr (inl (
          xu,
          sym (ap (λ (b : Bool). cond b v y) (ne_eqb y u yn)) ∙ sym h
              ∙ ap (λ (b : Bool). cond b v x) (eq-eqb x u xu),
        ))
      ]
      | inr xn ↦ elim (cases_eq y u) [
        | inl yu ↦ inr (inr (
          sym (ap (λ (b : Bool). cond b v x) (ne_eqb x u xn)) ∙ h
              ∙ ap (λ (b : Bool). cond b v y) (eq-eqb y u yu),
          yu,
        ))
        | inr yn ↦ inl (sym (ap (λ (b : Bool). cond b v x) (ne_eqb x u xn)) ∙ h
            ∙ ap (λ (b : Bool). cond b v y) (ne_eqb y u yn))
      ]
    ]

pub renamed_u : (u v x : ℕ) → x ≡ u → renamed u v x ≡ v
renamed_u u v x e = ap (λ (b : Bool). cond b v x) (eq-eqb x u e)

pub renamed_not : (u v x : ℕ) → x ≢ u → renamed u v x ≡ x
renamed_not u v x n = ap (λ (b : Bool). cond b v x) (ne_eqb x u n)

-- a name that a kept triangle with u and one with v share
pub shared : (s : Slots) (u v a b : ℕ) (c : Cut) (x k g : ℕ) (h i : Half) → IsCut s u v a b c → IsKept s u v k h →
    IsKept s u v g i → has_corner u h.face ≡ true → has_corner x h.face ≡ true → has_corner v i.face ≡ true →
    has_corner x i.face ≡ true → (x ≡ a) ⊎ (x ≡ b)
shared s u v a b c x k g h i cut kh ki hu hx iv ix =
    cut.unpinched x k g h i kh.0 ki.0 (both_from u x h.face hu hx) (both_from v x i.face iv ix)
    (λ xu. both_ways (has_both u v i.face) ki.1
    (both_from u v i.face (subst (λ (n : ℕ). has_corner n i.face ≡ true) xu ix) iv))
    (λ xv. both_ways (has_both u v h.face) kh.1
    (both_from u v h.face hu (subst (λ (n : ℕ). has_corner n h.face ≡ true) xv hx)))

-- no two kept edges that begin or end at one name become one
cross_from : (s : Slots) (u v a b : ℕ) (c : Cut) (x k g : ℕ) (h i : Half) → IsCut s u v a b c → IsKept s u v k h →
    IsKept s u v g i → h.face.a ≡ u → h.face.b ≡ x → i.face.a ≡ v → i.face.b ≡ x → ⊥
cross_from s u v a b c x k g h i cut kh ki ha hb ia ib =
    elim (shared s u v a b c x k g h i cut kh ki (corner_a u h.face ha) (corner_b x h.face hb) (corner_a v i.face ia)
    (corner_b x i.face ib)) [
      | inl xa ↦ dead_va s u v a b c g i cut ki ia (ib ∙ xa)
      | inr xb ↦ dead_ub s u v a b c k h cut kh ha (hb ∙ xb)
    ]

cross_to : (s : Slots) (u v a b : ℕ) (c : Cut) (x k g : ℕ) (h i : Half) → IsCut s u v a b c → IsKept s u v k h →
    IsKept s u v g i → h.face.a ≡ x → h.face.b ≡ u → i.face.a ≡ x → i.face.b ≡ v → ⊥
cross_to s u v a b c x k g h i cut kh ki ha hb ia ib =
    elim (shared s u v a b c x k g h i cut kh ki (corner_b u h.face hb) (corner_a x h.face ha) (corner_b v i.face ib)
    (corner_a x i.face ia)) [
      | inl xa ↦ dead_au s u v a b c k h cut kh (ha ∙ xa) hb
      | inr xb ↦ dead_bv s u v a b c g i cut ki (ia ∙ xb) ib
    ]

-- kept edges that become one are one
pub alone_after : (s : Slots) (u v a b : ℕ) (c : Cut) (k g : ℕ) (h i : Half) → IsCut s u v a b c → IsKept s u v k h →
    IsKept s u v g i → renamed u v h.face.a ≡ renamed u v i.face.a → renamed u v h.face.b ≡ renamed u v i.face.b → k ≡ g
alone_after s u v a b c k g h i cut kh ki ea eb =
    let proper = cut.sound.proper k h kh.0 in
    elim (renamed_same u v h.face.a i.face.a ea) [
      | inl sa ↦ elim (renamed_same u v h.face.b i.face.b eb) [
        | inl sb ↦ cut.sound.alone k g h.face.a h.face.b (h, kh.0, refl, refl) (i, ki.0, sym sa, sym sb)
        | inr rest ↦ elim rest [
          | inl hu ↦ absurd (cross_to s u v a b c h.face.a k g h i cut kh ki refl hu.0 (sym sa) hu.1)
          | inr hv ↦ absurd (cross_to s u v a b c h.face.a g k i h cut ki kh (sym sa) hv.1 refl hv.0)
        ]
      ]
      | inr ra ↦ elim ra [
        | inl hu ↦ elim (renamed_same u v h.face.b i.face.b eb) [
          | inl sb ↦ absurd (cross_from s u v a b c h.face.b k g h i cut kh ki hu.0 refl hu.1 (sym sb))
          | inr rest ↦ elim rest [
            | inl two ↦ absurd (proper.0 (hu.0 ∙ sym two.0))
            | inr two ↦
                absurd (dead_uv s u v a b c k h cut kh hu.0 two.0)
          ]
        ]
        | inr hv ↦ elim (renamed_same u v h.face.b i.face.b eb) [
          | inl sb ↦ absurd (cross_from s u v a b c h.face.b g k i h cut ki kh hv.1 (sym sb) hv.0 refl)
          | inr rest ↦ elim rest [
            | inl two ↦ absurd (dead_vu s u v a b c k h cut kh hv.0 two.0)
            | inr two ↦
                absurd (proper.0 (hv.0 ∙ sym two.0))
          ]
        ]
      ]
    ]

-- an edge whose triangle lies across one of the two dropped ones
abbrev pub IsOuter : ℕ → ℕ → ℕ → ℕ → Half → Type 0
IsOuter u v a b h =
    ((h.face.a ≡ a) × (h.face.b ≡ v)) ⊎
    (((h.face.a ≡ u) × (h.face.b ≡ a)) ⊎ (((h.face.a ≡ b) × (h.face.b ≡ u)) ⊎ ((h.face.a ≡ v) × (h.face.b ≡ b))))

abbrev pub IsOut : ℕ → ℕ → ℕ → ℕ → ℕ → ℕ → Type 0
IsOut u v a b c d =
    ((c ≡ a) × (d ≡ v)) ⊎ (((c ≡ u) × (d ≡ a)) ⊎ (((c ≡ b) × (d ≡ u)) ⊎ ((c ≡ v) × (d ≡ b))))

-- kept edges that become each other's reverse were so, or lie across the dropped triangles
pub reverse_after : (s : Slots) (u v a b : ℕ) (c : Cut) (k g : ℕ) (h i : Half) → IsCut s u v a b c → IsKept s u v k h →
    IsKept s u v g i → renamed u v i.face.a ≡ renamed u v h.face.b → renamed u v i.face.b ≡ renamed u v h.face.a →
    ((i.face.a ≡ h.face.b) × (i.face.b ≡ h.face.a)) ⊎ IsOuter u v a b h
reverse_after s u v a b c k g h i cut kh ki ea eb =
    let proper = cut.sound.proper k h kh.0 in
    let t = h.face in
    let r = i.face in
    elim (renamed_same u v r.a t.b ea) [
      | inl sa ↦ elim (renamed_same u v r.b t.a eb) [
        | inl sb ↦ inl (sa, sb)
        | inr rest ↦ elim rest [
          | inl iu ↦ elim (shared s u v a b c t.b g k i h cut ki kh (corner_b u r iu.0) (corner_a t.b r sa)
              (corner_a v t iu.1) (corner_b t.b t refl)) [
                | inl xa ↦ absurd (dead_au s u v a b c g i cut ki (sa ∙ xa) iu.0)
                | inr xb ↦ inr (inr (inr (inr (iu.1, xb))))
              ]
          | inr iv ↦ elim (shared s u v a b c t.b k g h i cut kh ki (corner_a u t iv.1) (corner_b t.b t refl)
              (corner_b v r iv.0) (corner_a t.b r sa)) [
                | inl xa ↦ inr (inr (inl (iv.1, xa)))
                | inr xb ↦ absurd (dead_bv s u v a b c g i cut ki (sa ∙ xb) iv.0)
              ]
        ]
      ]
      | inr ra ↦ elim ra [
        | inl iu ↦ elim (renamed_same u v r.b t.a eb) [
          | inl sb ↦ elim (shared s u v a b c t.a g k i h cut ki kh (corner_a u r iu.0) (corner_b t.a r sb)
              (corner_b v t iu.1) (corner_a t.a t refl)) [
                | inl xa ↦ inr (inl (xa, iu.1))
                | inr xb ↦ absurd (dead_ub s u v a b c g i cut ki iu.0 (sb ∙ xb))
              ]
          | inr rest ↦ elim rest [
            | inl two ↦ absurd (proper.0 (two.1 ∙ sym iu.1))
            | inr two ↦
                absurd (dead_uv s u v a b c k h cut kh two.1 iu.1)
          ]
        ]
        | inr iv ↦ elim (renamed_same u v r.b t.a eb) [
          | inl sb ↦ elim (shared s u v a b c t.a k g h i cut kh ki (corner_b u t iv.1) (corner_a t.a t refl)
              (corner_a v r iv.0) (corner_b t.a r sb)) [
                | inl xa ↦ absurd (dead_va s u v a b c g i cut ki iv.0 (sb ∙ xa))
                | inr xb ↦ inr (inr (inr (inl (xb, iv.1))))
              ]
          | inr rest ↦ elim rest [
            | inl two ↦ absurd (dead_vu s u v a b c k h cut kh two.1 iv.1)
            | inr two ↦
                absurd (proper.0 (two.1 ∙ sym iv.1))
          ]
        ]
      ]
    ]
