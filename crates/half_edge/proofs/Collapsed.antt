-- Half-edges after a collapse are sound, and make the list of triangles that the collapse leaves.
use Rattle.std.proofs.Common.{◌≡◌, ◌≢◌, ◌⊎◌, ℕ, suc, Bool, true, false, cond, not, ◌||◌, eqb, List, [], ◌∷◌, ◌++◌, map}
use Rattle.std.proofs.Common.{Option, Some, None, sym, ap, ◌∙◌, refl, subst, inl, inr}
use Rattle.std.proofs.lemmas.Bool.{false≢true, eqb-true, eq-eqb, ne_eqb, and_from, or_left, or_right, both_ways}
use Rattle.std.proofs.lemmas.Bool.{false_from_ne_true, cond_both}
use Rattle.std.specs.List.{filter, flat_map, list_any, AllByRecursion}
use Rattle.mesh_data.specs.declared.geometry.Tri.{Tri}
use Rattle.oemm_lists.specs.Ascending.{in_order}
use Rattle.mesh_data.specs.Edits.{renamed, substituted, collapsed_tris}
use Rattle.mesh_data.specs.Links.{has_both, is_name}
use Rattle.mesh_data.specs.Triangles.{IsProper, has_corner, turned, tri_cmp}
use Rattle.triangle_edits.proofs.Turns.{corner_a, corner_b, corner_c}
use Rattle.half_edge.specs.declared.surgery.Half.{Half}
use Rattle.half_edge.specs.Halves.{Slots, at, from_next, HasFace, Goes, IsTwin, IsSound, HasLead, dropped, joined}
use Rattle.half_edge.specs.Halves.{twin_joined, all_put, led_face, faces_of}
use Rattle.half_edge.specs.Collapses.{tri, Cut, IsCut, IsAfter}
use Rattle.half_edge.proofs.Leads.{led_after, changed_in_order, turned_by, both_turned, both_next}
use Rattle.half_edge.proofs.Sound.{one_half, same_key}
use Rattle.half_edge.proofs.Cuts.{IsKept, IsInner, IsOut, AreApart, inner_edge, names_apart, alone_after, reverse_after}
use Rattle.half_edge.proofs.Cuts.{renamed_u, renamed_not, renamed_same, dead_uv, dead_vu, dead_au, dead_ub}

abbrev pub inner_keys : Cut → List ℕ
inner_keys c = c.e ∷ c.f ∷ c.g ∷ c.m ∷ c.n ∷ c.o ∷ []

abbrev pub twin_after : Cut → ℕ → Option ℕ → Option ℕ
twin_after c k twin = twin_joined c.w c.t k (twin_joined c.p c.q k twin)

-- a kept half-edge after the collapse
abbrev pub moved : ℕ → ℕ → Cut → ℕ → Half → Half
moved u v c k h = record { face = substituted u v h.face; lead = h.lead; next = h.next; twin = twin_after c k h.twin }

-- ---- the triangle

-- a name of a kept triangle other than u is itself
proper_put : (u v : ℕ) (t : Tri) → IsProper t → has_both u v t ≡ false → IsProper (substituted u v t)
proper_put u v t p lacks = (
  differ t.a t.b p.0 (λ x y. corner_a u t x) (λ y. corner_b v t y) (λ x. corner_a v t x) (λ y. corner_b u t y),
  differ t.b t.c p.1 (λ x y. corner_b u t x) (λ y. corner_c v t y) (λ x. corner_b v t x) (λ y. corner_c u t y),
  differ t.c t.a p.2 (λ x y. corner_c u t x) (λ y. corner_a v t y) (λ x. corner_c v t x) (λ y. corner_a u t y),
)
  where
    differ : (x y : ℕ) → x ≢ y → (x ≡ u → y ≡ v → has_corner u t ≡ true) → (y ≡ v → has_corner v t ≡ true) →
        (x ≡ v → has_corner v t ≡ true) → (y ≡ u → has_corner u t ≡ true) → renamed u v x ≢ renamed u v y
    differ x y n xu yv xv yu e =
        elim (renamed_same u v x y e) [
          | inl same ↦ n same
          | inr rest ↦ elim rest [
            | inl two ↦ both_ways (has_both u v t) lacks
                (and_from (has_corner u t) (has_corner v t) (xu two.0 two.1) (yv two.1))
            | inr two ↦ both_ways (has_both u v t) lacks
                (and_from (has_corner u t) (has_corner v t) (yu two.1) (xv two.0))
          ]
        ]

-- ---- which keys are dropped

not_key : (s : Slots) (u v f k : ℕ) (t : Tri) (h : Half) → HasFace s f t → has_both u v t ≡ true → IsKept s u v k h →
    eqb k f ≡ false
not_key s u v f k t h there both kept =
    ne_eqb k f (λ same.
    let here : at s k ≡ Some there.0 = ap (at s) same ∙ there.1 in
    both_ways (has_both u v h.face) kept.1 (ap (λ (x : Half). has_both u v x.face) (one_half s k h there.0 kept.0 here)
    ∙ ap (has_both u v) there.2 ∙ both))

pub kept_key : (s : Slots) (u v a b : ℕ) (c : Cut) (k : ℕ) (h : Half) → IsCut s u v a b c → IsKept s u v k h →
    list_any (λ i. eqb k i) (inner_keys c) ≡ false
kept_key s u v a b c k h cut kept =
    let both = λ (t : Tri) (x : has_corner u t ≡ true) (y : has_corner v t ≡ true).
    and_from (has_corner u t) (has_corner v t) x y in
    let ke : eqb k c.e ≡ false =
    not_key s u v c.e k (tri u v a) h cut.e
    (both (tri u v a) (corner_a u (tri u v a) refl) (corner_b v (tri u v a) refl)) kept in
    let kf : eqb k c.f ≡ false =
    not_key s u v c.f k (tri v a u) h cut.f
    (both (tri v a u) (corner_c u (tri v a u) refl) (corner_a v (tri v a u) refl)) kept in
    let kg : eqb k c.g ≡ false =
    not_key s u v c.g k (tri a u v) h cut.g
    (both (tri a u v) (corner_b u (tri a u v) refl) (corner_c v (tri a u v) refl)) kept in
    let km : eqb k c.m ≡ false =
    not_key s u v c.m k (tri v u b) h cut.m
    (both (tri v u b) (corner_b u (tri v u b) refl) (corner_a v (tri v u b) refl)) kept in
    let kn : eqb k c.n ≡ false =
    not_key s u v c.n k (tri u b v) h cut.n
    (both (tri u b v) (corner_a u (tri u b v) refl) (corner_c v (tri u b v) refl)) kept in
    let ko : eqb k c.o ≡ false =
    not_key s u v c.o k (tri b v u) h cut.o
    (both (tri b v u) (corner_c u (tri b v u) refl) (corner_b v (tri b v u) refl)) kept in
    (λ i. ke i || (kf i || (kg i || (km i || (kn i || (ko i || false))))))

pub inner_key : (s : Slots) (u v a b : ℕ) (c : Cut) (k : ℕ) (h : Half) → IsCut s u v a b c → at s k ≡ Some h →
    has_both u v h.face ≡ true → list_any (λ i. eqb k i) (inner_keys c) ≡ true
inner_key s u v a b c k h cut here both =
    let is = λ (f : ℕ) (t : Tri) (there : HasFace s f t) (x : h.face.a ≡ t.a) (y : h.face.b ≡ t.b).
    eq-eqb k f (sym (same_key s f k t cut.sound there (h, here, x, y))) in
    let later = λ (x y : Bool) (p : y ≡ true). or_right x y p in
    elim (inner_edge s u v a b c k h cut here both) [
      | inl e ↦ or_left (eqb k c.e) _ (is c.e (tri u v a) cut.e e.0 e.1)
      | inr r ↦ later (eqb k c.e) _ (elim r [
        | inl e ↦ or_left (eqb k c.f) _ (is c.f (tri v a u) cut.f e.0 e.1)
        | inr r2 ↦ later (eqb k c.f) _ (elim r2 [
          | inl e ↦ or_left (eqb k c.g) _ (is c.g (tri a u v) cut.g e.0 e.1)
          | inr r3 ↦ later (eqb k c.g) _ (elim r3 [
            | inl e ↦ or_left (eqb k c.m) _ (is c.m (tri v u b) cut.m e.0 e.1)
            | inr r4 ↦ later (eqb k c.m) _ (elim r4 [
              | inl e ↦ or_left (eqb k c.n) _ (is c.n (tri u b v) cut.n e.0 e.1)
              | inr e ↦ later (eqb k c.n) _ (or_left (eqb k c.o) false (is c.o (tri b v u) cut.o e.0 e.1))
            ])
          ])
        ])
      ])
    ]

-- ---- what is at a key after the collapse

pub there_after : (s r : Slots) (u v a b : ℕ) (c : Cut) (k : ℕ) (h : Half) → IsCut s u v a b c → IsAfter s r u v c →
    IsKept s u v k h → at r k ≡ Some (moved u v c k h)
there_after s r u v a b c k h cut after kept =
    after k
    ∙ ap (λ (b : Bool). cond b None (joined c.w c.t k (joined c.p c.q k (all_put u v (at s k)))))
    (kept_key s u v a b c k h cut kept)
    ∙ ap (λ (o : Option Half). joined c.w c.t k (joined c.p c.q k (all_put u v o))) kept.0

pub was_before : (s r : Slots) (u v a b : ℕ) (c : Cut) (k : ℕ) (i : Half) → IsCut s u v a b c → IsAfter s r u v c →
    at r k ≡ Some i → (h : Half) × IsKept s u v k h × (i ≡ moved u v c k h)
was_before s r u v a b c k i cut after here =
    elim (at s k) as (λ o. at s k ≡ o → (h : Half) × IsKept s u v k h × (i ≡ moved u v c k h)) [
      | None ↦ λ none. absurd (nothing none)
      | Some h ↦ λ some. elim (has_both u v h.face) as (λ b. has_both u v h.face ≡ b →
          (h : Half) × IsKept s u v k h × (i ≡ moved u v c k h)) [
            | true ↦ λ both. absurd (gone h some both)
            | false ↦ λ lacks. (
              h,
              (some, lacks),
              one_half r k i (moved u v c k h) here (there_after s r u v a b c k h cut after (some, lacks)),
            )
          ] refl
    ] refl
  where
    gone : (h : Half) → at s k ≡ Some h → has_both u v h.face ≡ true → ⊥
    gone h some both =
        let none : at r k ≡ None = after k
        ∙ ap (λ (b : Bool). cond b None (joined c.w c.t k (joined c.p c.q k (all_put u v (at s k)))))
        (inner_key s u v a b c k h cut some both) in
        let clash : Some i ≡ None = sym here ∙ none in
        cc

    nothing : at s k ≡ None → ⊥
    nothing none =
        let empty : at r k ≡ None = after k
        ∙ ap (λ (o : Option Half). dropped (inner_keys c) k (joined c.w c.t k (joined c.p c.q k (all_put u v o))))
        none ∙ cond_both (list_any (λ j. eqb k j) (inner_keys c)) None None (λ (o : Option Half). o ≡ None)
        (λ _. refl) (λ _. refl) in
        let clash : Some i ≡ None = sym here ∙ empty in
        cc

-- ---- soundness

pub merge : (u v x y : ℕ) → u ≢ v → x ≡ u → y ≡ v → renamed u v x ≡ renamed u v y
merge u v x y n xu yv = renamed_u u v x xu ∙ sym yv ∙ sym (renamed_not u v y (λ e. n (sym e ∙ yv)))

renamed_other : (u v x y : ℕ) → renamed u v x ≡ renamed u v y → y ≢ u → y ≢ v → x ≡ y
renamed_other u v x y e nu nv =
    elim (renamed_same u v x y e) [
      | inl same ↦ same
      | inr rest ↦
          elim rest [ inl two ↦ absurd (nv two.1) | inr two ↦ absurd (nu two.1) ]
    ]

renamed_either : (u v x y : ℕ) → renamed u v x ≡ renamed u v y → (y ≡ u) ⊎ (y ≡ v) → (x ≡ u) ⊎ (x ≡ v)
renamed_either u v x y e which =
    elim (renamed_same u v x y e) [
      | inl same ↦ elim which [ inl yu ↦ inl (same ∙ yu) | inr yv ↦ inr (same ∙ yv) ]
      | inr rest ↦ elim rest [ inl two ↦ inl two.0 | inr two ↦ inr two.0 ]
    ]

named : (o : Option ℕ) (k : ℕ) → is_name o k ≡ true → o ≡ Some k
named None k h = absurd (false≢true h)
named (Some x) k h = ap (λ (n : ℕ). Some n) (eqb-true x k h)

not_inner : (u v a b c d : ℕ) → ((c ≡ u) × (d ≡ v) → ⊥) → ((c ≡ v) × (d ≡ a) → ⊥) → ((c ≡ a) × (d ≡ u) → ⊥) →
    ((c ≡ v) × (d ≡ u) → ⊥) → ((c ≡ u) × (d ≡ b) → ⊥) → ((c ≡ b) × (d ≡ v) → ⊥) → IsInner u v a b c d → ⊥
not_inner u v a b c d n1 n2 n3 n4 n5 n6 is =
    elim is [
      | inl e ↦ n1 e
      | inr r ↦ elim r [
        | inl e ↦ n2 e
        | inr r2 ↦ elim r2 [
          | inl e ↦ n3 e
          | inr r3 ↦ elim r3 [ inl e ↦ n4 e | inr r4 ↦ elim r4 [ inl e ↦ n5 e | inr e ↦ n6 e ] ]
        ]
      ]
    ]

-- the four half-edges that lie across the dropped triangles are kept
pub alive : (s : Slots) (u v a b : ℕ) (c : Cut) (k d f : ℕ) → IsCut s u v a b c → (IsInner u v a b d f → ⊥) →
    (go : Goes s k d f) → IsKept s u v k go.0
alive s u v a b c k d f cut outer go = (
  go.1,
  false_from_ne_true (has_both u v go.0.face)
      (λ both. outer (subst (λ (x : ℕ). IsInner u v a b x f) go.2
      (subst (λ (y : ℕ). IsInner u v a b go.0.face.a y) go.3 (inner_edge s u v a b c k go.0 cut go.1 both)))),
)

pub outer_av : (u v a b : ℕ) → AreApart u v a b → IsInner u v a b a v → ⊥
outer_av u v a b n is =
    let uv = n.uv in let ua = n.ua in let va = n.va in let ub = n.ub in let vb = n.vb in let ab = n.ab in
    not_inner u v a b a v (λ e. ua (sym e.0)) (λ e. va (sym e.0)) (λ e. uv (sym e.1)) (λ e. va (sym e.0))
    (λ e. ua (sym e.0)) (λ e. ab e.0) is

pub outer_ua : (u v a b : ℕ) → AreApart u v a b → IsInner u v a b u a → ⊥
outer_ua u v a b n is =
    not_inner u v a b u a (λ e. n.va (sym e.1)) (λ e. n.uv e.0) (λ e. n.ua e.0) (λ e. n.uv e.0) (λ e. n.ab e.1)
    (λ e. n.ub e.0) is

pub outer_bu : (u v a b : ℕ) → AreApart u v a b → IsInner u v a b b u → ⊥
outer_bu u v a b n is =
    not_inner u v a b b u (λ e. n.ub (sym e.0)) (λ e. n.vb (sym e.0)) (λ e. n.ab (sym e.0)) (λ e. n.vb (sym e.0))
    (λ e. n.ub (sym e.0)) (λ e. n.uv e.1) is

pub outer_vb : (u v a b : ℕ) → AreApart u v a b → IsInner u v a b v b → ⊥
outer_vb u v a b n is =
    not_inner u v a b v b (λ e. n.uv (sym e.0)) (λ e. n.ab (sym e.1)) (λ e. n.va e.0) (λ e. n.ub (sym e.1))
    (λ e. n.uv (sym e.0)) (λ e. n.vb e.0) is

-- two kept half-edges whose edges become each other's reverse
paired : (s r : Slots) (u v a b : ℕ) (c : Cut) (k g : ℕ) (h i : Half) → IsCut s u v a b c → IsAfter s r u v c →
    IsKept s u v g i → renamed u v i.face.a ≡ renamed u v h.face.b → renamed u v i.face.b ≡ renamed u v h.face.a →
    IsTwin r (renamed u v h.face.a) (renamed u v h.face.b) (Some g)
paired s r u v a b c k g h i cut after ki ea eb = (moved u v c g i, there_after s r u v a b c g i cut after ki, ea, eb)

-- what goes the other way after the collapse
reversed_by : (s r : Slots) (u v a b : ℕ) (c : Cut) (g d f : ℕ) → IsCut s u v a b c → IsAfter s r u v c →
    Goes r g (renamed u v f) (renamed u v d) →
    (i : Half) × IsKept s u v g i × (renamed u v i.face.a ≡ renamed u v f) × (renamed u v i.face.b ≡ renamed u v d)
reversed_by s r u v a b c g d f cut after go =
    let was = was_before s r u v a b c g go.0 cut after go.1 in
    (was.0, was.1, sym (ap (λ (x : Half). x.face.a) was.2) ∙ go.2, sym (ap (λ (x : Half). x.face.b) was.2) ∙ go.3)

-- from where to where the half-edge at a key goes
ends_of : (s : Slots) (k d f : ℕ) (h : Half) → at s k ≡ Some h → Goes s k d f → (h.face.a ≡ d) × (h.face.b ≡ f)
ends_of s k d f h here go =
    let same = one_half s k h go.0 here go.1 in
    (ap (λ (i : Half). i.face.a) same ∙ go.2, ap (λ (i : Half). i.face.b) same ∙ go.3)

-- a half-edge that is told across the edge of x and y, and the one from d to f, which becomes its reverse
joined_ahead : (s r : Slots) (u v a b : ℕ) (c : Cut) (k g : ℕ) (h : Half) (o : Option ℕ) (x y d f : ℕ) →
    IsCut s u v a b c → IsAfter s r u v c → IsKept s u v k h → is_name o k ≡ true → IsTwin s x y o → Goes s g d f →
    (IsInner u v a b d f → ⊥) → renamed u v d ≡ renamed u v x → renamed u v f ≡ renamed u v y →
    IsTwin r (renamed u v h.face.a) (renamed u v h.face.b) (Some g)
joined_ahead s r u v a b c k g h o x y d f cut after kept is told there outer from to =
    let go : Goes s k y x = subst (IsTwin s x y) (named o k is) told in
    let ends = ends_of s k y x h kept.0 go in
    paired s r u v a b c k g h there.0 cut after (alive s u v a b c g d f cut outer there)
    (ap (renamed u v) there.2 ∙ from ∙ ap (renamed u v) (sym ends.1))
    (ap (renamed u v) there.3 ∙ to ∙ ap (renamed u v) (sym ends.0))

-- the half-edge from d to f, whose reverse becomes the one that is told across the edge of x and y
joined_back : (s r : Slots) (u v a b : ℕ) (c : Cut) (k : ℕ) (h : Half) (x y d f : ℕ) → IsCut s u v a b c →
    IsAfter s r u v c → h.face.a ≡ d → h.face.b ≡ f → (IsInner u v a b y x → ⊥) → renamed u v d ≡ renamed u v x →
    renamed u v f ≡ renamed u v y →
    ((g : ℕ) (i : Half) → IsKept s u v g i → renamed u v i.face.a ≡ renamed u v f →
    renamed u v i.face.b ≡ renamed u v d → (i.face.a ≡ y) × (i.face.b ≡ x)) → (o : Option ℕ) → IsTwin s x y o →
    IsTwin r (renamed u v h.face.a) (renamed u v h.face.b) o
joined_back s r u v a b c k h x y d f cut after ha hb outer from to back None lone =
    λ g go.
    let was = reversed_by s r u v a b c g h.face.a h.face.b cut after go in
    let ends = back g was.0 was.1 (was.2 ∙ ap (renamed u v) hb) (was.3 ∙ ap (renamed u v) ha) in
    lone g (was.0, was.1.0, ends.0, ends.1)
joined_back s r u v a b c k h x y d f cut after ha hb outer from to back (Some g) go =
    paired s r u v a b c k g h go.0 cut after (alive s u v a b c g y x cut outer go)
    (ap (renamed u v) go.2 ∙ sym to ∙ ap (renamed u v) (sym hb))
    (ap (renamed u v) go.3 ∙ sym from ∙ ap (renamed u v) (sym ha))

-- u becomes v
u_as_v : (u v : ℕ) → u ≢ v → renamed u v u ≡ renamed u v v
u_as_v u v n = merge u v u v n refl refl

twin_w : (s r : Slots) (u v a b : ℕ) (c : Cut) (k : ℕ) (h : Half) → IsCut s u v a b c → IsAfter s r u v c →
    IsKept s u v k h → is_name c.w k ≡ true → IsTwin r (renamed u v h.face.a) (renamed u v h.face.b) (Some c.t)
twin_w s r u v a b c k h cut after kept is =
    let n = names_apart s u v a b c cut in
    joined_ahead s r u v a b c k c.t h c.w b v b u cut after kept is cut.w cut.t (outer_bu u v a b n) refl
    (u_as_v u v n.uv)

twin_p : (s r : Slots) (u v a b : ℕ) (c : Cut) (k : ℕ) (h : Half) → IsCut s u v a b c → IsAfter s r u v c →
    IsKept s u v k h → is_name c.p k ≡ true → IsTwin r (renamed u v h.face.a) (renamed u v h.face.b) (Some c.q)
twin_p s r u v a b c k h cut after kept is =
    let n = names_apart s u v a b c cut in
    joined_ahead s r u v a b c k c.q h c.p v a u a cut after kept is cut.p cut.q (outer_ua u v a b n)
    (u_as_v u v n.uv) refl

twin_t : (s r : Slots) (u v a b : ℕ) (c : Cut) (k : ℕ) (h : Half) → IsCut s u v a b c → IsAfter s r u v c →
    h.face.a ≡ b → h.face.b ≡ u → IsTwin r (renamed u v h.face.a) (renamed u v h.face.b) c.w
twin_t s r u v a b c k h cut after ha hb =
    let n = names_apart s u v a b c cut in
    joined_back s r u v a b c k h b v b u cut after ha hb (outer_vb u v a b n) refl (u_as_v u v n.uv)
    (λ g i kept from to.
    let at_b : i.face.b ≡ b = renamed_other u v i.face.b b to (λ e. n.ub (sym e)) (λ e. n.vb (sym e)) in
    elim (renamed_either u v i.face.a u from (inl refl)) [
      | inl at_u ↦ absurd (dead_ub s u v a b c g i cut kept at_u at_b)
      | inr at_v ↦ (at_v, at_b)
    ]) c.w cut.w

twin_q : (s r : Slots) (u v a b : ℕ) (c : Cut) (k : ℕ) (h : Half) → IsCut s u v a b c → IsAfter s r u v c →
    h.face.a ≡ u → h.face.b ≡ a → IsTwin r (renamed u v h.face.a) (renamed u v h.face.b) c.p
twin_q s r u v a b c k h cut after ha hb =
    let n = names_apart s u v a b c cut in
    joined_back s r u v a b c k h v a u a cut after ha hb (outer_av u v a b n) (u_as_v u v n.uv) refl
    (λ g i kept from to.
    let at_a : i.face.a ≡ a = renamed_other u v i.face.a a from (λ e. n.ua (sym e)) (λ e. n.va (sym e)) in
    elim (renamed_either u v i.face.b u to (inl refl)) [
      | inl at_u ↦ absurd (dead_au s u v a b c g i cut kept at_a at_u)
      | inr at_v ↦ (at_a, at_v)
    ]) c.p cut.p

-- the key of an edge that has a twin
told : (s : Slots) (d f : ℕ) (o : Option ℕ) (k : ℕ) → IsSound s → IsTwin s d f o → Goes s k f d → is_name o k ≡ true
told s d f None k sound lone go = absurd (lone k go)
told s d f (Some x) k sound there go = eq-eqb x k (sound.alone x k f d there go)

-- a half-edge across a dropped triangle is one of the four
no_outer : (s : Slots) (u v a b : ℕ) (c : Cut) (k : ℕ) (h : Half) → IsCut s u v a b c → IsKept s u v k h →
    is_name c.w k ≡ false → eqb k c.t ≡ false → is_name c.p k ≡ false → eqb k c.q ≡ false → (d f : ℕ) → h.face.a ≡ d →
    h.face.b ≡ f → IsOut u v a b d f → ⊥
no_outer s u v a b c k h cut kept nw nt np nq d f ha hb out =
    let go : Goes s k d f = (h, kept.0, ha, hb) in
    elim out [
      | inl e ↦ both_ways (is_name c.p k) np (told s v a c.p k cut.sound cut.p (h, kept.0, ha ∙ e.0, hb ∙ e.1))
      | inr r ↦ elim r [
        | inl e ↦ both_ways (eqb k c.q) nq
            (eq-eqb k c.q (cut.sound.alone k c.q u a (h, kept.0, ha ∙ e.0, hb ∙ e.1) cut.q))
        | inr r2 ↦ elim r2 [
          | inl e ↦ both_ways (eqb k c.t) nt
              (eq-eqb k c.t (cut.sound.alone k c.t b u (h, kept.0, ha ∙ e.0, hb ∙ e.1) cut.t))
          | inr e ↦ both_ways (is_name c.w k) nw (told s b v c.w k cut.sound cut.w (h, kept.0, ha ∙ e.0, hb ∙ e.1))
        ]
      ]
    ]

-- all others keep their twins
twin_other : (s r : Slots) (u v a b : ℕ) (c : Cut) (k : ℕ) (h : Half) → IsCut s u v a b c → IsAfter s r u v c →
    IsKept s u v k h → is_name c.w k ≡ false → eqb k c.t ≡ false → is_name c.p k ≡ false → eqb k c.q ≡ false →
    (o : Option ℕ) → IsTwin s h.face.a h.face.b o → IsTwin r (renamed u v h.face.a) (renamed u v h.face.b) o
twin_other s r u v a b c k h cut after kept nw nt np nq None lone =
    λ g go.
    let was = reversed_by s r u v a b c g h.face.a h.face.b cut after go in
    elim (reverse_after s u v a b c k g h was.0 cut kept was.1 was.2 was.3) [
      | inl two ↦ lone g (was.0, was.1.0, two.0, two.1)
      | inr out ↦ no_outer s u v a b c k h cut kept nw nt np nq h.face.a h.face.b refl refl out
    ]
twin_other s r u v a b c k h cut after kept nw nt np nq (Some g) go =
    let kept_g : IsKept s u v g go.0 = (
      go.1,
      false_from_ne_true (has_both u v go.0.face) (λ both.
          not_inner u v a b go.0.face.a go.0.face.b
          (λ e. dead_vu s u v a b c k h cut kept (sym go.3 ∙ e.1) (sym go.2 ∙ e.0))
          (λ e. no_outer s u v a b c k h cut kept nw nt np nq a v (sym go.3 ∙ e.1) (sym go.2 ∙ e.0) (inl (refl, refl)))
          (λ e. no_outer s u v a b c k h cut kept nw nt np nq u a (sym go.3 ∙ e.1) (sym go.2 ∙ e.0)
          (inr (inl (refl, refl))))
          (λ e. dead_uv s u v a b c k h cut kept (sym go.3 ∙ e.1) (sym go.2 ∙ e.0))
          (λ e. no_outer s u v a b c k h cut kept nw nt np nq b u (sym go.3 ∙ e.1) (sym go.2 ∙ e.0)
          (inr (inr (inl (refl, refl)))))
          (λ e. no_outer s u v a b c k h cut kept nw nt np nq v b (sym go.3 ∙ e.1) (sym go.2 ∙ e.0)
          (inr (inr (inr (refl, refl)))))
          (inner_edge s u v a b c g go.0 cut go.1 both)),
    ) in
    paired s r u v a b c k g h go.0 cut after kept_g (ap (renamed u v) go.2) (ap (renamed u v) go.3)

twins_after : (s r : Slots) (u v a b : ℕ) (c : Cut) (k : ℕ) (h : Half) → IsCut s u v a b c → IsAfter s r u v c →
    IsKept s u v k h → IsTwin r (renamed u v h.face.a) (renamed u v h.face.b) (twin_after c k h.twin)
twins_after s r u v a b c k h cut after kept =
    let is_twin : Option ℕ → Type 0 = IsTwin r (renamed u v h.face.a) (renamed u v h.face.b) in
    let first = twin_joined c.p c.q k h.twin in
    cond_both (is_name c.w k) (Some c.t) (cond (eqb k c.t) c.w first) is_twin
    (λ is. twin_w s r u v a b c k h cut after kept is)
    (λ nw. cond_both (eqb k c.t) c.w first is_twin
    (λ is.
    let ends = ends_of s c.t b u h (ap (at s) (sym (eqb-true k c.t is)) ∙ kept.0) cut.t in
    twin_t s r u v a b c k h cut after ends.0 ends.1)
    (λ nt. cond_both (is_name c.p k) (Some c.q) (cond (eqb k c.q) c.p h.twin) is_twin
    (λ is. twin_p s r u v a b c k h cut after kept is)
    (λ np. cond_both (eqb k c.q) c.p h.twin is_twin
    (λ is.
    let ends = ends_of s c.q u a h (ap (at s) (sym (eqb-true k c.q is)) ∙ kept.0) cut.q in
    twin_q s r u v a b c k h cut after ends.0 ends.1)
    (λ nq. twin_other s r u v a b c k h cut after kept nw nt np nq h.twin (cut.sound.twins k h kept.0)))))

-- the half-edges of a kept triangle are kept
pub next_kept : (s : Slots) (u v k : ℕ) (h i : Half) → IsSound s → IsKept s u v k h → at s h.next ≡ Some i →
    IsKept s u v h.next i
next_kept s u v k h i sound kept there =
    let turn = sound.turns k h kept.0 in
    let same = one_half s h.next i turn.0 there turn.1 in
    (there, ap (λ (x : Half). has_both u v x.face) same ∙ ap (has_both u v) turn.2 ∙ both_next u v h.face ∙ kept.1)

turns_after : (s r : Slots) (u v a b : ℕ) (c : Cut) (k : ℕ) (h : Half) → IsCut s u v a b c → IsAfter s r u v c →
    IsKept s u v k h → HasFace r h.next (from_next (substituted u v h.face))
turns_after s r u v a b c k h cut after kept =
    let turn = cut.sound.turns k h kept.0 in
    let there = next_kept s u v k h turn.0 cut.sound kept turn.1 in
    (moved u v c h.next turn.0, there_after s r u v a b c h.next turn.0 cut after there, ap (substituted u v) turn.2)

leads_after : (s r : Slots) (u v a b : ℕ) (c : Cut) (k : ℕ) (h : Half) → IsCut s u v a b c → IsAfter s r u v c →
    IsKept s u v k h → HasLead r (moved u v c k h)
leads_after s r u v a b c k h cut after kept =
    elim (cut.sound.leads k h kept.0) [
      | inl here ↦ inl here
      | inr more ↦
          let i = more.0 in
          let ki = next_kept s u v k h i cut.sound kept more.1 in
          let ri = there_after s r u v a b c h.next i cut after ki in
          elim more.2 [
            | inl there ↦ inr (moved u v c h.next i, ri, inl there)
            | inr last ↦
                let kj = next_kept s u v h.next i last.0 cut.sound ki last.1 in
                inr (
                  moved u v c h.next i,
                  ri,
                  inr (moved u v c i.next last.0, there_after s r u v a b c i.next last.0 cut after kj, last.2),
                )
          ]
    ]

pub sound_after : (s r : Slots) (u v a b : ℕ) (c : Cut) → IsCut s u v a b c → IsAfter s r u v c → IsSound r
sound_after s r u v a b c cut after =
    record {
      proper = λ k i here. let was = was_before s r u v a b c k i cut after here in
          subst (λ (x : Half). IsProper x.face) (sym was.2)
          (proper_put u v was.0.face (cut.sound.proper k was.0 was.1.0) was.1.1);
      turns = λ k i here. let was = was_before s r u v a b c k i cut after here in
          subst (λ (x : Half). HasFace r x.next (from_next x.face)) (sym was.2)
          (turns_after s r u v a b c k was.0 cut after was.1);
      alone = λ k g d f one other.
          let h = was_before s r u v a b c k one.0 cut after one.1 in
          let i = was_before s r u v a b c g other.0 cut after other.1 in
          alone_after s u v a b c k g h.0 i.0 cut h.1 i.1 (sym (ap (λ (x : Half). x.face.a) h.2) ∙ one.2 ∙ sym other.2
          ∙ ap (λ (x : Half). x.face.a) i.2) (sym (ap (λ (x : Half). x.face.b) h.2) ∙ one.3 ∙ sym other.3
          ∙ ap (λ (x : Half). x.face.b) i.2);
      twins = λ k i here. let was = was_before s r u v a b c k i cut after here in
          subst (λ (x : Half). IsTwin r x.face.a x.face.b x.twin) (sym was.2)
          (twins_after s r u v a b c k was.0 cut after was.1);
      leads = λ k i here. let was = was_before s r u v a b c k i cut after here in
          subst (HasLead r) (sym was.2) (leads_after s r u v a b c k was.0 cut after was.1);
    }

-- ---- the list of triangles

all_append : (P : Tri → Type 0) (ss ts : List Tri) → AllByRecursion P ss → AllByRecursion P ts →
    AllByRecursion P (ss ++ ts)
all_append P [] ts x y = y
all_append P (t ∷ ss) ts x y = (x.0, all_append P ss ts x.1 y)

-- what holds of the triangle of each half-edge holds of those for which one stands
pub all_led : (P : Tri → Type 0) (s : Slots) → ((k : ℕ) (h : Half) → at s k ≡ Some h → P h.face) →
    AllByRecursion P (flat_map led_face s)
all_led P [] each = tt
all_led P (None ∷ s) each = all_led P s (λ k h here. each (suc k) h here)
all_led P (Some h ∷ s) each =
    all_append P (led_face (Some h)) (flat_map led_face s)
    (elim h.lead as (λ b. AllByRecursion P (cond b (h.face ∷ []) [])) [ true ↦ (each 0 h refl, tt) | false ↦ tt ])
    (all_led P s (λ k i here. each (suc k) i here))

led_kept : (u v : ℕ) (lead : Bool) (t : Tri) → has_both u v t ≡ false →
    cond lead (substituted u v t ∷ []) [] ≡ map (substituted u v)
    (filter (λ x. not (has_both u v x)) (cond lead (t ∷ []) []))
led_kept u v true t lacks = sym (ap (λ (b : Bool). map (substituted u v) (cond (not b) (t ∷ []) [])) lacks)
led_kept u v false t lacks = refl

led_gone : (u v : ℕ) (lead : Bool) (t : Tri) → has_both u v t ≡ true →
    [] ≡ map (substituted u v) (filter (λ x. not (has_both u v x)) (cond lead (t ∷ []) []))
led_gone u v true t both = sym (ap (λ (b : Bool). map (substituted u v) (cond (not b) (t ∷ []) [])) both)
led_gone u v false t both = refl

led_at : (s r : Slots) (u v a b : ℕ) (c : Cut) → IsCut s u v a b c → IsAfter s r u v c → (j : ℕ) →
    led_face (at r j) ≡ map (substituted u v) (filter (λ x. not (has_both u v x)) (led_face (at s j)))
led_at s r u v a b c cut after j =
    elim (at s j) as (λ o. at s j ≡ o →
    led_face (at r j) ≡ map (substituted u v) (filter (λ x. not (has_both u v x)) (led_face o))) [
      | None ↦ λ none.
          ap led_face (after j ∙ ap
          (λ (o : Option Half). dropped (inner_keys c) j (joined c.w c.t j (joined c.p c.q j (all_put u v o)))) none
          ∙ cond_both (list_any (λ k. eqb j k) (inner_keys c)) None None (λ (o : Option Half). o ≡ None) (λ _. refl)
          (λ _. refl))
      | Some h ↦ λ some. elim (has_both u v h.face) as (λ b. has_both u v h.face ≡ b →
          led_face (at r j) ≡ map (substituted u v) (filter (λ x. not (has_both u v x)) (led_face (Some h)))) [
            | true ↦ λ both. ap led_face
                (after j ∙ ap (λ (b : Bool). cond b None (joined c.w c.t j (joined c.p c.q j (all_put u v (at s j)))))
                (inner_key s u v a b c j h cut some both)) ∙ led_gone u v h.lead h.face both
            | false ↦ λ lacks. ap led_face (there_after s r u v a b c j h cut after (some, lacks))
                ∙ led_kept u v h.lead h.face lacks
          ] refl
    ] refl

not_is_true : (b : Bool) → not b ≡ true → b ≡ false
not_is_true true h = absurd (false≢true h)
not_is_true false h = refl

-- the slots after a collapse make the list that it leaves
pub faces_after : (s r : Slots) (u v a b : ℕ) (c : Cut) → IsCut s u v a b c → IsAfter s r u v c →
    faces_of r ≡ collapsed_tris u v (faces_of s)
unfolding collapsed_tris
faces_after s r u v a b c cut after =
    let test = λ (t : Tri). not (has_both u v t) in
    ap (λ (ts : List Tri). in_order tri_cmp (map turned ts))
    (led_after (substituted u v) test s r (led_at s r u v a b c cut after))
    ∙ changed_in_order (substituted u v) test (flat_map led_face s) (λ t. ap not (both_turned u v t))
    (all_led (λ t. test t ≡ true → turned (substituted u v (turned t)) ≡ turned (substituted u v t)) s
    (λ k h here passes. turned_by (substituted u v) h.face (λ x. refl)
    (proper_put u v h.face (cut.sound.proper k h here) (not_is_true (has_both u v h.face) passes))))
