-- What the tests of a collapse on a list of triangles say of its half-edges.
use Rattle.std.proofs.Common.{◌≡◌, ◌≢◌, ◌⊎◌, ℕ, suc, Bool, true, false, cond, not, ◌&&◌, ◌||◌, eqb, List, [], ◌∷◌, ◌++◌}
use Rattle.std.proofs.Common.{Option, Some, None, unwrap_or, sym, ap, ◌∙◌, refl, subst, arith, inl, inr}
use Rattle.std.proofs.lemmas.Bool.{false≢true, eqb-true, eq-eqb, ne_eqb, and_parts, and_from, or_cases, or_left}
use Rattle.std.proofs.lemmas.Bool.{or_right, or_from, both_ways, cases_eq}
use Rattle.std.specs.List.{filter, find, flat_map, list_any, Contains}
use Rattle.std.specs.Option.{option_map}
use Rattle.mesh_data.specs.declared.geometry.Tri.{Tri}
use Rattle.mesh_data.specs.Links.{has_both, apex, is_name, is_opposite, link_violation}
use Rattle.mesh_data.specs.Rings.{from_each_corner, link, has_path_edge, are_distinct, IsRingOf}
use Rattle.mesh_data.specs.Triangles.{same_edge, has_corner, star, corners, neighbours}
use Rattle.triangle_edits.proofs.Least.{none_shared}
use Rattle.triangle_lists.proofs.Walks.{step, steps_to, starts_on_path, reached, back_home, same_itself}
use Rattle.oemm_lists.specs.Numbers.{among}
use Rattle.triangle_lists.proofs.RingLaws.{ring, first_new}
use Rattle.half_edge.specs.declared.surgery.Half.{Half}
use Rattle.half_edge.specs.Halves.{Slots, at, from_next, HasFace, Goes, IsSound, next_key, twin_key, faces_of}
use Rattle.half_edge.specs.Collapses.{tri, cut_keys, IsCut, IsUnpinched, CanCut}
use Rattle.half_edge.proofs.Cuts.{corner_cases}
use Rattle.half_edge.proofs.Faces.{is_tri, turns_tri, is_face, turn_or, half_of_face, face_of_half}
use Rattle.half_edge.proofs.Fans.{next_key_face, twin_key_twin, twin_key_is, face_step, round_of}
use Rattle.half_edge.proofs.Sound.{goes, same_face, last_face}

-- ---- the apex

abbrev from_to : ℕ → ℕ → Tri → Bool
from_to a b t = eqb t.a a && eqb t.b b

face_any : (a b c : ℕ) (ts : List Tri) → list_any (is_tri a b c) (flat_map from_each_corner ts) ≡ is_face ts a b c
face_any a b c [] = refl
face_any a b c (t ∷ ts) =
    turn_or (is_tri a b c t) (is_tri a b c (from_next t)) (is_tri a b c (from_next (from_next t)))
    (list_any (is_tri a b c) (flat_map from_each_corner ts))
    ∙ ap (λ (r : Bool). turns_tri a b c t || r) (face_any a b c ts)

found_first : (a b : ℕ) (us : List Tri) (t : Tri) → find (from_to a b) us ≡ Some t → list_any (is_tri a b t.c) us ≡ true
found_first a b [] t h = absurd (cc)
found_first a b (u ∷ us) t h =
    elim (from_to a b u) as (λ x. from_to a b u ≡ x → cond x (Some u) (find (from_to a b) us) ≡ Some t →
    list_any (is_tri a b t.c) (u ∷ us) ≡ true) [
      | true ↦ λ passes is. let same : u ≡ t = cc in
          or_left (is_tri a b t.c u) _
          (and_from (from_to a b u) (eqb u.c t.c) passes (eq-eqb u.c t.c (ap (λ (x : Tri). x.c) same)))
      | false ↦ λ _ is. or_right (is_tri a b t.c u) _ (found_first a b us t is)
    ] refl h

found_none : (a b c : ℕ) (us : List Tri) → find (from_to a b) us ≡ None → list_any (is_tri a b c) us ≡ true → ⊥
found_none a b c [] h on = false≢true on
found_none a b c (u ∷ us) h on =
    elim (from_to a b u) as (λ x. from_to a b u ≡ x → cond x (Some u) (find (from_to a b) us) ≡ None → ⊥) [
      | true ↦ λ _ is. absurd (cc)
      | false ↦ λ fails is. elim (or_cases (is_tri a b c u) (list_any (is_tri a b c) us) on) [
        | inl here ↦ both_ways (from_to a b u) fails (and_parts (from_to a b u) (eqb u.c c) here).0
        | inr later ↦ found_none a b c us is later
      ]
    ] refl h

-- where one triangle has the edge, its third name is the apex
pub apex_is : (ts : List Tri) (a b c : ℕ) → is_face ts a b c ≡ true → ((d : ℕ) → is_face ts a b d ≡ true → d ≡ c) →
    apex ts a b ≡ Some c
unfolding apex
apex_is ts a b c face only =
    elim (find (from_to a b) (flat_map from_each_corner ts)) as
    (λ o. find (from_to a b) (flat_map from_each_corner ts) ≡ o → option_map (λ (t : Tri). t.c) o ≡ Some c) [
      | Some t ↦ λ is. ap (λ (n : ℕ). Some n)
          (only t.c (sym (face_any a b t.c ts) ∙ found_first a b (flat_map from_each_corner ts) t is))
      | None ↦ λ is. absurd (found_none a b c (flat_map from_each_corner ts) is (face_any a b c ts ∙ face))
    ] refl

pub apex_none : (ts : List Tri) (a b : ℕ) → ((c : ℕ) → is_face ts a b c ≡ false) → apex ts a b ≡ None
unfolding apex
apex_none ts a b none =
    elim (find (from_to a b) (flat_map from_each_corner ts)) as
    (λ o. find (from_to a b) (flat_map from_each_corner ts) ≡ o → option_map (λ (t : Tri). t.c) o ≡ None) [
      | Some t ↦ λ is. absurd (both_ways (is_face ts a b t.c) (none t.c) (sym (face_any a b t.c ts)
          ∙ found_first a b (flat_map from_each_corner ts) t is))
      | None ↦ λ is. refl
    ] refl

-- ---- neighbours

contains-among : (ns : List ℕ) (w : ℕ) → among w ns ≡ true → Contains ns w
contains-among [] w h = absurd (false≢true h)
contains-among (n ∷ ns) w h =
    elim (or_cases (eqb n w) (among w ns) h) [
      | inl it ↦ (0, omega arith, eqb-true n w it)
      | inr later ↦ let at = contains-among ns w later in (suc at.0, omega (arith, at.1), at.2)
    ]

among_append : (w : ℕ) (ms ns : List ℕ) → (among w ms ≡ true) ⊎ (among w ns ≡ true) → among w (ms ++ ns) ≡ true
among_append w [] ns (inl h) = absurd (false≢true h)
among_append w [] ns (inr h) = h
among_append w (m ∷ ms) ns (inl h) = elim (or_cases (eqb m w) (among w ms) h) [
  | inl a ↦ or_left (eqb m w) _ a
  | inr b ↦
      or_right (eqb m w) _ (among_append w ms ns (inl b))
]
among_append w (m ∷ ms) ns (inr h) = or_right (eqb m w) _ (among_append w ms ns (inr h))

among_other : (u w : ℕ) (ns : List ℕ) → w ≢ u → among w ns ≡ true → among w (filter (λ x. not (eqb x u)) ns) ≡ true
among_other u w [] n h = absurd (false≢true h)
among_other u w (m ∷ ns) n h =
    elim (eqb m u) as (λ b. eqb m u ≡ b →
    among w (cond (not b) (m ∷ filter (λ x. not (eqb x u)) ns) (filter (λ x. not (eqb x u)) ns)) ≡ true) [
      | true ↦ λ is. elim (or_cases (eqb m w) (among w ns) h) [
        | inl a ↦
            absurd (n (sym (eqb-true m w a) ∙ eqb-true m u is))
        | inr b ↦ among_other u w ns n b
      ]
      | false ↦ λ _. elim (or_cases (eqb m w) (among w ns) h) [
        | inl a ↦ or_left (eqb m w) _ a
        | inr b ↦
            or_right (eqb m w) _ (among_other u w ns n b)
      ]
    ] refl

corner_among : (w : ℕ) (t : Tri) → has_corner w t ≡ true → among w (corners t) ≡ true
corner_among w t h =
    elim (corner_cases w t h) [
      | inl a ↦ or_left (eqb t.a w) _ (eq-eqb t.a w a)
      | inr more ↦ elim more [
        | inl b ↦ or_right (eqb t.a w) _ (or_left (eqb t.b w) _ (eq-eqb t.b w b))
        | inr c ↦
            or_right (eqb t.a w) _ (or_right (eqb t.b w) _ (or_left (eqb t.c w) false (eq-eqb t.c w c)))
      ]
    ]

star_among : (u w : ℕ) (ts : List Tri) → list_any (has_both u w) ts ≡ true →
    among w (flat_map corners (star u ts)) ≡ true
star_among u w [] h = absurd (false≢true h)
star_among u w (t ∷ ts) h =
    elim (has_corner u t) as (λ b. has_corner u t ≡ b →
    among w (flat_map corners (cond b (t ∷ star u ts) (star u ts))) ≡ true) [
      | true ↦ λ _. elim (or_cases (has_both u w t) (list_any (has_both u w) ts) h) [
        | inl here ↦ among_append w (corners t) (flat_map corners (star u ts))
            (inl (corner_among w t (and_parts (has_corner u t) (has_corner w t) here).1))
        | inr later ↦ among_append w (corners t) (flat_map corners (star u ts)) (inr (star_among u w ts later))
      ]
      | false ↦ λ lacks. elim (or_cases (has_both u w t) (list_any (has_both u w) ts) h) [
        | inl here ↦ absurd (both_ways (has_corner u t) lacks (and_parts (has_corner u t) (has_corner w t) here).0)
        | inr later ↦ star_among u w ts later
      ]
    ] refl

pub neighbour_from : (u w : ℕ) (ts : List Tri) → w ≢ u → list_any (has_both u w) ts ≡ true →
    Contains (neighbours u ts) w
neighbour_from u w ts n h =
    contains-among (neighbours u ts) w (among_other u w (flat_map corners (star u ts)) n (star_among u w ts h))

-- a face is a triangle with its names
turns_corner : (a b c x : ℕ) (t : Tri) → turns_tri a b c t ≡ true → (a ≡ x) ⊎ ((b ≡ x) ⊎ (c ≡ x)) →
    has_corner x t ≡ true
turns_corner a b c x t h which =
    elim (or_cases (is_tri a b c t || is_tri a b c (from_next t)) (is_tri a b c (from_next (from_next t))) h) [
      | inl first ↦ elim (or_cases (is_tri a b c t) (is_tri a b c (from_next t)) first) [
        | inl one ↦ at_corner t.a t.b t.c one
        | inr two ↦ rotate1 (at_corner t.b t.c t.a two)
      ]
      | inr three ↦ rotate2 (at_corner t.c t.a t.b three)
    ]
  where
    at_corner : (d e f : ℕ) → (eqb d a && eqb e b && eqb f c) ≡ true → (eqb d x || eqb e x || eqb f x) ≡ true
    at_corner d e f all =
        let one = and_parts (eqb d a && eqb e b) (eqb f c) all in
        let two = and_parts (eqb d a) (eqb e b) one.0 in
        elim which [
          | inl xa ↦ or_left (eqb d x || eqb e x) (eqb f x)
              (or_left (eqb d x) (eqb e x) (eq-eqb d x (eqb-true d a two.0 ∙ xa)))
          | inr more ↦ elim more [
            | inl xb ↦ or_left (eqb d x || eqb e x) (eqb f x)
                (or_right (eqb d x) (eqb e x) (eq-eqb e x (eqb-true e b two.1 ∙ xb)))
            | inr xc ↦ or_right (eqb d x || eqb e x) (eqb f x) (eq-eqb f x (eqb-true f c one.1 ∙ xc))
          ]
        ]

    rot : (p q r : Bool) → (p || q || r) ≡ true → (r || p || q) ≡ true
    rot true q true k = refl
    rot true q false k = refl
    rot false true true k = refl
    rot false true false k = refl
    rot false false true k = refl
    rot false false false k = k

    rotate1 : (eqb t.b x || eqb t.c x || eqb t.a x) ≡ true → has_corner x t ≡ true
    rotate1 k = rot (eqb t.b x) (eqb t.c x) (eqb t.a x) k

    rotate2 : (eqb t.c x || eqb t.a x || eqb t.b x) ≡ true → has_corner x t ≡ true
    rotate2 k = rot (eqb t.b x) (eqb t.c x) (eqb t.a x) (rot (eqb t.c x) (eqb t.a x) (eqb t.b x) k)

any_further : (p q : Tri → Bool) → ((t : Tri) → p t ≡ true → q t ≡ true) → (ts : List Tri) → list_any p ts ≡ true →
    list_any q ts ≡ true
any_further p q more [] h = h
any_further p q more (t ∷ ts) h =
    elim (or_cases (p t) (list_any p ts) h) [
      | inl it ↦ or_left (q t) (list_any q ts) (more t it)
      | inr later ↦
          or_right (q t) (list_any q ts) (any_further p q more ts later)
    ]

pub both_of_face : (ts : List Tri) (a b c x y : ℕ) → is_face ts a b c ≡ true → (a ≡ x) ⊎ ((b ≡ x) ⊎ (c ≡ x)) →
    (a ≡ y) ⊎ ((b ≡ y) ⊎ (c ≡ y)) → list_any (has_both x y) ts ≡ true
both_of_face ts a b c x y h is_x is_y =
    any_further (turns_tri a b c) (has_both x y)
    (λ t on. and_from (has_corner x t) (has_corner y t) (turns_corner a b c x t on is_x)
    (turns_corner a b c y t on is_y)) ts h

-- a half-edge whose triangle has both names
pub both_of_half : (s : Slots) (k : ℕ) (h : Half) (x y : ℕ) → IsSound s → at s k ≡ Some h → has_both x y h.face ≡ true →
    list_any (has_both x y) (faces_of s) ≡ true
both_of_half s k h x y sound here both =
    let t = h.face in
    let parts = and_parts (has_corner x t) (has_corner y t) both in
    both_of_face (faces_of s) t.a t.b t.c x y (face_of_half s k t.a t.b t.c sound (h, here, refl))
    (corner_cases x t parts.0) (corner_cases y t parts.1)

-- ---- the cut

-- the apex of a half-edge's edge
pub apex_of : (s : Slots) (k a b c : ℕ) → IsSound s → HasFace s k (tri a b c) → apex (faces_of s) a b ≡ Some c
apex_of s k a b c sound h =
    apex_is (faces_of s) a b c (face_of_half s k a b c sound h) (λ d face.
    let other = half_of_face s a b d sound face in
    let same = same_face s k other.0 (tri a b c) other.1.0 sound h other.1.1 (ap (λ (x : Tri). x.a) other.1.2)
    (ap (λ (x : Tri). x.b) other.1.2) in
    sym (ap (λ (x : Tri). x.c) other.1.2) ∙ ap (λ (x : Tri). x.c) same)

unpinched : (s : Slots) (u v a b e m : ℕ) → IsSound s → u ≢ v → HasFace s e (tri u v a) → HasFace s m (tri v u b) →
    link_violation (faces_of s) u v ≡ None → IsUnpinched s u v a b
unpinched s u v a b e m sound n face_e face_m none x k g h i here there hx ix xu xv =
    elim (cases_eq x a) [
      | inl xa ↦ inl xa
      | inr na ↦ elim (cases_eq x b) [
        | inl xb ↦ inr xb
        | inr nb ↦
            let away : is_opposite (faces_of s) u v x ≡ false =
            or_from (is_name (apex (faces_of s) u v) x) (is_name (apex (faces_of s) v u) x)
            (ap (λ (o : Option ℕ). is_name o x) (apex_of s e u v a sound face_e) ∙ ne_eqb a x (λ e. na (sym e)))
            (ap (λ (o : Option ℕ). is_name o x) (apex_of s m v u b sound face_m) ∙ ne_eqb b x (λ e. nb (sym e))) in
            absurd (none_shared (faces_of s) u v x none (
              neighbour_from u x (faces_of s) xu (both_of_half s k h u x sound here hx),
              neighbour_from v x (faces_of s) xv (both_of_half s g i v x sound there ix),
              away,
            ))
      ]
    ]

cut_of : (s : Slots) (u v a b e m q t : ℕ) → IsSound s → u ≢ v → a ≢ b → HasFace s e (tri u v a) →
    HasFace s m (tri v u b) → Goes s q u a → Goes s t b u → IsUnpinched s u v a b → IsCut s u v a b (cut_keys s e)
cut_of s u v a b e m q t sound n apart face_e face_m goes_q goes_t unpinched =
    let f = next_key s e in
    let face_f = next_key_face s e (tri u v a) sound face_e in
    let g = next_key s f in
    let face_g = next_key_face s f (tri v a u) sound face_f in
    let is_m : unwrap_or (twin_key s e) 0 ≡ m =
    ap (λ (o : Option ℕ). unwrap_or o 0)
    (twin_key_is s e m (tri u v a) sound face_e (goes s m (tri v u b) face_m)) in
    let m' = unwrap_or (twin_key s e) 0 in
    let face_m' : HasFace s m' (tri v u b) = subst (λ k. HasFace s k (tri v u b)) (sym is_m) face_m in
    let k' = next_key s m' in
    let face_n = next_key_face s m' (tri v u b) sound face_m' in
    let o' = next_key s k' in
    let face_o = next_key_face s k' (tri u b v) sound face_n in
    let is_q : unwrap_or (twin_key s g) 0 ≡ q =
    ap (λ (o : Option ℕ). unwrap_or o 0) (twin_key_is s g q (tri a u v) sound face_g goes_q) in
    let is_t : unwrap_or (twin_key s k') 0 ≡ t =
    ap (λ (o : Option ℕ). unwrap_or o 0) (twin_key_is s k' t (tri u b v) sound face_n goes_t) in
    record {
      sound = sound;
      ends = n;
      apart = apart;
      e = face_e;
      f = face_f;
      g = face_g;
      m = face_m';
      n = face_n;
      o = face_o;
      p = twin_key_twin s f (tri v a u) sound face_f;
      q = subst (λ k. Goes s k u a) (sym is_q) goes_q;
      t = subst (λ k. Goes s k b u) (sym is_t) goes_t;
      w = twin_key_twin s o' (tri b v u) sound face_o;
      unpinched = unpinched;
    }

pub can_cut : (s : Slots) (u v e : ℕ) (ns : List ℕ) → IsSound s → u ≢ v → Goes s e u v →
    IsRingOf (link u (faces_of s)) (ring true (v ∷ ns)) → link_violation (faces_of s) u v ≡ None → CanCut s u v e
can_cut s u v e [] sound n at_e r none = absurd (omega (arith, r.long))
can_cut s u v e (a ∷ []) sound n at_e r none = absurd (omega (arith, r.long))
can_cut s u v e (a ∷ y ∷ ms) sound n at_e r none =
    let ns = a ∷ y ∷ ms in
    let steps_all = steps_to true v v ns in
    let faces = λ (x z : ℕ) (on : has_path_edge steps_all (step x z) ≡ true). face_step s u v e ns sound at_e r x z
    ∙ on in
    let tail = and_parts (not (among v ns)) (are_distinct ns) r.distinct in
    let a_new = first_new a (y ∷ ms) tail.1 in
    let back = back_home v y ms in
    let b = back.0 in
    let b_step : has_path_edge steps_all (step b v) ≡ true =
    or_right (same_edge (step b v) (step v a)) _ (or_right (same_edge (step b v) (step a y)) _ back.1) in
    let b_in : among b (y ∷ ms) ≡ true = starts_on_path true v y ms (step b v) back.1 in
    let apart : a ≢ b = λ same.
    both_ways (among a (y ∷ ms)) a_new (subst (λ (x : ℕ). among x (y ∷ ms) ≡ true) (sym same) b_in) in
    let face_va = half_of_face s u v a sound
    (faces v a (or_left (same_edge (step v a) (step v a)) _ (same_itself (step v a)))) in
    let is_e : face_va.0 ≡ e = sound.alone face_va.0 e u v (goes s face_va.0 (tri u v a) face_va.1) at_e in
    let face_e : HasFace s e (tri u v a) = subst (λ k. HasFace s k (tri u v a)) is_e face_va.1 in
    let face_bv = half_of_face s u b v sound (faces b v b_step) in
    let m = last_face s face_bv.0 (tri u b v) sound face_bv.1 in
    let face_ay = half_of_face s u a y sound
    (faces a y (or_right (same_edge (step a y) (step v a)) _
    (or_left (same_edge (step a y) (step a y)) _ (same_itself (step a y))))) in
    let to_b = reached true v v ns b (or_right (eqb a b) _ b_in) in
    let face_xb = half_of_face s u to_b.0 b sound (faces to_b.0 b to_b.1) in
    let t = last_face s face_xb.0 (tri u to_b.0 b) sound face_xb.1 in
    record {
      a = a;
      b = b;
      cut = cut_of s u v a b e m.0 face_ay.0 t.0 sound n apart face_e m.1 (goes s face_ay.0 (tri u a y) face_ay.1)
          (goes s t.0 (tri b u to_b.0) t.1) (unpinched s u v a b e m.0 sound n face_e m.1 none);
      round = round_of s u v e ns sound at_e r;
    }

-- an apex is that of a face
pub face_of_apex : (ts : List Tri) (a b c : ℕ) → apex ts a b ≡ Some c → is_face ts a b c ≡ true
unfolding apex
face_of_apex ts a b c h =
    elim (find (from_to a b) (flat_map from_each_corner ts)) as
    (λ o. find (from_to a b) (flat_map from_each_corner ts) ≡ o → option_map (λ (t : Tri). t.c) o ≡ Some c →
    is_face ts a b c ≡ true) [
      | Some t ↦ λ is same. let third : t.c ≡ c = cc in
          subst (λ (n : ℕ). is_face ts a b n ≡ true) third (sym (face_any a b t.c ts)
          ∙ found_first a b (flat_map from_each_corner ts) t is)
      | None ↦ λ is same. absurd (cc)
    ] refl h
