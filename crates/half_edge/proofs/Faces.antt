-- The triangles of a list, from each corner on, are those of the half-edges.
use Rattle.std.proofs.Common.{◌≡◌, ◌⊎◌, ℕ, zero, suc, Bool, true, false, cond, ◌&&◌, ◌||◌, eqb, List, [], ◌∷◌, ◌++◌}
use Rattle.std.proofs.Common.{map, Some, None, sym, ap, ◌∙◌, refl, subst, inl, inr}
use Rattle.std.proofs.lemmas.Bool.{false≢true, eqb-true, eq-eqb, and_parts, and_from, or_cases, or_left, or_right}
use Rattle.std.proofs.lemmas.List.Sorted.{list_any-IsPermutation}
use Rattle.std.specs.List.{filter, flat_map, list_any}
use Rattle.mesh_data.specs.declared.geometry.Tri.{Tri}
use Rattle.mesh_data.specs.declared.geometry.Edge.{Edge}
use Rattle.mesh_data.specs.Rings.{from_each_corner, link, has_path_edge}
use Rattle.mesh_data.specs.Triangles.{turned, tri_cmp}
use Rattle.triangle_lists.proofs.Sorting.{IsPermutation-in_order}
use Rattle.triangle_lists.proofs.Paths.{eqb_comm}
use Rattle.half_edge.specs.declared.surgery.Half.{Half}
use Rattle.half_edge.specs.Halves.{Slots, at, from_next, HasFace, IsSound, led_face, faces_of}
use Rattle.half_edge.specs.Collapses.{tri}
use Rattle.half_edge.proofs.Leads.{of_turned, or_turn}
use Rattle.half_edge.proofs.Sound.{next_face, last_face}

-- the triangle is (a, b, c)
abbrev pub is_tri : ℕ → ℕ → ℕ → Tri → Bool
is_tri a b c t = eqb t.a a && eqb t.b b && eqb t.c c

-- the triangle is (a, b, c) from one of its corners
abbrev pub turns_tri : ℕ → ℕ → ℕ → Tri → Bool
turns_tri a b c t = is_tri a b c t || is_tri a b c (from_next t) || is_tri a b c (from_next (from_next t))

-- some triangle is (a, b, c) from one of its corners
abbrev pub is_face : List Tri → ℕ → ℕ → ℕ → Bool
is_face ts a b c = list_any (turns_tri a b c) ts

turns_next : (a b c : ℕ) (t : Tri) → turns_tri a b c (from_next t) ≡ turns_tri a b c t
turns_next a b c t = or_turn (is_tri a b c t) (is_tri a b c (from_next t)) (is_tri a b c (from_next (from_next t)))

pub turns_turned : (a b c : ℕ) (t : Tri) → turns_tri a b c (turned t) ≡ turns_tri a b c t
turns_turned a b c t =
    of_turned (λ s. turns_tri a b c s ≡ turns_tri a b c t) t refl (turns_next a b c t) (turns_next a b c (from_next t)
    ∙ turns_next a b c t)

pub any_turned : (a b c : ℕ) (ts : List Tri) → is_face (map turned ts) a b c ≡ is_face ts a b c
any_turned a b c [] = refl
any_turned a b c (t ∷ ts) = (λ i. turns_turned a b c t i || any_turned a b c ts i)

is_face_led : (s : Slots) (a b c : ℕ) → is_face (faces_of s) a b c ≡ is_face (flat_map led_face s) a b c
is_face_led s a b c =
    sym (list_any-IsPermutation (turns_tri a b c) (map turned (flat_map led_face s)) (faces_of s)
    (IsPermutation-in_order tri_cmp (map turned (flat_map led_face s))))
    ∙ any_turned a b c (flat_map led_face s)

-- ---- a half-edge for a face

any_append : (p : Tri → Bool) (ss ts : List Tri) → list_any p (ss ++ ts) ≡ true →
    (list_any p ss ≡ true) ⊎ (list_any p ts ≡ true)
any_append p [] ts h = inr h
any_append p (t ∷ ss) ts h =
    elim (or_cases (p t) (list_any p (ss ++ ts)) h) [
      | inl here ↦ inl (or_left (p t) (list_any p ss) here)
      | inr later ↦ elim (any_append p ss ts later) [
        | inl one ↦ inl (or_right (p t) (list_any p ss) one)
        | inr two ↦
            inr two
      ]
    ]

any_here : (p : Tri → Bool) (ss ts : List Tri) → list_any p ss ≡ true → list_any p (ss ++ ts) ≡ true
any_here p [] ts h = absurd (false≢true h)
any_here p (t ∷ ss) ts h =
    elim (or_cases (p t) (list_any p ss) h) [
      | inl here ↦ or_left (p t) (list_any p (ss ++ ts)) here
      | inr later ↦
          or_right (p t) (list_any p (ss ++ ts)) (any_here p ss ts later)
    ]

any_there : (p : Tri → Bool) (ss ts : List Tri) → list_any p ts ≡ true → list_any p (ss ++ ts) ≡ true
any_there p [] ts h = h
any_there p (t ∷ ss) ts h = or_right (p t) (list_any p (ss ++ ts)) (any_there p ss ts h)

led_one : (p : Tri → Bool) (lead : Bool) (t : Tri) → list_any p (cond lead (t ∷ []) []) ≡ true → p t ≡ true
led_one p true t h = elim (or_cases (p t) false h) [ inl here ↦ here | inr none ↦ absurd (false≢true none) ]
led_one p false t h = absurd (false≢true h)

-- a triangle for which a half-edge stands that passes
led_by : (p : Tri → Bool) (s : Slots) → list_any p (flat_map led_face s) ≡ true →
    (k : ℕ) × (h : Half) × (at s k ≡ Some h) × (p h.face ≡ true)
led_by p [] h = absurd (false≢true h)
led_by p (None ∷ s) h = let found = led_by p s h in (suc found.0, found.1, found.2, found.3)
led_by p (Some i ∷ s) h =
    elim (any_append p (led_face (Some i)) (flat_map led_face s) h) [
      | inl here ↦ (0, i, refl, led_one p i.lead i.face here)
      | inr later ↦ let found = led_by p s later in (suc found.0, found.1, found.2, found.3)
    ]

led_there : (p : Tri → Bool) (s : Slots) (k : ℕ) (h : Half) → at s k ≡ Some h → h.lead ≡ true → p h.face ≡ true →
    list_any p (flat_map led_face s) ≡ true
led_there p [] k h here lead passes = let clash : None ≡ Some h = here in absurd (cc)
led_there p (None ∷ s) zero h here lead passes = let clash : None ≡ Some h = here in absurd (cc)
led_there p (None ∷ s) (suc k) h here lead passes = led_there p s k h here lead passes
led_there p (Some i ∷ s) zero h here lead passes =
    let same : i ≡ h = cc in
    any_here p (led_face (Some i)) (flat_map led_face s)
    (ap (λ (b : Bool). list_any p (cond b (i.face ∷ []) [])) (ap (λ (x : Half). x.lead) same ∙ lead)
    ∙ or_left (p i.face) false (ap (λ (x : Half). p x.face) same ∙ passes))
led_there p (Some i ∷ s) (suc k) h here lead passes = any_there p (led_face (Some i)) (flat_map led_face s)
    (led_there p s k h here lead passes)

-- the three turns of a triangle that is (a, b, c)
pub tri_is : (a b c : ℕ) (t : Tri) → is_tri a b c t ≡ true → t ≡ tri a b c
tri_is a b c t h =
    let one = and_parts (eqb t.a a && eqb t.b b) (eqb t.c c) h in
    let two = and_parts (eqb t.a a) (eqb t.b b) one.0 in
    λ i. record { a = eqb-true t.a a two.0 i; b = eqb-true t.b b two.1 i; c = eqb-true t.c c one.1 i }

pub is_tri_itself : (a b c : ℕ) (t : Tri) → t ≡ tri a b c → is_tri a b c t ≡ true
is_tri_itself a b c t e =
    and_from (eqb t.a a && eqb t.b b) (eqb t.c c)
    (and_from (eqb t.a a) (eqb t.b b) (eq-eqb t.a a (ap (λ (x : Tri). x.a) e)) (eq-eqb t.b b (ap (λ (x : Tri). x.b) e)))
    (eq-eqb t.c c (ap (λ (x : Tri). x.c) e))

-- each face has a half-edge from each corner on
pub half_of_face : (s : Slots) (a b c : ℕ) → IsSound s → is_face (faces_of s) a b c ≡ true →
    (k : ℕ) × HasFace s k (tri a b c)
half_of_face s a b c sound h =
    let found = led_by (turns_tri a b c) s (sym (is_face_led s a b c) ∙ h) in
    let k = found.0 in
    let t = found.1.face in
    let mine : HasFace s k t = (found.1, found.2, refl) in
    elim (or_cases (is_tri a b c t || is_tri a b c (from_next t)) (is_tri a b c (from_next (from_next t))) found.3) [
      | inl first ↦ elim (or_cases (is_tri a b c t) (is_tri a b c (from_next t)) first) [
        | inl one ↦ (k, subst (HasFace s k) (tri_is a b c t one) mine)
        | inr two ↦ let next = next_face s k t sound mine in
            (next.0, subst (HasFace s next.0) (tri_is a b c (from_next t) two) next.1)
      ]
      | inr three ↦ let last = last_face s k t sound mine in
          (last.0, subst (HasFace s last.0) (tri_is a b c (from_next (from_next t)) three) last.1)
    ]

-- and each half-edge is of a face
pub face_of_half : (s : Slots) (k a b c : ℕ) → IsSound s → HasFace s k (tri a b c) → is_face (faces_of s) a b c ≡ true
face_of_half s k a b c sound h =
    is_face_led s a b c ∙ elim (sound.leads k h.0 h.1) [
      | inl lead ↦ led_there (turns_tri a b c) s k h.0 h.1 lead (turned_is h.0.face h.2)
      | inr more ↦
          let turn = sound.turns k h.0 h.1 in
          let i = more.0 in
          let face : i.face ≡ from_next h.0.face = same_at h.0.next i turn.0 more.1 turn.1 ∙ turn.2 in
          elim more.2 [
            | inl lead ↦ led_there (turns_tri a b c) s h.0.next i more.1 lead (ap (turns_tri a b c) face
                ∙ turns_next a b c h.0.face ∙ turned_is h.0.face h.2)
            | inr last ↦
                let turn2 = sound.turns h.0.next i more.1 in
                let face2 : last.0.face ≡ from_next i.face = same_at i.next last.0 turn2.0 last.1 turn2.1 ∙ turn2.2 in
                led_there (turns_tri a b c) s i.next last.0 last.1 last.2 (ap (turns_tri a b c) face2
                ∙ turns_next a b c i.face ∙ ap (turns_tri a b c) face ∙ turns_next a b c h.0.face
                ∙ turned_is h.0.face h.2)
          ]
    ]
  where
    turned_is : (t : Tri) → t ≡ tri a b c → turns_tri a b c t ≡ true
    turned_is t e = or_left (is_tri a b c t || is_tri a b c (from_next t)) (is_tri a b c (from_next (from_next t)))
        (or_left (is_tri a b c t) (is_tri a b c (from_next t)) (is_tri_itself a b c t e))

    same_at : (g : ℕ) (i j : Half) → at s g ≡ Some i → at s g ≡ Some j → i.face ≡ j.face
    same_at g i j x y = let same : i ≡ j = cc in ap (λ (z : Half). z.face) same

-- ---- the link

pub turn_or : (a b c : Bool) (r : Bool) → (a || (b || (c || r))) ≡ ((a || b || c) || r)
turn_or true b c r = refl
turn_or false true c r = refl
turn_or false false true r = refl
turn_or false false false r = refl

step_of : (v x y : ℕ) (t : Tri) (ts : List Tri) →
    has_path_edge (map (λ (u : Tri). let e : Edge = record { a = u.b; b = u.c } in e)
    (filter (λ u. eqb u.a v) (t ∷ ts))) (record { a = x; b = y }) ≡
    (is_tri v x y t || has_path_edge
    (map (λ (u : Tri). let e : Edge = record { a = u.b; b = u.c } in e) (filter (λ u. eqb u.a v) ts))
    (record { a = x; b = y }))
step_of v x y t ts =
    let rest = map (λ (u : Tri). let e : Edge = record { a = u.b; b = u.c } in e) (filter (λ u. eqb u.a v) ts) in
    elim (eqb t.a v) as (λ b.
    has_path_edge (map (λ (u : Tri). let e : Edge = record { a = u.b; b = u.c } in e)
    (cond b (t ∷ filter (λ u. eqb u.a v) ts) (filter (λ u. eqb u.a v) ts))) (record { a = x; b = y }) ≡
    ((b && eqb t.b x && eqb t.c y) || has_path_edge rest (record { a = x; b = y }))) [
      | true ↦ ap (λ (b : Bool). b || has_path_edge rest (record { a = x; b = y }))
          (λ i. eqb_comm x t.b i && eqb_comm y t.c i)
      | false ↦ refl
    ]

-- the link has the edge behind v of each face at v
pub link_step : (ts : List Tri) (v x y : ℕ) → has_path_edge (link v ts) (record { a = x; b = y }) ≡ is_face ts v x y
unfolding link
link_step [] v x y = refl
link_step (t ∷ ts) v x y =
    let rest = flat_map from_each_corner ts in
    step_of v x y t (from_next t ∷ from_next (from_next t) ∷ rest)
    ∙ ap (λ (b : Bool). is_tri v x y t || b) (step_of v x y (from_next t) (from_next (from_next t) ∷ rest)
    ∙ ap (λ (b : Bool). is_tri v x y (from_next t) || b) (step_of v x y (from_next (from_next t)) rest
    ∙ ap (λ (b : Bool). is_tri v x y (from_next (from_next t)) || b) (link_step ts v x y)))
    ∙ turn_or (is_tri v x y t) (is_tri v x y (from_next t)) (is_tri v x y (from_next (from_next t))) (is_face ts v x y)
