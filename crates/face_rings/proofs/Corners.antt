-- Corners, neighbours and third names, by faces.
use Rattle.face_rings.proofs.Faces.{Near, has_turns, three, turns_has}
use Rattle.face_rings.proofs.Fans.{flat_to}
use Rattle.face_rings.proofs.Members.{filter_to}
use Rattle.face_rings.proofs.Named.{Different}
use Rattle.face_rings.specs.Faces.{Face, Turns, tri, ◌∈◌}
use Rattle.mesh_data.specs.Links.{apex, are_neighbours, has_both, is_name}
use Rattle.mesh_data.specs.Manifold.{is_corner}
use Rattle.mesh_data.specs.Triangles.{corners, has_corner, neighbours, star}
use Rattle.mesh_data.specs.declared.geometry.Tri.{Tri}
use Rattle.std.proofs.Common.{Bool, List, None, Option, Some, [], ap, arith, eqb, eqb-true, false, flat_map, inl, inr, ne_eqb, not, refl, suc, sym, true, ℕ, ◌||◌, ◌∙◌, ◌∷◌, ◌≡◌, ◌≢◌}
use Rattle.std.proofs.lemmas.Bool.{and_parts, false≢true, not_from_false, or_cases, or_left, or_right}
use Rattle.std.specs.List.{Contains, list_any}
use Rattle.triangle_edits.proofs.Turns.{any_turns, name_is, turns_of, turns_to}
use Rattle.triangle_edits.specs.Links.{apex_in}

-- ---- members by places
-- a member by recursion has a place
pub in_contains : {X : Type 0} (xs : List X) (x : X) → x ∈ xs → Contains xs x
in_contains [] x i = absurd i
in_contains (y ∷ ys) x (inl e) = (0, omega arith, sym e)
in_contains (y ∷ ys) x (inr j) = let r = in_contains ys x j in (suc r.0, omega (arith, r.1), r.2)

-- a test that some item passes
pub any_in : {X : Type 0} (p : X → Bool) (xs : List X) → list_any p xs ≡ true → (x : X) × (x ∈ xs) × (p x ≡ true)
any_in p [] h = absurd (false≢true h)
any_in p (x ∷ xs) h = elim (or_cases (p x) (list_any p xs) h) [ inl e ↦ (x, inl refl, e) | inr e ↦ let r = any_in p xs e in (r.0, inr r.1, r.2) ]

pub in_any : {X : Type 0} (p : X → Bool) (xs : List X) (x : X) → x ∈ xs → p x ≡ true → list_any p xs ≡ true
in_any p [] x i h = absurd i
in_any p (y ∷ ys) x (inl e) h = or_left (p y) (list_any p ys) (sym (ap p e) ∙ h)
in_any p (y ∷ ys) x (inr j) h = or_right (p y) (list_any p ys) (in_any p ys x j h)

-- ---- corners and faces
-- a triangle that has v, turned to start there
pub corner_turns : (t : Tri) (v : ℕ) → has_corner v t ≡ true → (x : ℕ) × (y : ℕ) × Turns t v x y
corner_turns t v h =
    elim (or_cases (eqb t.a v || eqb t.b v) (eqb t.c v) h) [
      | inl two ↦ elim (or_cases (eqb t.a v) (eqb t.b v) two) [
        | inl e ↦ (t.b, t.c, inl (ap (λ n. tri n t.b t.c) (eqb-true t.a v e)))
        | inr e ↦ (t.c, t.a, inr (inr (ap (λ n. tri t.a n t.c) (eqb-true t.b v e))))
      ]
      | inr e ↦ (t.a, t.b, inr (inl (ap (λ n. tri t.a t.b n) (eqb-true t.c v e))))
    ]

-- a corner of a list is in a face
pub corner_face : (ts : List Tri) (v : ℕ) → is_corner ts v ≡ true → (x : ℕ) × (y : ℕ) × Face ts v x y
corner_face ts v h = let m = any_in (has_corner v) ts h in let t = corner_turns m.0 v m.2 in (t.0, t.1, (m.0, m.1, t.2))

pub face_corner : (ts : List Tri) (v x y : ℕ) → Face ts v x y → is_corner ts v ≡ true
face_corner ts v x y f = in_any (has_corner v) ts f.0 f.1 (has_turns v f.0 v x y f.2 (inl refl))

-- names that share a triangle are near each other
pub near_face : (ts : List Tri) (u v : ℕ) → u ≢ v → are_neighbours ts u v ≡ true → Near ts u v
near_face ts u v apart h =
    let m = any_in (has_both u v) ts h in
    let parts = and_parts (has_corner u m.0) (has_corner v m.0) m.2 in
    let t = corner_turns m.0 u parts.0 in
    elim (turns_has v m.0 u t.0 t.1 t.2 parts.1) [
      | inl e ↦ absurd (apart (sym e))
      | inr (inl e) ↦ (t.1, inl (three ts u t.0 t.1 u v t.1 refl (sym e) refl (m.0, m.1, t.2)))
      | inr (inr e) ↦ (t.0, inr (three ts u t.0 t.1 u t.0 v refl refl (sym e) (m.0, m.1, t.2)))
    ]

-- a name of a triangle is one of its corners
has_among : (w : ℕ) (t : Tri) → has_corner w t ≡ true → w ∈ corners t
has_among w t h =
    elim (or_cases (eqb t.a w || eqb t.b w) (eqb t.c w) h) [
      | inl two ↦ elim (or_cases (eqb t.a w) (eqb t.b w) two) [ inl e ↦ inl (sym (eqb-true t.a w e)) | inr e ↦ inr (inl (sym (eqb-true t.b w e))) ]
      | inr e ↦ inr (inr (inl (sym (eqb-true t.c w e))))
    ]

-- names of one triangle are neighbours, listed
near_listed : (ts : List Tri) (u w : ℕ) → w ≢ u → (t : Tri) → t ∈ ts → has_corner u t ≡ true → has_corner w t ≡ true → Contains (neighbours u ts) w
near_listed ts u w apart t i hu hw =
    in_contains (neighbours u ts) w (filter_to (λ x. not (eqb x u)) (flat_map corners (star u ts)) w (flat_to corners (star u ts) t w (filter_to (has_corner u) ts t i hu) (has_among w t hw)) (not_from_false (eqb w u) (ne_eqb w u apart)))

-- a name near u is listed among its neighbours
pub near_contains : (ts : List Tri) (u w : ℕ) → Different ts → Near ts u w → Contains (neighbours u ts) w
near_contains ts u w d (y, inl f) = near_listed ts u w (λ e. (d u w y f).0 (sym e)) f.0 f.1 (has_turns u f.0 u w y f.2 (inl refl)) (has_turns w f.0 u w y f.2 (inr (inl refl)))
near_contains ts u w d (y, inr f) = near_listed ts u w (λ e. (d u y w f).2 e) f.0 f.1 (has_turns u f.0 u y w f.2 (inl refl)) (has_turns w f.0 u y w f.2 (inr (inr refl)))

-- ---- third names
-- the third name of an edge makes a face with it
pub apex_face : (ts : List Tri) (a b c : ℕ) → apex ts a b ≡ Some c → Face ts a b c
apex_face ts a b c h =
    let m = any_in (turns_to a b c) ts (any_turns ts a b c h) in (
      m.0,
      m.1,
      elim (turns_of m.0 a b c (name_is (apex_in m.0 a b) c m.2)) [
        | inl e ↦ inl (λ i. tri (e.0 i) (e.1 i) (e.2 i))
        | inr (inl e) ↦ inr (inr (λ i. tri (e.2 i) (e.0 i) (e.1 i)))
        | inr (inr e) ↦ inr (inl (λ i. tri (e.1 i) (e.2 i) (e.0 i)))
      ],
    )

-- a name that can only be r is no other
pub not_named : (o : Option ℕ) (r w : ℕ) → w ≢ r → ((c : ℕ) → o ≡ Some c → c ≡ r) → is_name o w ≡ false
not_named None r w apart h = refl
not_named (Some c) r w apart h = ne_eqb c w (λ e. apart (sym e ∙ h c refl))
