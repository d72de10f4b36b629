-- A triangle with a directed edge, and its third name.
use Rattle.std.proofs.Common.{◌≡◌, ◌≢◌, ℕ, Bool, true, false, cond, ◌&&◌, ◌||◌, eqb, List, [], ◌∷◌, Option, Some, None, sym, ap, ◌∙◌, refl, subst, arith, ◌⊎◌, inl, inr}
use Rattle.std.proofs.lemmas.Bool.{false≢true, eqb-true, eq-eqb, and_parts, and_from, or_cases, or_left, or_right, both_ways}
use Rattle.std.specs.List.{list_any, AllByRecursion}
use Rattle.std.specs.Option.{option_or, option_zip}
use Rattle.mesh_data.specs.declared.geometry.Tri.{Tri}
use Rattle.mesh_data.specs.Links.{has_both, are_neighbours, apex, opposites, is_name}
use Rattle.mesh_data.specs.Manifold.{IsTriangleOn}
use Rattle.mesh_data.specs.Triangles.{has_corner}
use Rattle.triangle_edits.specs.Links.{apex_in}
use Rattle.triangle_edits.proofs.Apexes.{apex-cons, apex-nil}

-- the triangle is (a, b, c), from one of its corners
abbrev pub Turns : Tri → ℕ → ℕ → ℕ → Type 0
Turns t a b c = ((t.a ≡ a) × (t.b ≡ b) × (t.c ≡ c)) ⊎ (((t.b ≡ a) × (t.c ≡ b) × (t.a ≡ c)) ⊎ ((t.c ≡ a) × (t.a ≡ b) × (t.b ≡ c)))

pub turns_of : (t : Tri) (a b c : ℕ) → apex_in t a b ≡ Some c → Turns t a b c
turns_of t a b c h =
    let second = cond (eqb t.b a && eqb t.c b) (Some t.a) (cond (eqb t.c a && eqb t.a b) (Some t.b) None) in
    let last = cond (eqb t.c a && eqb t.a b) (Some t.b) None in
    elim (eqb t.a a && eqb t.b b) as (λ x. (eqb t.a a && eqb t.b b) ≡ x → cond x (Some t.c) second ≡ Some c → Turns t a b c) [
      | true ↦ λ on is. let p = and_parts (eqb t.a a) (eqb t.b b) on in let e : t.c ≡ c = cc in inl (eqb-true t.a a p.0, eqb-true t.b b p.1, e)
      | false ↦ λ _ is. elim (eqb t.b a && eqb t.c b) as (λ x. (eqb t.b a && eqb t.c b) ≡ x → cond x (Some t.a) last ≡ Some c → Turns t a b c) [
        | true ↦ λ on is. let p = and_parts (eqb t.b a) (eqb t.c b) on in let e : t.a ≡ c = cc in inr (inl (eqb-true t.b a p.0, eqb-true t.c b p.1, e))
        | false ↦ λ _ is. elim (eqb t.c a && eqb t.a b) as (λ x. (eqb t.c a && eqb t.a b) ≡ x → cond x (Some t.b) None ≡ Some c → Turns t a b c) [
          | true ↦ λ on is. let p = and_parts (eqb t.c a) (eqb t.a b) on in let e : t.b ≡ c = cc in inr (inr (eqb-true t.c a p.0, eqb-true t.a b p.1, e))
          | false ↦ λ _ is. absurd (cc)
        ] refl is
      ] refl is
    ] refl h

-- ---- corners

pub corner_a : (v : ℕ) (t : Tri) → t.a ≡ v → has_corner v t ≡ true
corner_a v t e = or_left (eqb t.a v || eqb t.b v) (eqb t.c v) (or_left (eqb t.a v) (eqb t.b v) (eq-eqb t.a v e))

pub corner_b : (v : ℕ) (t : Tri) → t.b ≡ v → has_corner v t ≡ true
corner_b v t e = or_left (eqb t.a v || eqb t.b v) (eqb t.c v) (or_right (eqb t.a v) (eqb t.b v) (eq-eqb t.b v e))

pub corner_c : (v : ℕ) (t : Tri) → t.c ≡ v → has_corner v t ≡ true
corner_c v t e = or_right (eqb t.a v || eqb t.b v) (eqb t.c v) (eq-eqb t.c v e)

turns_both : (t : Tri) (a b c : ℕ) → Turns t a b c → has_both a b t ≡ true
turns_both t a b c turns =
    elim turns [
      | inl e ↦ and_from (has_corner a t) (has_corner b t) (corner_a a t e.0) (corner_b b t e.1)
      | inr later ↦ elim later [
        | inl e ↦ and_from (has_corner a t) (has_corner b t) (corner_b a t e.0) (corner_c b t e.1)
        | inr e ↦ and_from (has_corner a t) (has_corner b t) (corner_c a t e.0) (corner_a b t e.1)
      ]
    ]

turns_third : (t : Tri) (a b c : ℕ) → Turns t a b c → has_corner c t ≡ true
turns_third t a b c turns =
    elim turns [ inl e ↦ corner_c c t e.2 | inr later ↦ elim later [ inl e ↦ corner_a c t e.2 | inr e ↦ corner_b c t e.2 ] ]

-- no triangle lies at both sides of an edge with two third names
turns_apart : (t : Tri) (a b c d : ℕ) → a ≢ b → c ≢ d → Turns t a b c → Turns t b a d → ⊥
turns_apart t a b c d ab cd (inl e) (inl f) = omega arith
turns_apart t a b c d ab cd (inl e) (inr (inl f)) = omega arith
turns_apart t a b c d ab cd (inl e) (inr (inr f)) = omega arith
turns_apart t a b c d ab cd (inr (inl e)) (inl f) = omega arith
turns_apart t a b c d ab cd (inr (inl e)) (inr (inl f)) = omega arith
turns_apart t a b c d ab cd (inr (inl e)) (inr (inr f)) = omega arith
turns_apart t a b c d ab cd (inr (inr e)) (inl f) = omega arith
turns_apart t a b c d ab cd (inr (inr e)) (inr (inl f)) = omega arith
turns_apart t a b c d ab cd (inr (inr e)) (inr (inr f)) = omega arith

-- ---- as tests

-- the triangle is (a, b, c), from one of its corners
abbrev pub turns_to : ℕ → ℕ → ℕ → Tri → Bool
turns_to a b c t = is_name (apex_in t a b) c

pub name_is : (o : Option ℕ) (c : ℕ) → is_name o c ≡ true → o ≡ Some c
name_is None c h = absurd (false≢true h)
name_is (Some v) c h = ap (λ (n : ℕ). Some n) (eqb-true v c h)

is_name_of : (o : Option ℕ) (c : ℕ) → o ≡ Some c → is_name o c ≡ true
is_name_of o c h = ap (λ (p : Option ℕ). is_name p c) h ∙ eq-eqb c c refl

pub to_has_both : (t : Tri) (a b c : ℕ) → turns_to a b c t ≡ true → has_both a b t ≡ true
to_has_both t a b c h = turns_both t a b c (turns_of t a b c (name_is (apex_in t a b) c h))

pub to_has_third : (t : Tri) (a b c : ℕ) → turns_to a b c t ≡ true → has_corner c t ≡ true
to_has_third t a b c h = turns_third t a b c (turns_of t a b c (name_is (apex_in t a b) c h))

pub to_apart : (t : Tri) (a b c d : ℕ) → a ≢ b → c ≢ d → turns_to a b c t ≡ true → turns_to b a d t ≡ true → ⊥
to_apart t a b c d ab cd h k =
    turns_apart t a b c d ab cd (turns_of t a b c (name_is (apex_in t a b) c h)) (turns_of t b a d (name_is (apex_in t b a) d k))

-- ---- the first triangle with the edge

first_or_later : (o p : Option ℕ) (c : ℕ) → option_or o p ≡ Some c → (o ≡ Some c) ⊎ (p ≡ Some c)
first_or_later None p c h = inr h
first_or_later (Some x) p c h = inl h

pub any_turns : (ts : List Tri) (a b c : ℕ) → apex ts a b ≡ Some c → list_any (turns_to a b c) ts ≡ true
any_turns [] a b c h = let e : None ≡ Some c = sym (apex-nil a b) ∙ h in absurd (cc)
any_turns (t ∷ ts) a b c h =
    elim (first_or_later (apex_in t a b) (apex ts a b) c (sym (apex-cons t ts a b) ∙ h)) [
      | inl it ↦ or_left (turns_to a b c t) (list_any (turns_to a b c) ts) (is_name_of (apex_in t a b) c it)
      | inr later ↦ or_right (turns_to a b c t) (list_any (turns_to a b c) ts) (any_turns ts a b c later)
    ]

-- three different names, each one of these
pub record IsFace (P : ℕ → Type 0) (a b c : ℕ) : Type 0 where
  pub ab : a ≢ b
  pub bc : b ≢ c
  pub ca : c ≢ a
  pub at_a : P a
  pub at_b : P b
  pub at_c : P c

face_first : (P : ℕ → Type 0) (x y z a b c : ℕ) → IsFace P x y z → x ≡ a → y ≡ b → z ≡ c → IsFace P a b c
face_first P x y z a b c f e1 e2 e3 = subst (λ (n : ℕ). IsFace P a b n) e3 (subst (λ (n : ℕ). IsFace P a n z) e2 (subst (λ (n : ℕ). IsFace P n y z) e1 f))

pub face_next : (P : ℕ → Type 0) (a b c : ℕ) → IsFace P a b c → IsFace P b c a
face_next P a b c f = record { ab = f.bc; bc = f.ca; ca = f.ab; at_a = f.at_b; at_b = f.at_c; at_c = f.at_a }

pub face_of : (P : ℕ → Type 0) (t : Tri) → IsTriangleOn P t → IsFace P t.a t.b t.c
face_of P t is = record { ab = is.proper.0; bc = is.proper.1; ca = is.proper.2; at_a = is.a; at_b = is.b; at_c = is.c }

face_turns : (P : ℕ → Type 0) (t : Tri) (a b c : ℕ) → IsFace P t.a t.b t.c → Turns t a b c → IsFace P a b c
face_turns P t a b c f turns =
    elim turns [
      | inl e ↦ face_first P t.a t.b t.c a b c f e.0 e.1 e.2
      | inr later ↦ elim later [
        | inl e ↦ face_first P t.b t.c t.a a b c (face_next P t.a t.b t.c f) e.0 e.1 e.2
        | inr e ↦ face_first P t.c t.a t.b a b c (face_next P t.b t.c t.a (face_next P t.a t.b t.c f)) e.0 e.1 e.2
      ]
    ]

-- the triangle at a directed edge has three different names
pub face_at : (P : ℕ → Type 0) (ts : List Tri) (a b c : ℕ) → AllByRecursion (IsTriangleOn P) ts → apex ts a b ≡ Some c → IsFace P a b c
face_at P [] a b c all h = let e : None ≡ Some c = sym (apex-nil a b) ∙ h in absurd (cc)
face_at P (t ∷ ts) a b c all h =
    elim (first_or_later (apex_in t a b) (apex ts a b) c (sym (apex-cons t ts a b) ∙ h)) [
      | inl it ↦ face_turns P t a b c (face_of P t all.0) (turns_of t a b c it)
      | inr later ↦ face_at P ts a b c all.1 later
    ]

-- ---- both sides of an edge

both_ends : (o p : Option ℕ) (c d : ℕ) → option_zip o p ≡ Some (c, d) → (o ≡ Some c) × (p ≡ Some d)
both_ends None p c d h = absurd (cc)
both_ends (Some x) None c d h = absurd (cc)
both_ends (Some x) (Some y) c d h =
    let same : (x, y) ≡ (c, d) = cc in (ap (λ (q : ℕ × ℕ). Some q.0) same, ap (λ (q : ℕ × ℕ). Some q.1) same)

pub ends_of : (ts : List Tri) (a b c d : ℕ) → opposites ts a b ≡ Some (c, d) → (apex ts a b ≡ Some c) × (apex ts b a ≡ Some d)
ends_of ts a b c d h = both_ends (apex ts a b) (apex ts b a) c d h

any_further : (p q : Tri → Bool) → ((t : Tri) → p t ≡ true → q t ≡ true) → (ts : List Tri) → list_any p ts ≡ true → list_any q ts ≡ true
any_further p q more [] h = h
any_further p q more (t ∷ ts) h =
    elim (or_cases (p t) (list_any p ts) h) [ inl it ↦ or_left (q t) (list_any q ts) (more t it) | inr later ↦ or_right (q t) (list_any q ts) (any_further p q more ts later) ]

-- names opposite of an edge that are no neighbours are different: an apex is a corner, and so a neighbour of itself
pub apexes_differ : (ts : List Tri) (a b c d : ℕ) → opposites ts a b ≡ Some (c, d) → are_neighbours ts c d ≡ false → c ≢ d
apexes_differ ts a b c d ends apart same =
    let itself : are_neighbours ts c c ≡ true = any_further (turns_to a b c) (has_both c c) (λ t h. let on = to_has_third t a b c h in and_from (has_corner c t) (has_corner c t) on on) ts (any_turns ts a b c (ends_of ts a b c d ends).0) in
    both_ways (are_neighbours ts c d) apart (subst (λ (n : ℕ). are_neighbours ts c n ≡ true) same itself)
