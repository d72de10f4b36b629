-- A face of a list of triangles, from whichever name it is read.
use Rattle.face_rings.specs.Faces.{Face, Turns, tri}
use Rattle.mesh_data.specs.Triangles.{has_corner, turned}
use Rattle.mesh_data.specs.declared.geometry.Tri.{Tri}
use Rattle.std.proofs.Common.{Bool, List, ap, eqb-true, false, inl, inr, refl, subst, sym, true, ℕ, ◌&&◌, ◌==◌, ◌||◌, ◌∙◌, ◌≡◌, ◌⊎◌}
use Rattle.std.proofs.lemmas.Bool.{and_from, both_ways, or_cases}
use Rattle.triangle_edits.proofs.Results.{turned_keeps}
use Rattle.triangle_edits.proofs.Turns.{corner_a, corner_b, corner_c}

-- a turn read from the next name on
pub turn : (t : Tri) (a b c : ℕ) → Turns t a b c → Turns t b c a
turn t a b c (inl e) = inr (inr e)
turn t a b c (inr (inl e)) = inl e
turn t a b c (inr (inr e)) = inr (inl e)

-- a face read from its next name on
pub Face_turn : (ts : List Tri) (a b c : ℕ) → Face ts a b c → Face ts b c a
Face_turn ts a b c f = (f.0, f.1, turn f.0 a b c f.2)

-- and from its last name on
pub Face_back : (ts : List Tri) (a b c : ℕ) → Face ts a b c → Face ts c a b
Face_back ts a b c f = Face_turn ts b c a (Face_turn ts a b c f)

-- the triangle that starts at the next corner has the same turns
from_next : (t : Tri) (a b c : ℕ) → Turns t a b c → Turns (tri t.b t.c t.a) a b c
from_next t a b c (inl e) = inr (inl (ap (λ (s : Tri). tri s.b s.c s.a) e))
from_next t a b c (inr (inl e)) = inr (inr (ap (λ (s : Tri). tri s.b s.c s.a) e))
from_next t a b c (inr (inr e)) = inl (ap (λ (s : Tri). tri s.b s.c s.a) e)

-- a turned triangle is the same triangle
pub turned-Turns : (t : Tri) → Turns (turned t) t.a t.b t.c
turned-Turns t = turned_keeps (λ s. Turns s t.a t.b t.c) (λ s h. from_next s t.a t.b t.c h) t (inl refl)

-- ---- the same by names alone
-- x is one of the three
abbrev pub Among : ℕ → ℕ → ℕ → ℕ → Type 0
Among x a b c = (x ≡ a) ⊎ ((x ≡ b) ⊎ (x ≡ c))

-- the names of a triangle are its corners
has_by : (x a b c : ℕ) → Among x a b c → has_corner x (tri a b c) ≡ true
has_by x a b c (inl e) = corner_a x (tri a b c) (sym e)
has_by x a b c (inr (inl e)) = corner_b x (tri a b c) (sym e)
has_by x a b c (inr (inr e)) = corner_c x (tri a b c) (sym e)

among_turn : (x a b c : ℕ) → Among x a b c → Among x b c a
among_turn x a b c (inl e) = inr (inr e)
among_turn x a b c (inr (inl e)) = inl e
among_turn x a b c (inr (inr e)) = inr (inl e)

-- the names of a turn are corners of the triangle, and no others
pub has_turns : (x : ℕ) (t : Tri) (a b c : ℕ) → Turns t a b c → Among x a b c → has_corner x t ≡ true
has_turns x t a b c (inl e) m = ap (has_corner x) e ∙ has_by x a b c m
has_turns x t a b c (inr (inl e)) m = ap (has_corner x) e ∙ has_by x b c a (among_turn x a b c m)
has_turns x t a b c (inr (inr e)) m = ap (has_corner x) e ∙ has_by x c a b (among_turn x b c a (among_turn x a b c m))

by_has : (x a b c : ℕ) → has_corner x (tri a b c) ≡ true → Among x a b c
by_has x a b c h =
    elim (or_cases ((a == x) || (b == x)) (c == x) h) [
      | inl p ↦ elim (or_cases (a == x) (b == x) p) [ inl e ↦ inl (sym (eqb-true a x e)) | inr e ↦ inr (inl (sym (eqb-true b x e))) ]
      | inr e ↦ inr (inr (sym (eqb-true c x e)))
    ]

pub turns_has : (x : ℕ) (t : Tri) (a b c : ℕ) → Turns t a b c → has_corner x t ≡ true → Among x a b c
turns_has x t a b c (inl e) h = by_has x a b c (sym (ap (has_corner x) e) ∙ h)
turns_has x t a b c (inr (inl e)) h = among_turn x c a b (among_turn x b c a (by_has x b c a (sym (ap (has_corner x) e) ∙ h)))
turns_has x t a b c (inr (inr e)) h = among_turn x c a b (by_has x c a b (sym (ap (has_corner x) e) ∙ h))

-- not both names
abbrev pub Apart : ℕ → ℕ → ℕ → ℕ → ℕ → Type 0
Apart u v a b c = Among u a b c → Among v a b c → ⊥

-- tests that aren't passed both
pub and_not : (p q : Bool) → (p && q) ≡ false → p ≡ true → q ≡ true → ⊥
and_not p q h e f = both_ways (p && q) h (and_from p q e f)

pub not_and : (p q : Bool) → (p ≡ true → q ≡ true → ⊥) → (p && q) ≡ false
not_and true true n = absurd (n refl refl)
not_and true false n = refl
not_and false q n = refl

-- equal triangles have equal names
pub same_tri : (a b c x y z : ℕ) → tri a b c ≡ tri x y z → (a ≡ x) × (b ≡ y) × (c ≡ z)
same_tri a b c x y z e = (ap (λ (t : Tri). t.a) e, ap (λ (t : Tri). t.b) e, ap (λ (t : Tri). t.c) e)

-- a face with equal names
pub three : (ts : List Tri) (a b c x y z : ℕ) → a ≡ x → b ≡ y → c ≡ z → Face ts a b c → Face ts x y z
three ts a b c x y z e g h f = subst (λ n. Face ts x y n) h (subst (λ n. Face ts x n c) g (subst (λ n. Face ts n b c) e f))

-- x follows or precedes another name round v
abbrev pub Near : List Tri → ℕ → ℕ → Type 0
Near ts v x = (y : ℕ) × (Face ts v x y ⊎ Face ts v y x)
