-- The third name of the first triangle with a directed edge, a triangle at a time.
use Rattle.std.proofs.Common.{◌≡◌, ℕ, ◌+◌, ◌<◌, ◌≤◌, Bool, true, false, cond, ◌&&◌, eqb, List, [], ◌∷◌, length, get_or, drop, Option, Some, None, is_some, sym, ap, ◌∙◌, refl}
use Rattle.std.proofs.lemmas.Bool.{false≢true}
use Rattle.std.proofs.lemmas.List.{drop_more, drop_all}
use Rattle.std.specs.Option.{option_map, option_or}
use Rattle.mesh_data.specs.declared.geometry.Tri.{Tri}
use Rattle.mesh_data.specs.Links.{apex}
use Rattle.triangle_edits.specs.Links.{apex_in}

found_third : (b1 b2 b3 : Bool) (t1 t2 t3 : Tri) (o : Option Tri) → option_map (λ t. t.c) (cond b1 (Some t1) (cond b2 (Some t2) (cond b3 (Some t3) o))) ≡ option_or (cond b1 (Some t1.c) (cond b2 (Some t2.c) (cond b3 (Some t3.c) None))) (option_map (λ t. t.c) o)
found_third true b2 b3 t1 t2 t3 o = refl
found_third false true b3 t1 t2 t3 o = refl
found_third false false true t1 t2 t3 o = refl
found_third false false false t1 t2 t3 o = refl

pub apex-cons : (t : Tri) (ts : List Tri) (a b : ℕ) → apex (t ∷ ts) a b ≡ option_or (apex_in t a b) (apex ts a b)
unfolding apex
apex-cons t ts a b =
    found_third (eqb t.a a && eqb t.b b) (eqb t.b a && eqb t.c b) (eqb t.c a && eqb t.a b) t (record { a = t.b; b = t.c; c = t.a }) (record { a = t.c; b = t.a; c = t.b }) _

pub apex-nil : (a b : ℕ) → apex [] a b ≡ None
unfolding apex
apex-nil a b = refl

apex_at : (ts : List Tri) (i a b : ℕ) (t : Tri) → i < length ts → t ≡ get_or ts i t → apex (drop i ts) a b ≡ option_or (apex_in t a b) (apex (drop (i + 1) ts) a b)
apex_at ts i a b t lt is =
    ap (λ (ss : List Tri). apex ss a b) (drop_more ts i t lt ∙ ap (λ (s : Tri). s ∷ drop (i + 1) ts) (sym is)) ∙ apex-cons t (drop (i + 1) ts) a b

-- a loop's step: the triangle at i doesn't have the edge, or does
pub apex_more : (ts : List Tri) (i a b : ℕ) (t : Tri) (o all : Option ℕ) → i < length ts → t ≡ get_or ts i t → o ≡ apex_in t a b → is_some o ≡ false → apex (drop i ts) a b ≡ all → apex (drop (i + 1) ts) a b ≡ all
apex_more ts i a b t None all lt is here none so_far =
    ap (λ (o : Option ℕ). option_or o (apex (drop (i + 1) ts) a b)) here ∙ sym (apex_at ts i a b t lt is) ∙ so_far
apex_more ts i a b t (Some w) all lt is here none so_far = absurd (false≢true (sym none))

pub apex_here : (ts : List Tri) (i a b : ℕ) (t : Tri) (o all : Option ℕ) → i < length ts → t ≡ get_or ts i t → o ≡ apex_in t a b → is_some o ≡ true → apex (drop i ts) a b ≡ all → o ≡ all
apex_here ts i a b t (Some w) all lt is here some so_far =
    ap (λ (o : Option ℕ). option_or o (apex (drop (i + 1) ts) a b)) here ∙ sym (apex_at ts i a b t lt is) ∙ so_far
apex_here ts i a b t None all lt is here some so_far = absurd (false≢true some)

pub apex_ended : (ts : List Tri) (i a b : ℕ) (all : Option ℕ) → length ts ≤ i → apex (drop i ts) a b ≡ all → None ≡ all
apex_ended ts i a b all past so_far =
    sym (apex-nil a b) ∙ ap (λ (ss : List Tri). apex ss a b) (sym (drop_all i ts past)) ∙ so_far
