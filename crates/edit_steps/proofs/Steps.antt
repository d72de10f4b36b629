-- The least collapse that is done.
use Rattle.std.proofs.Common.{◌≡◌, ◌⊎◌, ℕ, ℤ, Bool, true, false, cond, List, [], ◌∷◌, ◌++◌, Option, Some, None, inl, inr, flat_map, filter_map, sym, ap, ◌∙◌, refl, subst}
use Rattle.std.proofs.lemmas.Bool.{false≢true}
use Rattle.std.proofs.lemmas.Cmp.{then_total, on_total, int_cmp_total, nat_cmp_total}
use Rattle.std.proofs.lemmas.Map.Lookups.{exact_pairs, exact_unsigned}
use Rattle.std.specs.BTreeMap.Comparable.{le_lt_trans}
use Rattle.std.specs.Cmp.{IsTotalOrder}
use Rattle.std.specs.FinMap.{IsAntisymmetric, int_cmp-IsAntisymmetric}
use Rattle.std.specs.List.{cons_option}
use Rattle.std.specs.Option.{option_map_or}
use Rattle.std.specs.Ordering.{nat_cmp, int_cmp, is_le, ordering_reverse}
use Rattle.std.specs.declared.cmp.Ordering.{Ordering}
use Rattle.std.specs.declared.cmp.Ordering.TheVariants.{Less, Equal, Greater}
use Rattle.mesh_data.specs.declared.geometry.Edge.{Edge as DirectedEdge}
use Rattle.mesh_data.specs.declared.edits.Step.{Step}
use Rattle.mesh_data.specs.declared.edits.Reply.{Reply}
use Rattle.mesh_data.specs.declared.edits.Reply.TheVariants.{Unheld, Frozen, Same, Apart, Border, Link, Closed, Folds, Dear, Edge, Outside, Done, DoneAt, Simplified}
use Rattle.mesh_data.specs.Edits.{done_step, least_step, step_cmp}
use Rattle.edit_steps.specs.Steps.{lesser, best_of}
use Rattle.triangle_lists.proofs.Orders.{equal_of_le}

step_cmp_total : IsTotalOrder step_cmp
step_cmp_total = then_total (on_total (λ s. s.cost) int_cmp_total) (then_total (on_total (λ s. s.u) nat_cmp_total) (on_total (λ s. s.v) nat_cmp_total))

step_cmp-IsAntisymmetric : IsAntisymmetric step_cmp
step_cmp-IsAntisymmetric s t h =
    ap (λ (p : ℤ × (ℕ × ℕ)). let it : Step = record { u = p.1.0; v = p.1.1; cost = p.0 } in it)
    (exact_pairs int_cmp _ int_cmp-IsAntisymmetric (exact_pairs nat_cmp nat_cmp exact_unsigned exact_unsigned) (s.cost, (s.u, s.v)) (t.cost, (t.u, t.v)) h)

abbrev pub le : Step → Step → Bool
le s t = is_le (step_cmp s t)

turned_le : (r : Ordering) → is_le r ≡ false → is_le (ordering_reverse r) ≡ true
turned_le Less h = absurd (false≢true (sym h))
turned_le Equal h = absurd (false≢true (sym h))
turned_le Greater h = refl

reversed_self : (r : Ordering) → r ≡ ordering_reverse r → is_le r ≡ true
reversed_self Less h = refl
reversed_self Equal h = refl
reversed_self Greater h = ap is_le h

pub le_refl : (s : Step) → le s s ≡ true
le_refl s = reversed_self (step_cmp s s) (step_cmp_total.antisymm s s)

-- one of two is at most the other
pub le_other : (s t : Step) → le s t ≡ false → le t s ≡ true
le_other s t h = ap is_le (step_cmp_total.antisymm t s) ∙ turned_le (step_cmp s t) h

pub le_antisymm : (s t : Step) → le s t ≡ true → le t s ≡ true → s ≡ t
le_antisymm s t up down =
    step_cmp-IsAntisymmetric s t (equal_of_le (step_cmp s t) up (sym (ap is_le (step_cmp_total.antisymm t s)) ∙ down))

trans_by : (r : Ordering) (s t w : Step) → step_cmp t w ≡ r → le s t ≡ true → is_le r ≡ true → le s w ≡ true
trans_by Less s t w is up h = ap is_le (le_lt_trans step_cmp_total s t w up is)
trans_by Equal s t w is up h = subst (λ (x : Step). le s x ≡ true) (step_cmp-IsAntisymmetric t w is) up
trans_by Greater s t w is up h = absurd (false≢true h)

pub le_trans : (s t w : Step) → le s t ≡ true → le t w ≡ true → le s w ≡ true
le_trans s t w up further = trans_by (step_cmp t w) s t w refl up further

-- the least of the steps of which S holds, if it holds of any
abbrev pub IsLeast : (Step → Type 0) → Option Step → Type 0
IsLeast S None = (s : Step) → S s → ⊥
IsLeast S (Some s) = S s × ((t : Step) → S t → le s t ≡ true)

pub one_least : (S : Step → Type 0) (o p : Option Step) → IsLeast S o → IsLeast S p → o ≡ p
one_least S None None h g = refl
one_least S None (Some t) h g = absurd (h t g.0)
one_least S (Some s) None h g = absurd (g s h.0)
one_least S (Some s) (Some t) h g = ap (λ (x : Step). Some x) (le_antisymm s t (h.1 t g.0) (g.1 s h.0))

pub least_of_same : (S R : Step → Type 0) (o : Option Step) → ((s : Step) → S s → R s) → ((s : Step) → R s → S s) → IsLeast S o → IsLeast R o
least_of_same S R None f g h = λ s r. h s (g s r)
least_of_same S R (Some s) f g h = (f s h.0, λ t r. h.1 t (g t r))

-- one of these steps
abbrev pub Among : List Step → Step → Type 0
Among [] s = ⊥
Among (x ∷ xs) s = (s ≡ x) ⊎ Among xs s

least_with : (x : Step) (xs : List Step) (o : Option Step) → IsLeast (Among xs) o → IsLeast (Among (x ∷ xs)) (Some (option_map_or (λ t. cond (le x t) x t) o x))
least_with x xs None h = (inl refl, λ t on. elim on [ inl e ↦ subst (λ (y : Step). le x y ≡ true) (sym e) (le_refl x) | inr more ↦ absurd (h t more) ])
least_with x xs (Some y) h =
    elim (le x y) as (λ b. le x y ≡ b → IsLeast (Among (x ∷ xs)) (Some (cond b x y))) [
      | true ↦ λ up. (inl refl, λ t on. elim on [ inl e ↦ subst (λ (z : Step). le x z ≡ true) (sym e) (le_refl x) | inr more ↦ le_trans x y t up (h.1 t more) ])
      | false ↦ λ down. (inr h.0, λ t on. elim on [ inl e ↦ subst (λ (z : Step). le y z ≡ true) (sym e) (le_other x y down) | inr more ↦ h.1 t more ])
    ] refl

pub least_step_is : (ss : List Step) → IsLeast (Among ss) (least_step ss)
least_step_is [] = λ s h. h
least_step_is (s ∷ ss) = least_with s ss (least_step ss) (least_step_is ss)

-- the step that there is
abbrev pub IsIn : Option Step → Step → Type 0
IsIn None s = ⊥
IsIn (Some x) s = s ≡ x

pub least_lesser : (S : Step → Type 0) (o p : Option Step) → IsLeast S o → IsLeast (λ s. S s ⊎ IsIn p s) (lesser o p)
least_lesser S None None h = λ s on. elim on [ inl old ↦ h s old | inr new ↦ new ]
least_lesser S None (Some t) h = (inr refl, λ w on. elim on [ inl old ↦ absurd (h w old) | inr new ↦ subst (λ (z : Step). le t z ≡ true) (sym new) (le_refl t) ])
least_lesser S (Some s) None h = (inl h.0, λ w on. elim on [ inl old ↦ h.1 w old | inr new ↦ absurd new ])
least_lesser S (Some s) (Some t) h =
    elim (le s t) as (λ b. le s t ≡ b → IsLeast (λ w. S w ⊎ IsIn (Some t) w) (Some (cond b s t))) [
      | true ↦ λ up. (inl h.0, λ w on. elim on [ inl old ↦ h.1 w old | inr new ↦ subst (λ (z : Step). le s z ≡ true) (sym new) up ])
      | false ↦ λ down. (
        inr refl,
        λ w on. elim on [
          | inl old ↦ le_trans t s w (le_other s t down) (h.1 w old)
          | inr new ↦ subst (λ (z : Step). le t z ≡ true) (sym new) (le_refl t)
        ],
      )
    ] refl

-- a step that is done along one of these edges
abbrev pub IsAlong : (ℕ → ℕ → Reply) → List DirectedEdge → Step → Type 0
IsAlong verdict_of [] s = ⊥
IsAlong verdict_of (e ∷ es) s = IsIn (done_step e.a e.b (verdict_of e.a e.b)) s ⊎ IsAlong verdict_of es s

pub least_along : (verdict_of : ℕ → ℕ → Reply) (S : Step → Type 0) (best : Option Step) (es : List DirectedEdge) → IsLeast S best → IsLeast (λ s. S s ⊎ IsAlong verdict_of es s) (best_of verdict_of best es)
least_along verdict_of S best [] h = least_of_same S (λ s. S s ⊎ ⊥) best (λ s old. inl old) (λ s on. elim on [ inl old ↦ old | inr never ↦ absurd never ]) h
least_along verdict_of S best (e ∷ es) h =
    let p = done_step e.a e.b (verdict_of e.a e.b) in
    least_of_same (λ s. (S s ⊎ IsIn p s) ⊎ IsAlong verdict_of es s) (λ s. S s ⊎ (IsIn p s ⊎ IsAlong verdict_of es s)) (best_of verdict_of best (e ∷ es))
    (λ s on. elim on [ inl first ↦ elim first [ inl old ↦ inl old | inr new ↦ inr (inl new) ] | inr more ↦ inr (inr more) ])
    (λ s on. elim on [ inl old ↦ inl (inl old) | inr new ↦ elim new [ inl here ↦ inl (inr here) | inr more ↦ inr more ] ])
    (least_along verdict_of (λ s. S s ⊎ IsIn p s) (lesser best p) es (least_lesser S best p h))

-- what is done is what its verdict says
pub done_step_says : (u v : ℕ) (reply : Reply) (s : Step) → IsIn (done_step u v reply) s → (s.u ≡ u) × (s.v ≡ v) × (reply ≡ DoneAt s.cost)
done_step_says u v (DoneAt c) s is = (ap (λ (x : Step). x.u) is, ap (λ (x : Step). x.v) is, ap (λ (x : Step). DoneAt x.cost) (sym is))
done_step_says u v (Unheld w) s is = absurd is
done_step_says u v (Frozen w) s is = absurd is
done_step_says u v Same s is = absurd is
done_step_says u v Apart s is = absurd is
done_step_says u v Border s is = absurd is
done_step_says u v (Link w) s is = absurd is
done_step_says u v Closed s is = absurd is
done_step_says u v (Folds t) s is = absurd is
done_step_says u v (Dear c) s is = absurd is
done_step_says u v (Edge c d) s is = absurd is
done_step_says u v Outside s is = absurd is
done_step_says u v Done s is = absurd is
done_step_says u v (Simplified steps left) s is = absurd is

pub done_step_of : (s : Step) (reply : Reply) → reply ≡ DoneAt s.cost → IsIn (done_step s.u s.v reply) s
done_step_of s reply is = subst (λ (r : Reply). IsIn (done_step s.u s.v r) s) (sym is) refl

-- its verdict says that it is done
abbrev pub IsDoneStep : (ℕ → ℕ → Reply) → Step → Type 0
IsDoneStep verdict_of s = verdict_of s.u s.v ≡ DoneAt s.cost

done_of_in : (verdict_of : ℕ → ℕ → Reply) (u v : ℕ) (s : Step) → IsIn (done_step u v (verdict_of u v)) s → IsDoneStep verdict_of s
done_of_in verdict_of u v s is =
    let says = done_step_says u v (verdict_of u v) s is in
    (λ i. verdict_of (says.0 i) (says.1 i)) ∙ says.2

pub done_along : (verdict_of : ℕ → ℕ → Reply) (es : List DirectedEdge) (s : Step) → IsAlong verdict_of es s → IsDoneStep verdict_of s
done_along verdict_of [] s on = absurd on
done_along verdict_of (e ∷ es) s on = elim on [ inl here ↦ done_of_in verdict_of e.a e.b s here | inr more ↦ done_along verdict_of es s more ]

among_append : (xs ys : List Step) (s : Step) → Among (xs ++ ys) s → Among xs s ⊎ Among ys s
among_append [] ys s on = inr on
among_append (x ∷ xs) ys s on = elim on [ inl e ↦ inl (inl e) | inr more ↦ elim (among_append xs ys s more) [ inl a ↦ inl (inr a) | inr b ↦ inr b ] ]

among_first : (xs ys : List Step) (s : Step) → Among xs s → Among (xs ++ ys) s
among_first [] ys s on = absurd on
among_first (x ∷ xs) ys s on = elim on [ inl e ↦ inl e | inr more ↦ inr (among_first xs ys s more) ]

among_second : (xs ys : List Step) (s : Step) → Among ys s → Among (xs ++ ys) s
among_second [] ys s on = on
among_second (x ∷ xs) ys s on = inr (among_second xs ys s on)

-- the steps from u that are done
abbrev steps_from : (ℕ → ℕ → Reply) → ℕ → List ℕ → List Step
steps_from verdict_of u vs = filter_map (λ v. done_step u v (verdict_of u v)) vs

cons_cases : (o : Option Step) (xs : List Step) (s : Step) → Among (cons_option o xs) s → IsIn o s ⊎ Among xs s
cons_cases None xs s on = inr on
cons_cases (Some x) xs s on = on

cons_here : (o : Option Step) (xs : List Step) (s : Step) → IsIn o s → Among (cons_option o xs) s
cons_here None xs s is = absurd is
cons_here (Some x) xs s is = inl is

cons_there : (o : Option Step) (xs : List Step) (s : Step) → Among xs s → Among (cons_option o xs) s
cons_there None xs s on = on
cons_there (Some x) xs s on = inr on

done_from : (verdict_of : ℕ → ℕ → Reply) (u : ℕ) (vs : List ℕ) (s : Step) → Among (steps_from verdict_of u vs) s → IsDoneStep verdict_of s
done_from verdict_of u [] s on = absurd on
done_from verdict_of u (v ∷ vs) s on =
    elim (cons_cases (done_step u v (verdict_of u v)) (steps_from verdict_of u vs) s on) [
      | inl here ↦ done_of_in verdict_of u v s here
      | inr more ↦ done_from verdict_of u vs s more
    ]

-- what is among the steps of all pairs of names is done
pub done_among : (verdict_of : ℕ → ℕ → Reply) (us vs : List ℕ) (s : Step) → Among (flat_map (λ u. steps_from verdict_of u vs) us) s → IsDoneStep verdict_of s
done_among verdict_of [] vs s on = absurd on
done_among verdict_of (u ∷ us) vs s on =
    elim (among_append (steps_from verdict_of u vs) (flat_map (λ w. steps_from verdict_of w vs) us) s on) [
      | inl here ↦ done_from verdict_of u vs s here
      | inr more ↦ done_among verdict_of us vs s more
    ]

-- one of these names
abbrev pub OneOf : List ℕ → ℕ → Type 0
OneOf [] n = ⊥
OneOf (m ∷ ms) n = (n ≡ m) ⊎ OneOf ms n

among_from : (verdict_of : ℕ → ℕ → Reply) (vs : List ℕ) (s : Step) → OneOf vs s.v → IsDoneStep verdict_of s → Among (steps_from verdict_of s.u vs) s
among_from verdict_of [] s on done = absurd on
among_from verdict_of (v ∷ vs) s on done =
    let rest = steps_from verdict_of s.u vs in
    elim on [
      | inl e ↦ subst (λ (w : ℕ). Among (cons_option (done_step s.u w (verdict_of s.u w)) rest) s) e (cons_here (done_step s.u s.v (verdict_of s.u s.v)) rest s (done_step_of s (verdict_of s.u s.v) done))
      | inr more ↦ cons_there (done_step s.u v (verdict_of s.u v)) rest s (among_from verdict_of vs s more done)
    ]

-- what is done, by names that are listed, is among them
pub among_done : (verdict_of : ℕ → ℕ → Reply) (us vs : List ℕ) (s : Step) → OneOf us s.u → OneOf vs s.v → IsDoneStep verdict_of s → Among (flat_map (λ u. steps_from verdict_of u vs) us) s
among_done verdict_of [] vs s first second done = absurd first
among_done verdict_of (u ∷ us) vs s first second done =
    let rest = flat_map (λ w. steps_from verdict_of w vs) us in
    elim first [
      | inl e ↦ subst (λ (w : ℕ). Among (steps_from verdict_of w vs ++ rest) s) e (among_first (steps_from verdict_of s.u vs) rest s (among_from verdict_of vs s second done))
      | inr more ↦ among_second (steps_from verdict_of u vs) rest s (among_done verdict_of us vs s more second done)
    ]
