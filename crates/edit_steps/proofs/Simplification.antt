-- A simplification, a step at a time.
use Rattle.std.proofs.Common.{◌≡◌, ℕ, zero, suc, ◌+◌, ◌-◌, ◌<◌, ◌≤◌, nat_le, ℤ, Bool, true, false, cond, List, [], ◌∷◌, ◌++◌, Option, Some, None, inl, inr, sym, ap, ◌∙◌, refl, subst, arith, add-one, append-nil, append_assoc, length}
use Rattle.std.proofs.lemmas.Bool.{false≢true, le-leb, lt-leb, leb-true, leb-false}
use Rattle.std.specs.Cmp.{nat_cmp_total}
use Rattle.std.specs.FinMap as finite
use Rattle.std.specs.Option.{option_map_or, is_some}
use Rattle.std.specs.Ordering.{nat_cmp, is_le}
use Rattle.oemm_octree.specs.declared.points.Point.{Point}
use Rattle.mesh_data.specs.declared.geometry.Vertex.{Vertex}
use Rattle.mesh_data.specs.declared.edits.Step.{Step}
use Rattle.mesh_data.specs.declared.edits.Reply.TheVariants.{DoneAt}
use Rattle.mesh_data.specs.Edits.{collapsed, collapsed_by, collapse_verdict, done_steps, least_step, step_cmp, whole_count, Simplification, simplified_within, simplified, AreLeastSteps, planes_or_none}
use Rattle.mesh_data.specs.Mesh.{Mesh}
use Rattle.edit_steps.proofs.Passed.{can_collapse}
use Rattle.edit_steps.proofs.Steps.{IsLeast, IsDoneStep, le_antisymm}
use Rattle.edit_steps.proofs.Tried.{held_there, least_done}
use Rattle.edit_steps.specs.Steps.{answer_of}
use Rattle.edit_steps.specs.Totals.{total_in}
use Rattle.edit_steps.proofs.Totals.{at, total-remove}
use Rattle.edit_steps.proofs.Vertices.{Entries, changed, contains-changed, len-changed}

-- the least step is a collapse that is done, and none that is done is less
abbrev pub Leads : (Point → Bool) → Mesh → ℤ → Step → Type 0
Leads inside m most s =
    (collapse_verdict inside m s.u s.v most ≡ DoneAt s.cost)
    × ((u v : ℕ) (c : ℤ) → collapse_verdict inside m u v most ≡ DoneAt c → is_le (step_cmp s (record { u = u; v = v; cost = c })) ≡ true)

pub least_leads : (inside : Point → Bool) (m : Mesh) (most : ℤ) (s : Step) → least_step (done_steps inside m most) ≡ Some s → Leads inside m most s
least_leads inside m most s is =
    let least : IsLeast (IsDoneStep (answer_of inside m most)) (Some s) = subst (IsLeast (IsDoneStep (answer_of inside m most))) is (least_done inside m most) in
    (least.0, λ u v c done. least.1 (record { u = u; v = v; cost = c }) done)

pub none_done : (inside : Point → Bool) (m : Mesh) (most : ℤ) → least_step (done_steps inside m most) ≡ None → (u v : ℕ) (c : ℤ) → collapse_verdict inside m u v most ≡ DoneAt c → ⊥
none_done inside m most is u v c done =
    let least : IsLeast (IsDoneStep (answer_of inside m most)) None = subst (IsLeast (IsDoneStep (answer_of inside m most))) is (least_done inside m most) in
    least (record { u = u; v = v; cost = c }) done

ones : (es : Entries) → total_in (λ _. 1) es ≡ length es
ones [] = refl
ones (e ∷ es) = omega (arith, ones es)

-- a map that has a name has an entry
some_there : (m : finite.FinMap nat_cmp Vertex) (k : ℕ) → finite.contains_key m k ≡ true → 1 ≤ finite.len m
some_there m k there =
    let one : at (λ _. 1) (finite.get m k) ≡ 1 = elim (finite.get m k) as (λ o. is_some o ≡ true → at (λ _. 1) o ≡ 1) [ None ↦ λ h. absurd (false≢true h) | Some x ↦ λ h. refl ] there in
    omega (arith, total-remove (λ _. 1) m k, one, ones (finite.entries m), finite.len-entries m)

-- a collapse takes one vertex away
pub len-collapsed : (m : Mesh) (u v : ℕ) → finite.contains_key m.vertices u ≡ true → finite.len (collapsed m u v).vertices + 1 ≡ finite.len m.vertices
len-collapsed m u v there =
    let g : Vertex → Vertex = λ x. record x { planes = x.planes ++ planes_or_none m u } in
    let n = changed g v m.vertices in
    let fewer : finite.len (finite.remove n u) ≡ finite.len n - 1 =
    finite.len-remove nat_cmp_total n u ∙ ap (λ (b : Bool). cond b (finite.len n - 1) (finite.len n)) (contains-changed g v u m.vertices ∙ there) in
    omega (arith, fewer, len-changed g v m.vertices, some_there m.vertices u there)

-- no step
abbrev pub stays : Mesh → Simplification
stays m = record { mesh = m; steps = [] }

-- one step more
pub one_step : (inside : Point → Bool) (m : Mesh) (most : ℤ) (target : ℕ) (s : Step) → target < whole_count inside m → least_step (done_steps inside m most) ≡ Some s
    → simplified inside m most target
    ≡ record { mesh = (simplified inside (collapsed m s.u s.v) most target).mesh; steps = s ∷ (simplified inside (collapsed m s.u s.v) most target).steps }
unfolding simplified_within
one_step inside m most target s above is =
    let leads = least_leads inside m most s is in
    let can = can_collapse inside m s.u s.v most s.cost leads.0 in
    let next = collapsed m s.u s.v in
    let fuel : finite.len m.vertices ≡ suc (finite.len next.vertices) = sym (len-collapsed m s.u s.v (held_there inside m s.u can.pair.held)) ∙ add-one (finite.len next.vertices) in
    let more : nat_le (whole_count inside m) target ≡ false = lt-leb (whole_count inside m) target above in
    ap (λ n. simplified_within n inside m most target) fuel
    ∙ (λ i. cond (more i) (stays m) (option_map_or (λ t. record { mesh = (simplified_within (finite.len next.vertices) inside (collapsed m t.u t.v) most target).mesh; steps = t ∷ (simplified_within (finite.len next.vertices) inside (collapsed m t.u t.v) most target).steps }) (is i) (stays m)))

-- no step more
pub reached : (n : ℕ) (inside : Point → Bool) (m : Mesh) (most : ℤ) (target : ℕ) → whole_count inside m ≤ target → simplified_within n inside m most target ≡ stays m
unfolding simplified_within
reached zero inside m most target at = refl
reached (suc n) inside m most target at =
    ap (λ (b : Bool). cond b (stays m) (option_map_or (λ t. record { mesh = (simplified_within n inside (collapsed m t.u t.v) most target).mesh; steps = t ∷ (simplified_within n inside (collapsed m t.u t.v) most target).steps }) (least_step (done_steps inside m most)) (stays m))) (le-leb (whole_count inside m) target at)

pub stuck : (n : ℕ) (inside : Point → Bool) (m : Mesh) (most : ℤ) (target : ℕ) → least_step (done_steps inside m most) ≡ None → simplified_within n inside m most target ≡ stays m
unfolding simplified_within
stuck zero inside m most target none = refl
stuck (suc n) inside m most target none =
    elim (nat_le (whole_count inside m) target) as (λ b. cond b (stays m) (option_map_or (λ t. record { mesh = (simplified_within n inside (collapsed m t.u t.v) most target).mesh; steps = t ∷ (simplified_within n inside (collapsed m t.u t.v) most target).steps }) (least_step (done_steps inside m most)) (stays m)) ≡ stays m) [
      | true ↦ refl
      | false ↦ ap (λ (o : Option Step). option_map_or (λ t. record { mesh = (simplified_within n inside (collapsed m t.u t.v) most target).mesh; steps = t ∷ (simplified_within n inside (collapsed m t.u t.v) most target).steps }) o (stays m)) none
    ]

-- the steps and the mesh that are still to come, after one step more
pub kept_mesh : (inside : Point → Bool) (m next : Mesh) (most : ℤ) (target : ℕ) (s : Step) → target < whole_count inside m → least_step (done_steps inside m most) ≡ Some s → next ≡ collapsed m s.u s.v
    → (simplified inside next most target).mesh ≡ (simplified inside m most target).mesh
kept_mesh inside m next most target s above is made =
    ap (λ (k : Mesh). (simplified inside k most target).mesh) made ∙ sym (ap (λ (t : Simplification). t.mesh) (one_step inside m most target s above is))

pub kept_steps : (inside : Point → Bool) (m next : Mesh) (most : ℤ) (target : ℕ) (s : Step) (done : List Step) → target < whole_count inside m → least_step (done_steps inside m most) ≡ Some s → next ≡ collapsed m s.u s.v
    → (done ++ s ∷ []) ++ (simplified inside next most target).steps ≡ done ++ (simplified inside m most target).steps
kept_steps inside m next most target s done above is made =
    append_assoc done (s ∷ []) (simplified inside next most target).steps
    ∙ ap (λ (k : Mesh). done ++ s ∷ (simplified inside k most target).steps) made
    ∙ ap (λ (ss : List Step). done ++ ss) (sym (ap (λ (t : Simplification). t.steps) (one_step inside m most target s above is)))

-- the steps of a simplification make its mesh
pub made_by_steps : (n : ℕ) (inside : Point → Bool) (m : Mesh) (most : ℤ) (target : ℕ) → collapsed_by m (simplified_within n inside m most target).steps ≡ (simplified_within n inside m most target).mesh
unfolding simplified_within
made_by_steps zero inside m most target = refl
made_by_steps (suc n) inside m most target =
    let rest : Step → Simplification = λ t. simplified_within n inside (collapsed m t.u t.v) most target in
    elim (nat_le (whole_count inside m) target) as (λ b.
    let all : Simplification = cond b (stays m) (option_map_or (λ t. record { mesh = (rest t).mesh; steps = t ∷ (rest t).steps }) (least_step (done_steps inside m most)) (stays m)) in
    collapsed_by m all.steps ≡ all.mesh) [
      | true ↦ refl
      | false ↦ elim (least_step (done_steps inside m most)) as (λ o.
          let all : Simplification = option_map_or (λ t. record { mesh = (rest t).mesh; steps = t ∷ (rest t).steps }) o (stays m) in
          collapsed_by m all.steps ≡ all.mesh) [
            | None ↦ refl
            | Some s ↦ made_by_steps n inside (collapsed m s.u s.v) most target
          ]
    ]

-- each step is the least that is done, and the steps end at the target or where none is done
pub least_steps : (n : ℕ) (inside : Point → Bool) (m : Mesh) (most : ℤ) (target : ℕ) → finite.len m.vertices ≤ n → AreLeastSteps inside m most target (simplified_within n inside m most target).steps
unfolding simplified_within
least_steps zero inside m most target few =
    inr (λ u v c done. let can = can_collapse inside m u v most c done in omega (arith, some_there m.vertices u (held_there inside m u can.pair.held), few))
least_steps (suc n) inside m most target few =
    let rest : Step → Simplification = λ t. simplified_within n inside (collapsed m t.u t.v) most target in
    elim (nat_le (whole_count inside m) target) as (λ b. nat_le (whole_count inside m) target ≡ b →
    let all : Simplification = cond b (stays m) (option_map_or (λ t. record { mesh = (rest t).mesh; steps = t ∷ (rest t).steps }) (least_step (done_steps inside m most)) (stays m)) in
    AreLeastSteps inside m most target all.steps) [
      | true ↦ λ at. inl (leb-true (whole_count inside m) target at)
      | false ↦ λ above. elim (least_step (done_steps inside m most)) as (λ o. least_step (done_steps inside m most) ≡ o →
          let all : Simplification = option_map_or (λ t. record { mesh = (rest t).mesh; steps = t ∷ (rest t).steps }) o (stays m) in
          AreLeastSteps inside m most target all.steps) [
            | None ↦ λ is. inr (none_done inside m most is)
            | Some s ↦ λ is.
                let leads = least_leads inside m most s is in
                let can = can_collapse inside m s.u s.v most s.cost leads.0 in
                let next = collapsed m s.u s.v in (
                  leb-false (whole_count inside m) target above,
                  leads.0,
                  leads.1,
                  least_steps n inside next most target (omega (arith, len-collapsed m s.u s.v (held_there inside m s.u can.pair.held), few)),
                )
          ] refl
    ] refl

-- where no step is to come, the steps so far are all
pub all_steps : (inside : Point → Bool) (m : Mesh) (most : ℤ) (target : ℕ) (done : List Step) → simplified inside m most target ≡ stays m → done ++ (simplified inside m most target).steps ≡ done
all_steps inside m most target done is = ap (λ (t : Simplification). done ++ t.steps) is ∙ append-nil done

pub least_of_all : (inside : Point → Bool) (m : Mesh) (most : ℤ) (target : ℕ) → AreLeastSteps inside m most target (simplified inside m most target).steps
least_of_all inside m most target = least_steps (finite.len m.vertices) inside m most target (omega arith)

pub made_of_all : (inside : Point → Bool) (m : Mesh) (most : ℤ) (target : ℕ) → collapsed_by m (simplified inside m most target).steps ≡ (simplified inside m most target).mesh
made_of_all inside m most target = made_by_steps (finite.len m.vertices) inside m most target

-- least steps are one list
pub one_least_way : (inside : Point → Bool) (m : Mesh) (most : ℤ) (target : ℕ) (ss ts : List Step) → AreLeastSteps inside m most target ss → AreLeastSteps inside m most target ts → ss ≡ ts
one_least_way inside m most target [] [] h g = refl
one_least_way inside m most target [] (t ∷ ts) h g =
    elim h [ inl low ↦ absurd (omega (arith, low, g.0)) | inr stuck ↦ absurd (stuck t.u t.v t.cost g.1) ]
one_least_way inside m most target (s ∷ ss) [] h g =
    elim g [ inl low ↦ absurd (omega (arith, low, h.0)) | inr stuck ↦ absurd (stuck s.u s.v s.cost h.1) ]
one_least_way inside m most target (s ∷ ss) (t ∷ ts) h g =
    let first : s ≡ t = le_antisymm s t (h.2 t.u t.v t.cost g.1) (g.2 s.u s.v s.cost h.1) in
    let later : AreLeastSteps inside (collapsed m s.u s.v) most target ts = subst (λ (x : Step). AreLeastSteps inside (collapsed m x.u x.v) most target ts) (sym first) g.3 in
    let rest : ss ≡ ts = one_least_way inside (collapsed m s.u s.v) most target ss ts h.3 later in
    λ i. first i ∷ rest i
