-- The work of edits on what an area sees is what it sees of the work, with the same replies.
use Rattle.std.proofs.Common.{◌≡◌, ℕ, zero, suc, ◌+◌, ◌≤◌, ◌<◌, nat_le, ℤ, Bool, true, false, cond, ◌&&◌, List, [], ◌∷◌, Some, None, refl, sym, ap, ◌∙◌, subst, arith}
use Rattle.std.proofs.lemmas.Bool.{false≢true, leb-true, leb-false, and_parts, or_left}
use Rattle.std.specs.FinMap as finite
use Rattle.std.specs.List.{list_any, list_all, filter}
use Rattle.oemm_octree.specs.declared.points.Point.{Point}
use Rattle.mesh_data.specs.declared.geometry.Tri.{Tri}
use Rattle.mesh_data.specs.declared.edits.Edit.{Edit}
use Rattle.mesh_data.specs.declared.edits.Edit.TheVariants.{Move, Collapse, Flip, Simplify}
use Rattle.mesh_data.specs.declared.edits.Step.{Step}
use Rattle.mesh_data.specs.declared.edits.Reply.{Reply}
use Rattle.mesh_data.specs.declared.edits.Reply.TheVariants.{Simplified}
use Rattle.mesh_data.specs.Edits.{is_held, collapsed, collapsed_by, collapse_verdict, done_steps, least_step, whole_count, Simplification, simplified, verdict, after, is_done, moved, flipped, move_verdict, flip_verdict}
use Rattle.mesh_data.specs.Mesh.{Mesh}
use Rattle.mesh_data.specs.Triangles.{corners}
use Rattle.mesh_data.specs.Work.{work}
use Rattle.triangle_lists.proofs.Counts.{one_if, often, often_is}
use Rattle.edit_steps.proofs.Steps.{IsDoneStep, one_least, least_of_same}
use Rattle.edit_steps.proofs.Tried.{held_there, least_done}
use Rattle.edit_steps.proofs.Simplification.{made_of_all, least_leads, len-collapsed, one_step, reached, stuck}
use Rattle.edit_steps.specs.Steps.{answer_of}
use Rattle.mesh_data.specs.Seen.{touches, seen, seen_worked}
use Rattle.edit_laws.proofs.SeenVerdicts.{held-seen, collapse_seen, move_seen, flip_seen}
use Rattle.edit_steps.proofs.Passed.{can_collapse, collapse_passed, flip_passed, move_passed}
use Rattle.edit_laws.proofs.SeenEffects.{seen_moved, seen_flipped, seen_collapsed}

-- ---- how many triangles are held whole
often-filter : (p q r : Tri → Bool) → ((t : Tri) → p t ≡ true → q t ≡ true) → ((t : Tri) → p t ≡ r t) → (ts : List Tri) → often p ts ≡ often r (filter q ts)
often-filter p q r more same [] = refl
often-filter p q r more same (t ∷ ts) =
    let rest = often-filter p q r more same ts in
    elim (q t) as (λ b. q t ≡ b → one_if (p t) + often p ts ≡ often r (cond b (t ∷ filter q ts) (filter q ts))) [
      | true ↦ λ _ i. one_if (same t i) + rest i
      | false ↦ λ fails. elim (p t) as (λ b. p t ≡ b → one_if b + often p ts ≡ often r (filter q ts)) [
        | true ↦ λ passes. absurd (false≢true (sym fails ∙ more t passes))
        | false ↦ λ _. omega (arith, rest)
      ] refl
    ] refl

whole_touches : (p : ℕ → Bool) (t : Tri) → list_all p (corners t) ≡ true → list_any p (corners t) ≡ true
whole_touches p t h = or_left (p t.a) _ (and_parts (p t.a) _ h).0

pub whole-seen : (inside : Point → Bool) (m : Mesh) → whole_count inside m ≡ whole_count inside (seen inside m)
whole-seen inside m =
    let n = seen inside m in
    sym (often_is (λ t. list_all (is_held inside m) (corners t)) m.tris)
    ∙ often-filter (λ t. list_all (is_held inside m) (corners t)) (touches inside m) (λ t. list_all (is_held inside n) (corners t)) (λ t h. whole_touches (is_held inside m) t h)
    (λ t i. held-seen inside m t.a i && (held-seen inside m t.b i && (held-seen inside m t.c i && true))) m.tris
    ∙ often_is (λ t. list_all (is_held inside n) (corners t)) n.tris

-- ---- the least step
pub least-seen : (inside : Point → Bool) (m : Mesh) (most : ℤ) → least_step (done_steps inside m most) ≡ least_step (done_steps inside (seen inside m) most)
least-seen inside m most =
    let n = seen inside m in
    one_least (IsDoneStep (answer_of inside m most)) _ _ (least_done inside m most)
    (least_of_same (IsDoneStep (answer_of inside n most)) (IsDoneStep (answer_of inside m most)) (least_step (done_steps inside n most))
    (λ s h. collapse_seen inside m s.u s.v most ∙ h) (λ s h. sym (collapse_seen inside m s.u s.v most) ∙ h) (least_done inside n most))

-- ---- simplifications
abbrev pub seen_steps : (Point → Bool) → Simplification → Simplification
seen_steps inside t = record { mesh = seen inside t.mesh; steps = t.steps }

-- where it is so after each step, it is so
seen_step : (inside : Point → Bool) (m : Mesh) (most : ℤ) (target : ℕ)
    → ((s : Step) → finite.len (collapsed m s.u s.v).vertices + 1 ≡ finite.len m.vertices → simplified inside (seen inside (collapsed m s.u s.v)) most target ≡ seen_steps inside (simplified inside (collapsed m s.u s.v) most target))
    → simplified inside (seen inside m) most target ≡ seen_steps inside (simplified inside m most target)
seen_step inside m most target later =
    let k = seen inside m in
    elim (nat_le (whole_count inside m) target) as (λ b. nat_le (whole_count inside m) target ≡ b → simplified inside k most target ≡ seen_steps inside (simplified inside m most target)) [
      | true ↦ λ at.
          let low = leb-true (whole_count inside m) target at in
          reached (finite.len k.vertices) inside k most target (subst (λ (c : ℕ). c ≤ target) (whole-seen inside m) low)
          ∙ ap (seen_steps inside) (sym (reached (finite.len m.vertices) inside m most target low))
      | false ↦ λ above.
          let high = leb-false (whole_count inside m) target above in
          let high' : target < whole_count inside k = subst (λ (c : ℕ). target < c) (whole-seen inside m) high in
          elim (least_step (done_steps inside m most)) as (λ o. least_step (done_steps inside m most) ≡ o → simplified inside k most target ≡ seen_steps inside (simplified inside m most target)) [
            | None ↦ λ is.
                stuck (finite.len k.vertices) inside k most target (sym (least-seen inside m most) ∙ is)
                ∙ ap (seen_steps inside) (sym (stuck (finite.len m.vertices) inside m most target is))
            | Some s ↦ λ is.
                let leads = least_leads inside m most s is in
                let can = can_collapse inside m s.u s.v most s.cost leads.0 in
                let rest : simplified inside (collapsed k s.u s.v) most target ≡ seen_steps inside (simplified inside (collapsed m s.u s.v) most target) =
                ap (λ (j : Mesh). simplified inside j most target) (sym (seen_collapsed inside m s.u s.v can.pair.apart can.pair.held can.pair.onto_held)) ∙ later s (len-collapsed m s.u s.v (held_there inside m s.u can.pair.held)) in
                one_step inside k most target s high' (sym (least-seen inside m most) ∙ is)
                ∙ ap (λ (t : Simplification). let r : Simplification = record { mesh = t.mesh; steps = s ∷ t.steps } in r) rest
                ∙ ap (seen_steps inside) (sym (one_step inside m most target s high is))
          ] refl
    ] refl

seen_more : (n : ℕ) (inside : Point → Bool) (m : Mesh) (most : ℤ) (target : ℕ) → finite.len m.vertices ≤ n → simplified inside (seen inside m) most target ≡ seen_steps inside (simplified inside m most target)
seen_more zero inside m most target few = seen_step inside m most target (λ s one. absurd (omega (arith, few, one)))
seen_more (suc n) inside m most target few = seen_step inside m most target (λ s one. seen_more n inside (collapsed m s.u s.v) most target (omega (arith, few, one)))

-- what an area sees of a simplified mesh is what is made of what it sees, in the same steps
pub seen_simplified : (inside : Point → Bool) (m : Mesh) (most : ℤ) (target : ℕ) → simplified inside (seen inside m) most target ≡ seen_steps inside (simplified inside m most target)
seen_simplified inside m most target = seen_more (finite.len m.vertices) inside m most target (omega arith)

-- ---- one edit
pub verdict_seen : (inside : Point → Bool) (m : Mesh) (e : Edit) → verdict inside (seen inside m) e ≡ verdict inside m e
verdict_seen inside m (Move v to) = sym (move_seen inside m v to)
verdict_seen inside m (Collapse u v most) = sym (collapse_seen inside m u v most)
verdict_seen inside m (Flip a b) = sym (flip_seen inside m a b)
verdict_seen inside m (Simplify most target) =
    let same = seen_simplified inside m most target in
    let left : whole_count inside (simplified inside (seen inside m) most target).mesh ≡ whole_count inside (simplified inside m most target).mesh =
    ap (λ (t : Simplification). whole_count inside t.mesh) same ∙ sym (whole-seen inside (simplified inside m most target).mesh) in
    λ i. Simplified (same i).steps (left i)

-- where a done edit is seen as the edit of what is seen, so is an edit
after_by : (inside : Point → Bool) (m : Mesh) (r : Reply) (new seen_new : Mesh) → (is_done r ≡ true → seen_new ≡ seen inside new) → cond (is_done r) seen_new (seen inside m) ≡ seen inside (cond (is_done r) new m)
after_by inside m r new seen_new made =
    elim (is_done r) as (λ b. is_done r ≡ b → cond b seen_new (seen inside m) ≡ seen inside (cond b new m)) [ true ↦ made | false ↦ λ _. refl ] refl

pub after_seen : (inside : Point → Bool) (m : Mesh) (e : Edit) → after (seen inside m) e (verdict inside m e) ≡ seen inside (after m e (verdict inside m e))
after_seen inside m (Move v to) =
    after_by inside m (move_verdict inside m v to) (moved m v to) (moved (seen inside m) v to) (λ done. let p = move_passed inside m v to done in sym (seen_moved inside m v to p.0 p.1))
after_seen inside m (Collapse u v most) =
    after_by inside m (collapse_verdict inside m u v most) (collapsed m u v) (collapsed (seen inside m) u v) (λ done. let p = (collapse_passed inside m u v most done).pair in sym (seen_collapsed inside m u v p.apart p.held p.onto_held))
after_seen inside m (Flip a b) =
    after_by inside m (flip_verdict inside m a b) (flipped m a b) (flipped (seen inside m) a b) (λ done. let p = (flip_passed inside m a b done).pair in sym (seen_flipped inside m a b p.held p.onto_held))
after_seen inside m (Simplify most target) =
    let same = seen_simplified inside m most target in
    ap (λ (t : Simplification). collapsed_by (seen inside m) t.steps) (sym same)
    ∙ made_of_all inside (seen inside m) most target
    ∙ ap (λ (t : Simplification). t.mesh) same
    ∙ ap (seen inside) (sym (made_of_all inside m most target))

-- ---- edits in a row
pub work_seen : (inside : Point → Bool) (m : Mesh) (es : List Edit) → work inside (seen inside m) es ≡ seen_worked inside (work inside m es)
work_seen inside m [] = refl
work_seen inside m (e ∷ es) =
    let r = verdict inside m e in
    let first : after (seen inside m) e (verdict inside (seen inside m) e) ≡ seen inside (after m e r) = ap (after (seen inside m) e) (verdict_seen inside m e) ∙ after_seen inside m e in
    let rest : work inside (after (seen inside m) e (verdict inside (seen inside m) e)) es ≡ seen_worked inside (work inside (after m e r) es) = ap (λ (k : Mesh). work inside k es) first ∙ work_seen inside (after m e r) es in
    λ i. record { mesh = (rest i).mesh; replies = verdict_seen inside m e i ∷ (rest i).replies }
