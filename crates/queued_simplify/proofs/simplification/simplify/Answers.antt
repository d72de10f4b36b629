use Rattle.std.proofs.Common.{◌≡◌, ◌∙◌, ◌++◌, ◌+◌, ◌<◌, ◌≤◌, ◌⊎◌, inl, inr, ℤ, List, [], ◌∷◌, length, length-append, append-nil, append_assoc, Bool, Some, ap, sym, subst, arith, to_z, of_z, rules}
use Rattle.std.proofs.lemmas.Int.{to_z-of_z}
use Rattle.std.specs.FinMap as finite
use Rattle.std.specs.Int.{w128}
use Rattle.oemm_octree.specs.declared.points.Point.{Point}
use Rattle.mesh_data.specs.declared.edits.Step.{Step}
use Rattle.mesh_data.specs.Edits.{whole_count}
use Rattle.edit_steps.proofs.Simplification.{len-collapsed}
use Rattle.edit_steps.proofs.Tried.{held_there}
use Rattle.queued_simplify.specs.Errors.{ErrorMesh, contracted, contracted_by, made_by}
use Rattle.queued_simplify.specs.LeastSteps.{AreLeastStepsBy, HasNoneDone, IsLeastDone}
use Rattle.queued_simplify.specs.Turns.{IsFit, IsInOrder, IsNext, IsReady}
use Rattle.queued_simplify.proofs.Prices.{pair_of_done}
use Rattle.queued_simplify.proofs.StepLaws.{made_by_more, made_more}
use Rattle.queued_simplify.proofs.Turns.{order_then}
use Rattle.queued_simplify.proofs.simplification.simplify.Goals as goal
use Rattle.queued_simplify.proofs.simplification.simplify.Goals.{else-loop-alloc-test, then-loop-alloc-test+in_ok-step+in_default}

pub turn-requires-clause-order : goal.turn-requires-clause-order
turn-requires-clause-order g c = c.loop-alloc.invariant.order

pub turn-requires-clause-done : goal.turn-requires-clause-done
turn-requires-clause-done g c =
    let J = g.M.Simplifiable.inside c.loop-alloc.mesh in
    let w = g.M.Simplifiable.seen c.loop-alloc.mesh in
    let top = to_z w128 (of_z w128 c.args.max) in
    let s = c.in-Some.step in
    let next : IsNext J top w c.next_step.new.queue c.next_step.new.refused (Some s) =
    subst (IsNext J top w c.next_step.new.queue c.next_step.new.refused) c.in-Some.is c.in_ok-step.ensures.next in
    next.0.done

pub turn-requires-clause-ready : goal.turn-requires-clause-ready
turn-requires-clause-ready g c =
    let J = g.M.Simplifiable.inside c.loop-alloc.mesh in
    let w = g.M.Simplifiable.seen c.loop-alloc.mesh in
    let top = to_z w128 (of_z w128 c.args.max) in
    let s = c.in-Some.step in
    let next : IsNext J top w c.next_step.new.queue c.next_step.new.refused (Some s) =
    subst (IsNext J top w c.next_step.new.queue c.next_step.new.refused) c.in-Some.is c.in_ok-step.ensures.next in
    next.1

pub turn-requires-clause-fit : goal.turn-requires-clause-fit
turn-requires-clause-fit g c =
    let J = g.M.Simplifiable.inside c.loop-alloc.mesh in
    let w = g.M.Simplifiable.seen c.loop-alloc.mesh in
    let s = c.in-Some.step in
    let I = g.M.Simplifiable.inside c.args.mesh.now in
    let still : J ≡ I = c.loop-alloc.invariant.area in
    let before = length c.loop-alloc.steps.items in
    let stamp : c.len-stamp.result ≡ before + 1 =
    omega (
      arith,
      c.len-stamp.ensures,
      c.push.new.self.ok.0,
      ap (λ (ss : List Step). length ss) c.in_ok-push.ensures.items,
      length-append c.loop-alloc.steps.items (s ∷ []),
    ) in
    let was : IsFit J w.mesh (before + 1) c.loop-alloc.queue =
    subst (λ (K : Point → Bool). IsFit K w.mesh (before + 1) c.loop-alloc.queue)
    (sym still) c.loop-alloc.invariant.fit in
    subst (λ k. IsFit J w.mesh k c.next_step.new.queue) (sym stamp) (c.in_ok-step.ensures.fit (before + 1) was)

pub loop-alloc-smaller : goal.loop-alloc-smaller
loop-alloc-smaller g c =
    let J = g.M.Simplifiable.inside c.loop-alloc.mesh in
    let w = g.M.Simplifiable.seen c.loop-alloc.mesh in
    let top = to_z w128 (of_z w128 c.args.max) in
    let s = c.in-Some.step in
    let next : IsNext J top w c.next_step.new.queue c.next_step.new.refused (Some s) =
    subst (IsNext J top w c.next_step.new.queue c.next_step.new.refused) c.in-Some.is c.in_ok-step.ensures.next in
    let n = g.M.Simplifiable.seen c.turn.new.mesh in
    let made : n ≡ contracted w s.u s.v = c.in_ok-turn.ensures.mesh in
    let held = (pair_of_done J w s.u s.v top s.cost next.0.done).held in
    let fewer = len-collapsed w.mesh s.u s.v (held_there J w.mesh s.u held) in
    omega (arith, fewer, ap (λ (k : ErrorMesh). finite.len k.mesh.vertices) made)

pub loop-alloc-preserved : goal.loop-alloc-preserved
loop-alloc-preserved g c =
    let J = g.M.Simplifiable.inside c.loop-alloc.mesh in
    let w = g.M.Simplifiable.seen c.loop-alloc.mesh in
    let top = to_z w128 (of_z w128 c.args.max) in
    let s = c.in-Some.step in
    let next : IsNext J top w c.next_step.new.queue c.next_step.new.refused (Some s) =
    subst (IsNext J top w c.next_step.new.queue c.next_step.new.refused) c.in-Some.is c.in_ok-step.ensures.next in
    let I = g.M.Simplifiable.inside c.args.mesh.now in
    let F = g.M.Simplifiable.seen c.args.mesh.now in
    let still : J ≡ I = c.loop-alloc.invariant.area in
    let n = g.M.Simplifiable.seen c.turn.new.mesh in
    let made : n ≡ contracted w s.u s.v = c.in_ok-turn.ensures.mesh in
    let same_area = c.in_ok-turn.ensures.area ∙ still in
    let steps = c.loop-alloc.steps.items in
    let grown : c.push.new.self.items ≡ steps ++ s ∷ [] = c.in_ok-push.ensures.items in
    let later : c.len-stamp.result + 1 ≡ length c.push.new.self.items + 1 =
    omega (arith, c.len-stamp.ensures, c.push.new.self.ok.0) in
    let above : c.args.target < whole_count I w.mesh =
    subst (λ (K : Point → Bool). c.args.target < whole_count K w.mesh) still
    (omega (arith, c.whole_count.ensures, c.loop-alloc-test.true)) in
    let first : IsLeastDone I w top s = subst (λ (K : Point → Bool). IsLeastDone K w top s) still next.0 in
    record {
      area = same_area;
      order = subst (λ (k : ErrorMesh). IsInOrder k.mesh) (sym made)
          (order_then w.mesh s.u s.v c.loop-alloc.invariant.order);
      ready = subst (λ (K : Point → Bool). IsReady K top n c.turn.new.queue c.turn.new.refused) same_area
          c.in_ok-turn.ensures.ready;
      fit = subst (λ k. IsFit I n.mesh k c.turn.new.queue) later
          (subst (λ (K : Point → Bool). IsFit K n.mesh (c.len-stamp.result + 1) c.turn.new.queue) same_area
          c.in_ok-turn.ensures.fit);
      kept = c.in_ok-turn.ensures.made ∙ ap (λ m. g.M.Simplifiable.collapsed m s.u s.v) c.loop-alloc.invariant.kept
          ∙ sym (made_by_more g.M.Simplifiable.collapsed c.args.mesh.now steps s)
          ∙ ap (made_by g.M.Simplifiable.collapsed c.args.mesh.now) (sym grown);
      rest = c.turn.ensures.rest ∙ c.loop-alloc.invariant.rest;
      made = made ∙ ap (λ (k : ErrorMesh). contracted k s.u s.v) c.loop-alloc.invariant.made ∙ sym (made_more F steps s)
          ∙ ap (contracted_by F) (sym grown);
      least = λ rest h.
          let then_rest : AreLeastStepsBy I (contracted w s.u s.v) top c.args.target rest =
          subst (λ (k : ErrorMesh). AreLeastStepsBy I k top c.args.target rest) made h in
          subst (λ (ss : List Step). AreLeastStepsBy I F top c.args.target ss) (sym (append_assoc steps (s ∷ []) rest)
          ∙ ap (λ (ss : List Step). ss ++ rest) (sym grown))
          (c.loop-alloc.invariant.least (s ∷ rest) (above, first, then_rest));
    }

pub returns-clause-steps : goal.returns-clause-steps
returns-clause-steps g c =
    let J = g.M.Simplifiable.inside c.loop-alloc.mesh in
    let w = g.M.Simplifiable.seen c.loop-alloc.mesh in
    let top = to_z w128 (of_z w128 c.args.max) in
    let I = g.M.Simplifiable.inside c.args.mesh.now in
    let F = g.M.Simplifiable.seen c.args.mesh.now in
    let still : J ≡ I = c.loop-alloc.invariant.area in
    let same : top ≡ c.args.max = to_z-of_z w128 c.args.max (search rules) in
    let steps = c.loop-alloc.steps.items in
    let all : (whole_count I w.mesh ≤ c.args.target) ⊎ HasNoneDone I w top
    → AreLeastStepsBy I F c.args.max c.args.target c.from_vec.result = λ ended.
    subst (λ (z : ℤ). AreLeastStepsBy I F z c.args.target c.from_vec.result) same
    (subst (λ (ss : List Step). AreLeastStepsBy I F top c.args.target ss) (append-nil steps
    ∙ sym c.from_vec.ensures) (c.loop-alloc.invariant.least [] ended)) in
    elim c.loop-alloc-test.branch [
      | else-loop-alloc-test x ↦ all (inl
          (subst (λ (K : Point → Bool). whole_count K w.mesh ≤ c.args.target) still
          (omega (arith, c.whole_count.ensures, x.loop-alloc-test.false))))
      | then-loop-alloc-test+in_ok-step+in_default x ↦
          all (inr (subst (λ (K : Point → Bool). HasNoneDone K w top) still
          (subst (IsNext J top w x.next_step.new.queue x.next_step.new.refused) x.in_default.is
          x.in_ok-step.ensures.next)))
    ]

pub returns-clause-made : goal.returns-clause-made
returns-clause-made g c =
    c.loop-alloc.invariant.kept ∙ ap (made_by g.M.Simplifiable.collapsed c.args.mesh.now) (sym c.from_vec.ensures)

pub returns-clause-mesh : goal.returns-clause-mesh
returns-clause-mesh g c =
    let F = g.M.Simplifiable.seen c.args.mesh.now in
    c.loop-alloc.invariant.made ∙ ap (contracted_by F) (sym c.from_vec.ensures)

pub returns-clause-area : goal.returns-clause-area
returns-clause-area g c =
    let J = g.M.Simplifiable.inside c.loop-alloc.mesh in
    let I = g.M.Simplifiable.inside c.args.mesh.now in
    let still : J ≡ I = c.loop-alloc.invariant.area in
    still
