use Rattle.std.proofs.Common.{◌≡◌, ◌∙◌, ◌++◌, ◌<◌, ℤ, List, Some, ap, sym, arith, to_z, of_z, rules}
use Rattle.std.specs.FinMap as finite
use Rattle.std.specs.Int.{w128}
use Rattle.std.proofs.lemmas.Int.{to_z-of_z}
use Rattle.mesh_data.specs.declared.edits.Step.{Step}
use Rattle.mesh_data.specs.Edits.{collapsed, done_steps, least_step, Simplification, simplified, whole_count}
use Rattle.mesh_data.specs.Mesh.{Mesh}
use Rattle.oemm_octree.specs.Octree.{is_inside}
use Rattle.edit_steps.proofs.Passed.{can_collapse}
use Rattle.edit_steps.proofs.Tried.{held_there}
use Rattle.edit_steps.proofs.Simplification.{least_leads, kept_mesh, kept_steps, len-collapsed, stays, all_steps, reached, stuck}
use Rattle.mesh_model.proofs.plain_mesh.PlainMesh.make_steps.Goals as goal
use Rattle.mesh_model.proofs.plain_mesh.PlainMesh.make_steps.Goals.{else-loop-alloc-test, then-loop-alloc-test+in_ok-step+in_default}

pub collapse-requires-clause-apart : goal.collapse-requires-clause-apart
collapse-requires-clause-apart c =
    let inside = is_inside c.args.area.now in
    let top = to_z w128 (of_z w128 c.args.max) in
    let m = c.loop-alloc.self in
    let s = c.in-Some.step in
    (can_collapse inside m s.u s.v top s.cost (least_leads inside m top s (sym c.in_ok-step.ensures ∙ c.in-Some.is)).0).pair.apart

pub collapse-requires-clause-there : goal.collapse-requires-clause-there
collapse-requires-clause-there c =
    let inside = is_inside c.args.area.now in
    let top = to_z w128 (of_z w128 c.args.max) in
    let m = c.loop-alloc.self in
    let s = c.in-Some.step in
    held_there inside m s.v (can_collapse inside m s.u s.v top s.cost (least_leads inside m top s (sym c.in_ok-step.ensures ∙ c.in-Some.is)).0).pair.onto_held

pub loop-alloc-smaller : goal.loop-alloc-smaller
loop-alloc-smaller c =
    let inside = is_inside c.args.area.now in
    let top = to_z w128 (of_z w128 c.args.max) in
    let m = c.loop-alloc.self in
    let s = c.in-Some.step in
    let can = can_collapse inside m s.u s.v top s.cost (least_leads inside m top s (sym c.in_ok-step.ensures ∙ c.in-Some.is)).0 in
    let fewer = len-collapsed m s.u s.v (held_there inside m s.u can.pair.held) in
    let made : c.collapse.new.self ≡ collapsed m s.u s.v = c.in_ok-collapse.ensures.ok in
    omega (arith, fewer, ap (λ (k : Mesh). finite.len k.vertices) made)

pub loop-alloc-preserved : goal.loop-alloc-preserved
loop-alloc-preserved c =
    let inside = is_inside c.args.area.now in
    let top = to_z w128 (of_z w128 c.args.max) in
    let m = c.loop-alloc.self in
    let s = c.in-Some.step in
    let least : least_step (done_steps inside m top) ≡ Some s = sym c.in_ok-step.ensures ∙ c.in-Some.is in
    let above : c.args.target < whole_count inside m = omega (arith, c.whole_count.ensures.count, c.loop-alloc-test.true) in
    let made : c.collapse.new.self ≡ collapsed m s.u s.v = c.in_ok-collapse.ensures.ok in
    record {
      mesh = kept_mesh inside m c.collapse.new.self top c.args.target s above least made ∙ c.loop-alloc.invariant.mesh;
      told = ap (λ (ss : List Step). ss ++ (simplified inside c.collapse.new.self top c.args.target).steps) c.in_ok-push.ensures.items
          ∙ kept_steps inside m c.collapse.new.self top c.args.target s c.loop-alloc.steps.items above least made ∙ c.loop-alloc.invariant.told;
    }

pub returns-clause-steps : goal.returns-clause-steps
returns-clause-steps c =
    let inside = is_inside c.args.area.now in
    let top = to_z w128 (of_z w128 c.args.max) in
    let same : top ≡ c.args.max = to_z-of_z w128 c.args.max (search rules) in
    let m = c.loop-alloc.self in
    let all : simplified inside m top c.args.target ≡ stays m → c.from_vec.result ≡ (simplified inside c.args.self.now c.args.max c.args.target).steps =
    λ ended. c.from_vec.ensures ∙ sym (all_steps inside m top c.args.target c.loop-alloc.steps.items ended) ∙ c.loop-alloc.invariant.told
    ∙ ap (λ (x : ℤ). (simplified inside c.args.self.now x c.args.target).steps) same in
    elim c.loop-alloc-test.branch [
      | else-loop-alloc-test w ↦ all (reached (finite.len m.vertices) inside m top c.args.target (omega (arith, c.whole_count.ensures.count, w.loop-alloc-test.false)))
      | then-loop-alloc-test+in_ok-step+in_default w ↦ all (stuck (finite.len m.vertices) inside m top c.args.target (sym w.in_ok-step.ensures ∙ w.in_default.is))
    ]

pub returns-clause-mesh : goal.returns-clause-mesh
returns-clause-mesh c =
    let inside = is_inside c.args.area.now in
    let top = to_z w128 (of_z w128 c.args.max) in
    let same : top ≡ c.args.max = to_z-of_z w128 c.args.max (search rules) in
    let m = c.loop-alloc.self in
    let all : simplified inside m top c.args.target ≡ stays m → m ≡ (simplified inside c.args.self.now c.args.max c.args.target).mesh =
    λ ended. sym (ap (λ (t : Simplification). t.mesh) ended) ∙ c.loop-alloc.invariant.mesh ∙ ap (λ (x : ℤ). (simplified inside c.args.self.now x c.args.target).mesh) same in
    elim c.loop-alloc-test.branch [
      | else-loop-alloc-test w ↦ all (reached (finite.len m.vertices) inside m top c.args.target (omega (arith, c.whole_count.ensures.count, w.loop-alloc-test.false)))
      | then-loop-alloc-test+in_ok-step+in_default w ↦ all (stuck (finite.len m.vertices) inside m top c.args.target (sym w.in_ok-step.ensures ∙ w.in_default.is))
    ]
