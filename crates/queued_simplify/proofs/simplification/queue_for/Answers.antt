use Rattle.std.proofs.Common.{◌≡◌, ◌*◌, ℤ, ap, sym, ◌∙◌, subst, to_z, of_z, rules, true}
use Rattle.std.proofs.lemmas.Int.{to_z-of_z}
use Rattle.std.specs.Int.{w128}
use Rattle.std.specs.List.Sorted.{IsStrictlyIncreasing}
use Rattle.oemm_lists.specs.Numbers.{among}
use Rattle.queued_simplify.specs.Filled.{AreStamped, IsFilled, all_of}
use Rattle.queued_simplify.specs.Turns.{IsReady}
use Rattle.queued_simplify.proofs.Starts.{stamped_start, roomy_start, ready_start, fit_start}
use Rattle.queued_simplify.proofs.simplification.queue_for.Goals as goal

pub fill-requires-clause-once : goal.fill-requires-clause-once
fill-requires-clause-once g c = subst IsStrictlyIncreasing (sym c.slice.ensures.items) c.slice.ensures.ascending

pub fill-requires-clause-held : goal.fill-requires-clause-held
fill-requires-clause-held g c = λ x on.
    sym (c.in_ok-names.ensures x) ∙ subst (λ ns. among x ns ≡ true) c.slice.ensures.items on

pub fill-requires-clause-stamped : goal.fill-requires-clause-stamped
fill-requires-clause-stamped g c =
    subst (λ ns. AreStamped ns 0 c.in_ok-queue.queue) (sym c.slice.ensures.items)
    (stamped_start _ c.in_ok-names.names c.in_ok-queue.queue c.in_ok-queue.ensures)

pub fill-requires-clause-roomy : goal.fill-requires-clause-roomy
fill-requires-clause-roomy g c =
    roomy_start (g.M.Simplifiable.inside c.args.mesh.now)
    (g.M.Simplifiable.seen c.args.mesh.now).mesh _ c.in_ok-names.names
    c.in_ok-queue.queue c.in_ok-queue.ensures (ap (λ n. 6 * n) c.tri_count.ensures)

pub returns-clause-ready : goal.returns-clause-ready
returns-clause-ready g c =
    let inside = g.M.Simplifiable.inside c.args.mesh.now in
    let w = g.M.Simplifiable.seen c.args.mesh.now in
    let top = to_z w128 (of_z w128 c.args.max) in
    let same : top ≡ c.args.max = to_z-of_z w128 c.args.max (search rules) in
    let names = c.in_ok-names.names in
    let t = c.fill.new.queue in
    let filled : IsFilled inside top w (all_of names) 0 c.in_ok-queue.queue t =
    subst (λ ns. IsFilled inside top w (all_of ns) 0 c.in_ok-queue.queue t) c.slice.ensures.items c.in_ok-fill.ensures
    in
    subst (λ (z : ℤ). IsReady inside z w t c.in_ok-refused.refused) same
    (ready_start inside top w _ names c.in_ok-queue.queue t c.in_ok-refused.refused c.in_ok-queue.ensures
    c.in_ok-refused.ensures c.in_ok-names.ensures filled)

pub returns-clause-fit : goal.returns-clause-fit
returns-clause-fit g c =
    let inside = g.M.Simplifiable.inside c.args.mesh.now in
    let w = g.M.Simplifiable.seen c.args.mesh.now in
    let top = to_z w128 (of_z w128 c.args.max) in
    let names = c.in_ok-names.names in
    let t = c.fill.new.queue in
    let filled : IsFilled inside top w (all_of names) 0 c.in_ok-queue.queue t =
    subst (λ ns. IsFilled inside top w (all_of ns) 0 c.in_ok-queue.queue t) c.slice.ensures.items c.in_ok-fill.ensures
    in
    fit_start inside top w _ names c.in_ok-queue.queue t c.in_ok-queue.ensures c.in_ok-names.ensures filled
