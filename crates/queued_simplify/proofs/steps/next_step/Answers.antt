use Rattle.std.proofs.Common.{◌≡◌, ◌∙◌, ◌<◌, ℕ, ℤ, length, Some, None, ap, sym, subst, arith, to_z, of_z, rules}
use Rattle.std.proofs.lemmas.Int.{to_z-of_z}
use Rattle.std.specs.FinMap as finite
use Rattle.std.specs.Int.{w128}
use Rattle.std.specs.Ordering.{nat_cmp}
use Rattle.collapse_queue.specs.Candidates.{is_live}
use Rattle.collapse_queue.specs.Queues.{Queued, popped, least_live}
use Rattle.queued_simplify.specs.Turns.{IsFit, IsNext, IsReady}
use Rattle.queued_simplify.proofs.Fits.{fit_popped}
use Rattle.queued_simplify.proofs.Nexts.{behind_fewer, key_of, next_found, next_more, next_none}
use Rattle.queued_simplify.proofs.steps.next_step.Goals as goal

pub returns-then-is_priced-clause-next : goal.returns-then-is_priced-clause-next
returns-then-is_priced-clause-next g c =
    let inside = g.M.Simplifiable.inside c.args.mesh.now in
    let w = g.M.Simplifiable.seen c.args.mesh.now in
    let top = to_z w128 (of_z w128 c.args.max) in
    let same : top ≡ c.args.max = to_z-of_z w128 c.args.max (search rules) in
    let item = c.in-Some.item in
    let cost : to_z w128 (of_z w128 item.cost) ≡ item.cost = to_z-of_z w128 item.cost (search rules) in
    let found : least_live c.loop-item.queue ≡ Some item = sym c.pop_least.ensures.first ∙ c.in-Some.is in
    let next = next_found inside top w c.loop-item.queue c.loop-item.refused item c.in_ok-reply.reply
    c.loop-item.invariant.ready found c.in-Some.ensures.least c.in_ok-reply.ensures (sym c.is_priced.ensures
    ∙ c.if-is_priced.true) in
    subst (λ (z : ℤ). IsNext inside z w c.pop_least.new.self c.loop-item.refused
    (Some (record { u = item.u; v = item.v; cost = to_z w128 (of_z w128 item.cost) }))) same
    (subst (λ (z : ℤ). IsNext inside top w c.pop_least.new.self c.loop-item.refused
    (Some (record { u = item.u; v = item.v; cost = z }))) (sym cost)
    (subst (λ (q : Queued). IsNext inside top w q c.loop-item.refused
    (Some (record { u = item.u; v = item.v; cost = item.cost }))) (sym c.pop_least.ensures.queue) next))

pub returns-then-is_priced-clause-fit : goal.returns-then-is_priced-clause-fit
returns-then-is_priced-clause-fit g c = λ s fit.
    let inside = g.M.Simplifiable.inside c.args.mesh.now in
    let m = (g.M.Simplifiable.seen c.args.mesh.now).mesh in
    subst (λ (q : Queued). IsFit inside m s q) (sym c.pop_least.ensures.queue)
    (fit_popped inside m s c.loop-item.queue (c.loop-item.invariant.fit s fit))

pub set-requires : goal.set-requires
set-requires g c =
    let inside = g.M.Simplifiable.inside c.args.mesh.now in
    let w = g.M.Simplifiable.seen c.args.mesh.now in
    let top = to_z w128 (of_z w128 c.args.max) in
    key_of inside top w c.loop-item.queue c.loop-item.refused c.in-Some.item c.loop-item.invariant.ready
    c.in-Some.ensures.least

pub loop-item-preserved : goal.loop-item-preserved
loop-item-preserved g c =
    let inside = g.M.Simplifiable.inside c.args.mesh.now in
    let w = g.M.Simplifiable.seen c.args.mesh.now in
    let top = to_z w128 (of_z w128 c.args.max) in
    let item = c.in-Some.item in
    let found : least_live c.loop-item.queue ≡ Some item = sym c.pop_least.ensures.first ∙ c.in-Some.is in
    let more = next_more inside top w c.loop-item.queue c.loop-item.refused item c.in_ok-reply.reply
    c.loop-item.invariant.ready found c.in_ok-reply.ensures (sym c.is_priced.ensures ∙ c.if-is_priced.false) in
    record {
      ready = subst (λ (m : finite.FinMap nat_cmp ℕ). IsReady inside top w c.pop_least.new.self m) (sym c.set.ensures)
          (subst (λ (q : Queued). IsReady inside top w q (finite.insert c.loop-item.refused item.u 1))
          (sym c.pop_least.ensures.queue) more);
      fit = λ s fit. subst (λ (q : Queued). IsFit inside w.mesh s q) (sym c.pop_least.ensures.queue)
          (fit_popped inside w.mesh s c.loop-item.queue (c.loop-item.invariant.fit s fit));
    }

pub loop-item-smaller : goal.loop-item-smaller
loop-item-smaller g c =
    let q = c.loop-item.queue in
    let fewer : length (popped q).items < length q.items =
    behind_fewer (is_live q.stamps) c.in-Some.item q.items (sym c.pop_least.ensures.first ∙ c.in-Some.is) in
    let same : length c.pop_least.new.self.items ≡ length (popped q).items =
    ap (λ (r : Queued). length r.items) c.pop_least.ensures.queue in
    omega (arith, fewer, same)

pub loop-item-preserved-else-is_priced : goal.loop-item-preserved-else-is_priced
loop-item-preserved-else-is_priced g c =
    let inside = g.M.Simplifiable.inside c.args.mesh.now in
    let w = g.M.Simplifiable.seen c.args.mesh.now in
    let top = to_z w128 (of_z w128 c.args.max) in
    let item = c.in-Some.item in
    let found : least_live c.loop-item.queue ≡ Some item = sym c.pop_least.ensures.first ∙ c.in-Some.is in
    let more = next_more inside top w c.loop-item.queue c.loop-item.refused item c.in_ok-reply.reply
    c.loop-item.invariant.ready found c.in_ok-reply.ensures (sym c.is_priced.ensures ∙ c.if-is_priced.false) in
    record {
      ready = subst (λ (m : finite.FinMap nat_cmp ℕ). IsReady inside top w c.pop_least.new.self m) (sym c.set.ensures)
          (subst (λ (q : Queued). IsReady inside top w q (finite.insert c.loop-item.refused item.u 1))
          (sym c.pop_least.ensures.queue) more);
      fit = λ s fit. subst (λ (q : Queued). IsFit inside w.mesh s q) (sym c.pop_least.ensures.queue)
          (fit_popped inside w.mesh s c.loop-item.queue (c.loop-item.invariant.fit s fit));
    }

pub loop-item-smaller-else-is_priced : goal.loop-item-smaller-else-is_priced
loop-item-smaller-else-is_priced g c =
    let q = c.loop-item.queue in
    let fewer : length (popped q).items < length q.items =
    behind_fewer (is_live q.stamps) c.in-Some.item q.items (sym c.pop_least.ensures.first ∙ c.in-Some.is) in
    let same : length c.pop_least.new.self.items ≡ length (popped q).items =
    ap (λ (r : Queued). length r.items) c.pop_least.ensures.queue in
    omega (arith, fewer, same)

pub returns-clause-next : goal.returns-clause-next
returns-clause-next g c =
    let inside = g.M.Simplifiable.inside c.args.mesh.now in
    let w = g.M.Simplifiable.seen c.args.mesh.now in
    let top = to_z w128 (of_z w128 c.args.max) in
    let same : top ≡ c.args.max = to_z-of_z w128 c.args.max (search rules) in
    subst (λ (z : ℤ). IsNext inside z w c.pop_least.new.self c.loop-item.refused None) same
    (next_none inside top w c.loop-item.queue c.pop_least.new.self c.loop-item.refused c.loop-item.refused
    c.loop-item.invariant.ready c.in_default.ensures.none)

pub returns-clause-fit : goal.returns-clause-fit
returns-clause-fit g c = λ s fit.
    let inside = g.M.Simplifiable.inside c.args.mesh.now in
    let m = (g.M.Simplifiable.seen c.args.mesh.now).mesh in
    subst (λ (q : Queued). IsFit inside m s q) (sym c.pop_least.ensures.queue)
    (fit_popped inside m s c.loop-item.queue (c.loop-item.invariant.fit s fit))
