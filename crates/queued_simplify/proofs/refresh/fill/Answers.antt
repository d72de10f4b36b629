use Rattle.std.proofs.Common.{◌≡◌, ◌+◌, eqb, arith, take, sym, subst, take_all, to_z, of_z}
use Rattle.std.specs.List.{IsDistinct}
use Rattle.std.specs.Int.{w128}
use Rattle.queued_simplify.specs.Filled.{AreHeldAround, IsFilled, up_to}
use Rattle.queued_simplify.proofs.Fills.{new_name, new_of_different, at_place, ring_more, ring_room, ring_done}
use Rattle.queued_simplify.proofs.refresh.fill.Goals as goal

pub held_around-requires : goal.held_around-requires
held_around-requires g c =
    let x = c.name-item.result in
    c.requires.held x (at_place c.args.names.now c.loop-name.name-index x c.loop-name-test.true c.name-item.is)

pub offer-requires-clause-pair : goal.offer-requires-clause-pair
offer-requires-clause-pair g c =
    let inside = g.M.Simplifiable.inside c.args.mesh.now in
    let w = g.M.Simplifiable.seen c.args.mesh.now in
    let near = c.deref-other-items.result.now in
    let x = c.name-item.result in
    let same = sym c.deref-other-items.ensures.value in
    let around : AreHeldAround inside w.mesh x near =
    subst (AreHeldAround inside w.mesh x) same c.in_ok-held_around.ensures.around in
    (around c.other-item.result).0 (at_place near c.loop-other.other-index c.other-item.result c.loop-other-test.true
    c.other-item.is)

pub offer-requires-clause-room : goal.offer-requires-clause-room
offer-requires-clause-room g c =
    let inside = g.M.Simplifiable.inside c.args.mesh.now in
    let w = g.M.Simplifiable.seen c.args.mesh.now in
    let most = to_z w128 (of_z w128 c.args.max) in
    let all = c.args.names.now in
    let near = c.deref-other-items.result.now in
    let i = c.loop-name.name-index in
    let x = c.name-item.result in
    let same = sym c.deref-other-items.ensures.value in
    let around : AreHeldAround inside w.mesh x near =
    subst (AreHeldAround inside w.mesh x) same c.in_ok-held_around.ensures.around in
    let j = c.loop-other.other-index in
    let y = c.other-item.result in
    let within = c.loop-other-test.true in
    let once : IsDistinct eqb near = subst (IsDistinct eqb) same c.in_ok-held_around.ensures.once in
    let on = at_place all i x c.loop-name-test.true c.name-item.is in
    let new = new_name all i x c.requires.once c.loop-name-test.true c.name-item.is in
    let first = new_of_different near j y once within c.other-item.is in
    ring_room inside most w all (take i all) near j x y c.args.stamp c.args.queue.now c.loop-other.queue
    c.requires.stamped on new around within c.other-item.is first c.loop-other.invariant

pub loop-other-preserved : goal.loop-other-preserved
loop-other-preserved g c =
    let inside = g.M.Simplifiable.inside c.args.mesh.now in
    let w = g.M.Simplifiable.seen c.args.mesh.now in
    let most = to_z w128 (of_z w128 c.args.max) in
    let all = c.args.names.now in
    let near = c.deref-other-items.result.now in
    let i = c.loop-name.name-index in
    let x = c.name-item.result in
    let same = sym c.deref-other-items.ensures.value in
    let around : AreHeldAround inside w.mesh x near =
    subst (AreHeldAround inside w.mesh x) same c.in_ok-held_around.ensures.around in
    let j = c.loop-other.other-index in
    let y = c.other-item.result in
    let within = c.loop-other-test.true in
    let once : IsDistinct eqb near = subst (IsDistinct eqb) same c.in_ok-held_around.ensures.once in
    let on = at_place all i x c.loop-name-test.true c.name-item.is in
    let new = new_name all i x c.requires.once c.loop-name-test.true c.name-item.is in
    let first = new_of_different near j y once within c.other-item.is in
    subst (λ q. IsFilled inside most w (up_to (take i all) x (take (j + 1) near)) c.args.stamp c.args.queue.now q)
    (sym c.offer.ensures)
    (ring_more inside most w all (take i all) near j x y c.args.stamp c.args.queue.now c.loop-other.queue
    c.requires.stamped on new around within c.other-item.is first c.loop-other.invariant)

pub loop-name-preserved : goal.loop-name-preserved
loop-name-preserved g c =
    let inside = g.M.Simplifiable.inside c.args.mesh.now in
    let w = g.M.Simplifiable.seen c.args.mesh.now in
    let most = to_z w128 (of_z w128 c.args.max) in
    let all = c.args.names.now in
    let near = c.deref-other-items.result.now in
    let i = c.loop-name.name-index in
    let x = c.name-item.result in
    let same = sym c.deref-other-items.ensures.value in
    let around : AreHeldAround inside w.mesh x near =
    subst (AreHeldAround inside w.mesh x) same c.in_ok-held_around.ensures.around in
    let whole : take c.loop-other.other-index near ≡ near =
    take_all c.loop-other.other-index near (omega (arith, c.loop-other-test.false)) in
    ring_done inside most w all near i x c.args.stamp c.args.queue.now c.loop-other.queue around c.loop-name-test.true
    c.name-item.is
    (subst (λ ns. IsFilled inside most w (up_to (take i all) x ns) c.args.stamp c.args.queue.now c.loop-other.queue)
    whole c.loop-other.invariant)
