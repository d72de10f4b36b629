use Rattle.std.proofs.Common.{◌≡◌, ◌++◌, ◌∷◌, [], ◌+◌, eqb, take, sym, ◌∙◌, subst}
use Rattle.queued_simplify.specs.Turns.{IsAround, chosen}
use Rattle.queued_simplify.proofs.Arounds.{around_more}
use Rattle.queued_simplify.proofs.Fills.{at_place}
use Rattle.queued_simplify.proofs.around.gather.Goals as goal

pub held_around-requires : goal.held_around-requires
held_around-requires g c =
    let y = c.name-item.result in
    c.requires y (at_place c.args.ring.now c.loop-name.name-index y c.loop-name-test.true c.name-item.is)

pub loop-name-preserved : goal.loop-name-preserved
loop-name-preserved g c =
    let w = g.M.Simplifiable.seen c.args.mesh.now in
    let inside = g.M.Simplifiable.inside c.args.mesh.now in
    let ring = c.args.ring.now in
    let y = c.name-item.result in
    let v = c.args.v in
    let marks = c.args.refused.now in
    let all : c.eq.result ≡ eqb y v = c.eq.ensures in
    let grown : c.push_chosen.new.names.items
    ≡ (c.loop-name.names.items ++ y ∷ []) ++ chosen (eqb y v) marks c.held_around.new.names.items =
    c.in_ok-push_chosen.ensures ∙ (λ i. c.in_ok-push.ensures.items i ++ chosen (all i) marks (c.deref.ensures.value i))
    in
    let held = c.requires y (at_place ring c.loop-name.name-index y c.loop-name-test.true c.name-item.is) in
    subst (IsAround inside w.mesh v (take (c.loop-name.name-index + 1) ring) marks) (sym grown)
    (around_more inside w.mesh v ring marks c.held_around.new.names.items c.loop-name.names.items c.loop-name.name-index
    y
    c.loop-name-test.true c.name-item.is held c.in_ok-held_around.ensures.around c.loop-name.invariant)
