use Rattle.std.proofs.lemmas.Result.{err_from_is_err_and}
use Rattle.byte_grammar.proofs.Many.{many_more, many_stops, many_all}
use Rattle.byte_grammar.proofs.unit.units_at.Goals as goal

pub returns-in_err-item : goal.returns-in_err-item
returns-in_err-item g c =
    let read = g.U.Units.reading c.args.units.now in
    let p = err_from_is_err_and c.from_residual-in_err-item.result c.from_residual-in_err-item.ensures.1 in
    let stopped = rw c.as_slice.ensures.value at c.in_err-item.ensures in
    rw (p.1, p.2)
    (many_stops c.in_err-item.field-0.0 read c.args.count c.loop.counter c.loop.items.items c.loop.rest.now _
    c.loop-test.true stopped c.loop.invariant)

pub loop-preserved : goal.loop-preserved
loop-preserved g c =
    let read = g.U.Units.reading c.args.units.now in
    let x = c.in_ok-item.item in
    let found = rw c.as_slice.ensures.value at c.in_ok-item.ensures in
    rw c.in_ok-push.ensures.items
    (many_more read c.args.count c.loop.counter c.loop.items.items c.loop.rest.now x c.in_ok-item.after.now _
    c.loop-test.true found c.loop.invariant)

pub returns : goal.returns
returns g c =
    let read = g.U.Units.reading c.args.units.now in
    many_all read c.args.count c.loop.counter c.loop.items.items c.loop.rest.now _ c.loop-test.false c.loop.invariant
