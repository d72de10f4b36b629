use Rattle.std.proofs.Common.{◌∙◌, sym, arith}
use Rattle.half_edge.proofs.Seeks.{seek_start, seek_over, seek_last, seek_home, seek_more}
use Rattle.half_edge.proofs.edges.seek_edge.Goals as goal

pub loop-i-init : goal.loop-i-init
loop-i-init c = seek_start c.args.halves.now.slots c.args.u c.args.v c.requires.sound c.args.first
    c.second_name-home.result c.len-i-end.result c.second_name-home.ensures c.len-i-end.ensures c.requires.begins

pub returns-in_default-clause-none : goal.returns-in_default-clause-none
returns-in_default-clause-none c =
    seek_last c.args.halves.now.slots c.args.u c.args.v c.requires.sound c.args.first c.second_name-home.result
    c.len-i-end.result c.second_name-home.ensures c.len-i-end.ensures c.requires.begins c.loop-i.key c.loop-i._i
    c.loop-i.invariant c.in_default.is c.loop-i-test.true

pub returns-then-eq-clause-none : goal.returns-then-eq-clause-none
returns-then-eq-clause-none c =
    seek_home c.args.halves.now.slots c.args.u c.args.v c.requires.sound c.args.first c.second_name-home.result
    c.len-i-end.result c.second_name-home.ensures c.len-i-end.ensures c.requires.begins c.loop-i.key c.loop-i._i
    c.loop-i.invariant c.in-Some.k c.in-Some.is c.loop-i-test.true
    (c.goes.ensures.no c.if-goes.false) c.third_name-next.result c.third_name-next.ensures
    (sym c.eq.ensures ∙ c.if-eq.true)

pub loop-i-preserved : goal.loop-i-preserved
loop-i-preserved c =
    seek_more c.args.halves.now.slots c.args.u c.args.v c.requires.sound c.args.first c.second_name-home.result
    c.len-i-end.result c.second_name-home.ensures c.len-i-end.ensures c.requires.begins c.loop-i.key c.loop-i._i
    c.loop-i.invariant c.in-Some.k c.in-Some.is c.loop-i-test.true
    (c.goes.ensures.no c.if-goes.false) c.third_name-next.result c.around_key-key.result c.third_name-next.ensures
    c.around_key-key.ensures (sym c.eq.ensures ∙ c.if-eq.false)

pub returns-clause-none : goal.returns-clause-none
returns-clause-none c =
    seek_over c.args.halves.now.slots c.args.u c.args.v c.requires.sound c.args.first c.second_name-home.result
    c.len-i-end.result c.second_name-home.ensures c.len-i-end.ensures c.requires.begins c.loop-i.key c.loop-i._i
    c.loop-i.invariant (omega arith)
