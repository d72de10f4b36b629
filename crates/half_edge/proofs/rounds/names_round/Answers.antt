use Rattle.std.proofs.Common.{◌∙◌, sym, arith}
use Rattle.half_edge.proofs.Along.{loop_start, loop_more, loop_home, loop_last, along_over, loop_ring}
use Rattle.half_edge.proofs.rounds.names_round.Goals as goal

pub loop-i-init : goal.loop-i-init
loop-i-init c = loop_start c.args.halves.now.slots c.args.v c.requires.sound c.args.first c.second_name-home.result
    c.args.closed c.new-names.result.items c.len-i-end.result c.second_name-home.ensures c.new-names.ensures.items
    c.requires.begins

pub returns-in_default : goal.returns-in_default
returns-in_default c =
    loop_ring c.args.halves.now.slots c.args.v c.requires.sound c.args.first c.second_name-home.result c.args.closed
    c.push.new.self.items c.len-i-end.result c.second_name-home.ensures c.len-i-end.ensures c.requires.begins
    (loop_last c.args.halves.now.slots c.args.v c.requires.sound c.second_name-home.result c.loop-i.name c.loop-i.key
    c.loop-i.names.items c.loop-i._i c.len-i-end.result c.loop-i.invariant c.push.new.self.items
    c.in_ok-push.ensures.ok c.loop-i-test.true c.in_default.is)

pub returns-then-eq : goal.returns-then-eq
returns-then-eq c =
    loop_ring c.args.halves.now.slots c.args.v c.requires.sound c.args.first c.second_name-home.result c.args.closed
    c.push.new.self.items c.len-i-end.result c.second_name-home.ensures c.len-i-end.ensures c.requires.begins
    (loop_home c.args.halves.now.slots c.args.v c.requires.sound c.second_name-home.result c.loop-i.name c.loop-i.key
    c.loop-i.names.items c.loop-i._i c.len-i-end.result c.loop-i.invariant c.push.new.self.items
    c.in_ok-push.ensures.ok c.loop-i-test.true c.in-Some.k c.third_name-next.result c.in-Some.is
    c.third_name-next.ensures (sym c.eq.ensures ∙ c.if-eq.true))

pub loop-i-preserved : goal.loop-i-preserved
loop-i-preserved c =
    loop_more c.args.halves.now.slots c.args.v c.requires.sound c.second_name-home.result c.loop-i.name c.loop-i.key
    c.loop-i.names.items c.loop-i._i c.len-i-end.result c.loop-i.invariant c.push.new.self.items
    c.in_ok-push.ensures.ok c.loop-i-test.true c.in-Some.k c.third_name-next.result c.around_key-key.result
    c.in-Some.is c.third_name-next.ensures c.around_key-key.ensures (sym c.eq.ensures ∙ c.if-eq.false)

pub returns : goal.returns
returns c =
    loop_ring c.args.halves.now.slots c.args.v c.requires.sound c.args.first c.second_name-home.result c.args.closed
    c.loop-i.names.items c.len-i-end.result c.second_name-home.ensures c.len-i-end.ensures c.requires.begins
    (along_over c.args.halves.now.slots c.args.v c.requires.sound c.second_name-home.result c.loop-i.name c.loop-i.key
    c.loop-i.names.items c.loop-i._i c.len-i-end.result c.loop-i.invariant (omega arith))
