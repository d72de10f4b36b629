use Rattle.std.proofs.Common.{◌∙◌, sym, arith}
use Rattle.std.proofs.lemmas.Bool.{eq-eqb, ne_eqb}
use Rattle.half_edge.proofs.Putting.{round_start, there_first, there_second, there_third, goes_on, put_all, round_more}
use Rattle.half_edge.proofs.Putting.{round_fits}
use Rattle.half_edge.proofs.surgery.put_round.Goals as goal

pub loop-i-init : goal.loop-i-init
loop-i-init c = round_start c.args.halves.now.slots c.args.home c.args.u c.args.v c.len-i-end.result c.len-i-end.ensures
    c.requires.round

pub put_face-requires-clause-first : goal.put_face-requires-clause-first
put_face-requires-clause-first c =
    there_first c.args.halves.now.slots c.loop-i.halves.slots c.args.home c.args.u c.args.v c.loop-i.k c.loop-i._i
    c.len-i-end.result c.loop-i.invariant

pub put_face-requires-clause-second : goal.put_face-requires-clause-second
put_face-requires-clause-second c =
    there_second c.args.halves.now.slots c.loop-i.halves.slots c.args.home c.args.u c.args.v c.loop-i.k c.loop-i._i
    c.len-i-end.result c.loop-i.invariant c.requires.sound

pub put_face-requires-clause-third : goal.put_face-requires-clause-third
put_face-requires-clause-third c =
    there_third c.args.halves.now.slots c.loop-i.halves.slots c.args.home c.args.u c.args.v c.loop-i.k c.loop-i._i
    c.len-i-end.result c.loop-i.invariant c.requires.sound

pub returns-in_default : goal.returns-in_default
returns-in_default c =
    absurd (goes_on c.args.halves.now.slots c.loop-i.halves.slots c.args.home c.args.u c.args.v c.loop-i.k c.loop-i._i
    c.len-i-end.result c.loop-i.invariant (sym c.put_face.ensures.next ∙ c.in_default.is))

pub returns-then-next-home : goal.returns-then-next-home
returns-then-next-home c =
    put_all c.args.halves.now.slots c.loop-i.halves.slots c.args.home c.args.u c.args.v c.loop-i.k c.loop-i._i
    c.len-i-end.result c.loop-i.invariant c.put_face.new.halves.slots c.requires.differ c.put_face.ensures.put
    c.in-Some.next (sym c.put_face.ensures.next ∙ c.in-Some.is)
    (eq-eqb c.in-Some.next c.args.home c.if-next-home.true)

pub loop-i-preserved : goal.loop-i-preserved
loop-i-preserved c =
    round_more c.args.halves.now.slots c.loop-i.halves.slots c.args.home c.args.u c.args.v c.loop-i.k c.loop-i._i
    c.len-i-end.result c.loop-i.invariant c.put_face.new.halves.slots c.requires.differ c.put_face.ensures.put
    c.in-Some.next (sym c.put_face.ensures.next ∙ c.in-Some.is)
    (ne_eqb c.in-Some.next c.args.home c.if-next-home.false)

pub returns : goal.returns
returns c = absurd (let fits =
    round_fits c.args.halves.now.slots c.loop-i.halves.slots c.args.home c.args.u c.args.v c.loop-i.k c.loop-i._i
    c.len-i-end.result c.loop-i.invariant in omega arith)
