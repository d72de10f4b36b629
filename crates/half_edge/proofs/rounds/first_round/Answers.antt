use Rattle.std.proofs.Common.{◌∙◌, sym, ap, Some, arith}
use Rattle.half_edge.proofs.Walks.{walk_start, walk_more, walk_home, walk_first, walk_round}
use Rattle.half_edge.proofs.rounds.first_round.Goals as goal

pub loop-i-init : goal.loop-i-init
loop-i-init c = (
  c.requires.sound,
  walk_start c.args.halves.now.slots c.args.v c.requires.sound c.args.home c.requires c.len-i-end.result,
)

pub returns-in_default : goal.returns-in_default
returns-in_default c =
    let walk = c.loop-i.invariant in
    walk_first c.args.halves.now.slots c.args.v walk.0 c.args.home c.requires c.loop-i.k c.loop-i._i c.len-i-end.result
    walk.1 (sym c.back_key.ensures ∙ c.in_default.is)

pub returns-then-before-home : goal.returns-then-before-home
returns-then-before-home c =
    let walk = c.loop-i.invariant in
    walk_home c.args.halves.now.slots c.args.v walk.0 c.args.home c.requires c.loop-i.k c.loop-i._i c.len-i-end.result
    walk.1 (sym c.back_key.ensures ∙ c.in-Some.is ∙ ap (λ n. Some n) c.if-before-home.true)

pub loop-i-preserved : goal.loop-i-preserved
loop-i-preserved c =
    let walk = c.loop-i.invariant in (
      walk.0,
      walk_more c.args.halves.now.slots c.args.v walk.0 c.args.home c.requires c.loop-i.k c.loop-i._i
          c.len-i-end.result walk.1 c.in-Some.before (sym c.back_key.ensures ∙ c.in-Some.is),
    )

pub returns : goal.returns
returns c =
    let walk = c.loop-i.invariant in
    walk_round c.args.halves.now.slots c.args.v walk.0 c.args.home c.requires c.loop-i.k c.loop-i._i c.len-i-end.result
    walk.1 c.len-i-end.ensures (omega arith)
