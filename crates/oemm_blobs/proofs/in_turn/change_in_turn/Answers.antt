use Rattle.std.proofs.Common.{◌∙◌, arith, rules}
use Rattle.oemm_blobs.proofs.InTurn.{turn_next, turn_stops}
use Rattle.oemm_blobs.proofs.in_turn.change_in_turn.Goals as goal

pub returns-in_err-make_change-clause-turn : goal.returns-in_err-make_change-clause-turn
returns-in_err-make_change-clause-turn g c =
    turn_stops c.args.changes.now c.loop-change.change-index c.change-item.result c.change-item.is
    c.loop-change-test.true _ _ _ _ _ _ c.from_residual.ensures.0
    c.loop-change.invariant.turn c.in_err-make_change.ensures.changes

pub loop-change-preserved : goal.loop-change-preserved
loop-change-preserved g c = record {
  turn = turn_next c.args.changes.now c.loop-change.change-index c.change-item.result c.change-item.is
      c.loop-change-test.true _ _ _ _ _
      c.loop-change.invariant.turn c.in_ok-make_change.ensures.changes;
  gets = c.in_ok-make_change.ensures.gets ∙ c.loop-change.invariant.gets;
  kept_puts = omega (arith, c.in_ok-make_change.ensures.kept_puts, c.loop-change.invariant.kept_puts);
  puts = omega (arith, c.in_ok-make_change.ensures.puts, c.loop-change.invariant.puts);
  faults = search (rules, c.in_ok-make_change.ensures.cause, c.loop-change.invariant.faults);
}
