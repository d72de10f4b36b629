use Rattle.std.proofs.Common.{◌∙◌, sym}
use Rattle.link_test.proofs.Verdicts.{violation_is, threes_are}
use Rattle.link_test.proofs.link.verdict.Goals as goal

pub returns-in-Some : goal.returns-in-Some
returns-in-Some c ts are = violation_is ts c.args.ring_u.now c.args.ring_v.now c.args.closed_v c.args.u c.args.v are c.name_after-ahead.result c.name_before-behind.result c.link_violation.result c.name_after-ahead.ensures.found c.name_after-ahead.ensures.none c.name_before-behind.ensures.found c.name_before-behind.ensures.none c.link_violation.ensures ∙ c.in-Some.is

pub returns-then-are_closed_by_three : goal.returns-then-are_closed_by_three
returns-then-are_closed_by_three c ts are = (
  violation_is ts c.args.ring_u.now c.args.ring_v.now c.args.closed_v c.args.u c.args.v are c.name_after-ahead.result c.name_before-behind.result c.link_violation.result c.name_after-ahead.ensures.found c.name_after-ahead.ensures.none c.name_before-behind.ensures.found c.name_before-behind.ensures.none c.link_violation.ensures ∙ c.in_default.is,
  sym (threes_are ts c.args.ring_u.now c.args.ring_v.now c.args.closed_v c.args.u c.args.v are) ∙ sym c.are_closed_by_three.ensures ∙ c.if-are_closed_by_three.true,
)

pub returns-else-are_closed_by_three : goal.returns-else-are_closed_by_three
returns-else-are_closed_by_three c ts are = (
  violation_is ts c.args.ring_u.now c.args.ring_v.now c.args.closed_v c.args.u c.args.v are c.name_after-ahead.result c.name_before-behind.result c.link_violation.result c.name_after-ahead.ensures.found c.name_after-ahead.ensures.none c.name_before-behind.ensures.found c.name_before-behind.ensures.none c.link_violation.ensures ∙ c.in_default.is,
  sym (threes_are ts c.args.ring_u.now c.args.ring_v.now c.args.closed_v c.args.u c.args.v are) ∙ sym c.are_closed_by_three.ensures ∙ c.if-are_closed_by_three.false,
)
