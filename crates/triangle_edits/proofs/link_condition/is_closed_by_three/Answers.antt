use Rattle.std.proofs.Common.{◌∙◌}
use Rattle.triangle_edits.proofs.ThreeRings.{three_found, three_missed}
use Rattle.triangle_edits.proofs.link_condition.is_closed_by_three.Goals as goal

pub returns-in-Some : goal.returns-in-Some
returns-in-Some c =
    c.is_closed_of_three.ensures ∙ three_found c.args.tris.now c.args.v c.as_slice.result.now c.in_ok-ring.field-0 c.in-Some.ring (c.as_slice.ensures.value ∙ c.in_ok-link.ensures) c.in_ok-ring.ensures.ring c.in-Some.is

pub returns : goal.returns
returns c =
    three_missed c.args.tris.now c.args.v c.as_slice.result.now c.in_ok-ring.field-0 (c.as_slice.ensures.value ∙ c.in_ok-link.ensures) c.in_ok-ring.ensures.none c.in-None.is
