use Rattle.std.proofs.Common.{arith}
use Rattle.std.proofs.lemmas.Grind.{common_steps}
use Rattle.mesh_soup.proofs.Readings.{points_next}
use Rattle.mesh_soup.proofs.Takings.{taken_more}
use Rattle.mesh_soup.proofs.soup.next_points.Goals as goal

pub returns-in_err-point-clause-taken : goal.returns-in_err-point-clause-taken
returns-in_err-point-clause-taken g c = taken_more _ _ _ c.loop-place.invariant.taken c.next.ensures.left

pub returns-in_err-push-in-Some-Vertex-clause-taken : goal.returns-in_err-push-in-Some-Vertex-clause-taken
returns-in_err-push-in-Some-Vertex-clause-taken g c = taken_more _ _ _ c.loop-place.invariant.taken c.next.ensures.left

pub loop-place-preserved : goal.loop-place-preserved
loop-place-preserved g c = record {
  given = grind (arith, common_steps);
  count = grind (arith, common_steps);
  told =
      points_next _ _ _ _ _ _ _ _ c.in-Some-Vertex.is c.in-Some-Vertex.field-0-is c.loop-place.invariant.told c.in_ok-point.ensures.told
      c.in_ok-push-in-Some-Vertex.ensures.items;
  taken = taken_more _ _ _ c.loop-place.invariant.taken c.next.ensures.left;
  calm = grind (arith, common_steps);
}
