use Rattle.std.proofs.Common.{arith}
use Rattle.std.proofs.lemmas.Grind.{common_steps}
use Rattle.mesh_soup.proofs.Readings.{faces_next}
use Rattle.mesh_soup.proofs.Takings.{taken_more}
use Rattle.mesh_soup.proofs.soup.next_faces.Goals as goal

pub returns-in_err-face-clause-taken : goal.returns-in_err-face-clause-taken
returns-in_err-face-clause-taken g c = taken_more _ _ _ c.loop-place.invariant.taken c.next.ensures.left

pub returns-in_err-push-in-Some-Face-clause-taken : goal.returns-in_err-push-in-Some-Face-clause-taken
returns-in_err-push-in-Some-Face-clause-taken g c = taken_more _ _ _ c.loop-place.invariant.taken c.next.ensures.left

pub loop-place-preserved : goal.loop-place-preserved
loop-place-preserved g c = record {
  given = grind (arith, common_steps);
  count = grind (arith, common_steps);
  told =
      faces_next _ _ _ _ _ _ _ _ c.in-Some-Face.is c.in-Some-Face.field-0-is c.loop-place.invariant.told c.in_ok-face.ensures.told
      c.in_ok-push-in-Some-Face.ensures.items;
  proper = grind (arith, common_steps);
  below = grind (arith, common_steps);
  taken = taken_more _ _ _ c.loop-place.invariant.taken c.next.ensures.left;
  calm = grind (arith, common_steps);
}
