use Rattle.std.proofs.Common.{rules, arith}
use Rattle.std.proofs.lemmas.List.Elements.{AllWithin-more, at_read}
use Rattle.mesh_data.specs.Triangles.{IsProper, IsBelow}
use Rattle.write_back.proofs.tests.are_faces.Goals as goal

pub loop-t-preserved : goal.loop-t-preserved
loop-t-preserved c =
    let ts = c.args.faces.now in
    let i = c.loop-t.t-index in
    let t = c.t-item.result in
    let before = c.loop-t.invariant in
    record {
      proper = AllWithin-more IsProper ts 0 i before.proper (at_read ts IsProper i t c.loop-t-test.true c.t-item.is (c.if-not-is_face.ensures.proper (search rules)));
      below = AllWithin-more (IsBelow c.args.points) ts 0 i before.below (at_read ts (IsBelow c.args.points) i t c.loop-t-test.true c.t-item.is (c.if-not-is_face.ensures.below (search rules)));
    }

pub returns-clause-proper : goal.returns-clause-proper
returns-clause-proper c = λ _ k d lt. c.loop-t.invariant.proper k d (omega arith) (omega arith)

pub returns-clause-below : goal.returns-clause-below
returns-clause-below c = λ _ k d lt. c.loop-t.invariant.below k d (omega arith) (omega arith)
