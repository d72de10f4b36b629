use Rattle.std.proofs.Common.{sym, ◌∙◌}
use Rattle.mesh_data.specs.Links.{apex}
use Rattle.triangle_edits.proofs.Apexes.{apex_more, apex_here, apex_ended}
use Rattle.triangle_edits.proofs.lookups.apex.Goals as goal

pub returns-then-is_some : goal.returns-then-is_some
returns-then-is_some c =
    let ts = c.args.tris.now in
    apex_here ts c.loop-t.t-index c.args.a c.args.b c.t-item.result c.apex_in-third.result (apex ts c.args.a c.args.b) c.loop-t-test.true c.t-item.is c.apex_in-third.ensures (sym c.is_some.ensures ∙ c.if-is_some.true) c.loop-t.invariant

pub loop-t-preserved : goal.loop-t-preserved
loop-t-preserved c =
    let ts = c.args.tris.now in
    apex_more ts c.loop-t.t-index c.args.a c.args.b c.t-item.result c.apex_in-third.result (apex ts c.args.a c.args.b) c.loop-t-test.true c.t-item.is c.apex_in-third.ensures (sym c.is_some.ensures ∙ c.if-is_some.false) c.loop-t.invariant

pub returns : goal.returns
returns c =
    let ts = c.args.tris.now in
    apex_ended ts c.loop-t.t-index c.args.a c.args.b (apex ts c.args.a c.args.b) c.loop-t-test.false c.loop-t.invariant
