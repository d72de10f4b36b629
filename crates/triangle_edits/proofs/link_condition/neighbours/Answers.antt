use Rattle.triangle_edits.proofs.Neighbours.{neighbours_more}
use Rattle.triangle_edits.proofs.link_condition.neighbours.Goals as goal

pub loop-t-preserved : goal.loop-t-preserved
loop-t-preserved c =
    neighbours_more c.args.v c.args.tris.now c.loop-t.t-index c.t-item.result c.loop-t.names.items c.push_neighbours.new.names.items c.loop-t-test.true c.t-item.is c.loop-t.invariant c.in_ok-push_neighbours.ensures
