use Rattle.std.proofs.Common.{sym}
use Rattle.oemm_desk.proofs.Lanes.{count_more}
use Rattle.oemm_desk.proofs.counting.count_lanes.Goals as goal

pub loop-entry-preserved : goal.loop-entry-preserved
loop-entry-preserved c = record {
  counted = count_more c.loop-entry.lanes.items c.count_task.new.lanes.items c.args.entries.now c.loop-entry.entry-index
      c.entry-item.result c.loop-entry-test.true (sym c.entry-item.is) c.loop-entry.invariant.counted
      c.count_task.ensures.lanes c.count_task.ensures.one c.count_task.ensures.others;
}
