use Rattle.std.proofs.Common.{◌++◌, take}
use Rattle.fault_counts.proofs.InRow.{takes_more}
use Rattle.oemm_io.proofs.whole.take_blocks.Goals as goal

pub returns-then-count-limit-clause-some : goal.returns-then-count-limit-clause-some
returns-then-count-limit-clause-some g c = (
  c.loop-block.bytes.items ++ take c.in_ok-count.count c.take.new.buf,
  takes_more _ _ _ _ _ c.loop-block.invariant.left c.in_ok-count.ensures.bytes,
)

pub returns-in_err-extend_from_slice-clause-some :
    goal.returns-in_err-extend_from_slice-clause-some
returns-in_err-extend_from_slice-clause-some g c = (
  c.loop-block.bytes.items ++ take c.in_ok-count.count c.take.new.buf,
  takes_more _ _ _ _ _ c.loop-block.invariant.left c.in_ok-count.ensures.bytes,
)
