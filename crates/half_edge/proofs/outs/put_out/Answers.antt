use Rattle.half_edge.proofs.HeldKeys.{put_is}
use Rattle.half_edge.proofs.outs.put_out.Goals as goal

pub returns : goal.returns
returns c = put_is c.args.outs.now c.insert.new.self c.args.v c.args.k c.in_ok-insert.ensures.updates.0
