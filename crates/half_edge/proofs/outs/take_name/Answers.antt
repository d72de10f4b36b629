use Rattle.half_edge.proofs.HeldKeys.{taken_is}
use Rattle.half_edge.proofs.outs.take_name.Goals as goal

pub returns : goal.returns
returns c = record { at = taken_is c.args.outs.now c.remove.new.self c.args.v c.remove.ensures.updates.0 }
