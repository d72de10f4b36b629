use Rattle.std.proofs.Common.{rules, sym}
use Rattle.half_edge.proofs.HeldKeys.{set_is}
use Rattle.half_edge.proofs.outs.set_out.Goals as goal

pub returns-in-Some-clause-at : goal.returns-in-Some-clause-at
returns-in-Some-clause-at c =
    set_is c.args.outs.now (c.get_mut.follows.lender c.args.k) c.args.v c.args.k c.in-Some.out.now
    (sym c.in-Some.ensures.value) ((c.get_mut.follows.holds c.args.k).3 (search rules)).0
