use Rattle.oemm_shelf.proofs.Entering.{next_told}
use Rattle.oemm_shelf.proofs.entries.read_entry.Goals as goal

pub returns-clause-next : goal.returns-clause-next
returns-clause-next g c =
    next_told c.args.index.now c.args.before.now c.slice.result.now c.in_ok-n.n c.in_ok-found.found _ _
    c.in_ok-found.ensures.is c.in_ok-found.ensures.lane c.in_ok-n.ensures
