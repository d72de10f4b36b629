use Rattle.std.proofs.Common.{ap, ◌∙◌}
use Rattle.std.specs.Result.{result_ok}
use Rattle.store_spelling.specs.Spelled.{store_spelling}
use Rattle.oemm_shelf.specs.Opened.{is_next}
use Rattle.oemm_shelf.proofs.Entering.{next_is}
use Rattle.oemm_shelf.proofs.Indexes.{passes, fails}
use Rattle.oemm_shelf.proofs.entries.entry_from.Goals as goal

pub returns-then-is_next-clause-is : goal.returns-then-is_next-clause-is
returns-then-is_next-clause-is c =
    passes (is_next c.args.index.now c.args.before.now) (store_spelling.entry c.args.bytes.now) c.in-Ok.n
    (ap result_ok c.in-Ok.ensures.exact)
    (next_is c.args.index.now c.args.before.now c.in-Ok.n c.args.lanes.now c.len.result c.is_next.result c.requires
    c.in-Ok.ensures.kept.lane c.len.ensures c.is_next.ensures ∙ c.if-is_next.true)

pub returns-else-is_next-clause-is : goal.returns-else-is_next-clause-is
returns-else-is_next-clause-is c =
    fails (is_next c.args.index.now c.args.before.now) (store_spelling.entry c.args.bytes.now) c.in-Ok.n
    (ap result_ok c.in-Ok.ensures.exact)
    (next_is c.args.index.now c.args.before.now c.in-Ok.n c.args.lanes.now c.len.result c.is_next.result c.requires
    c.in-Ok.ensures.kept.lane c.len.ensures c.is_next.ensures ∙ c.if-is_next.false)
