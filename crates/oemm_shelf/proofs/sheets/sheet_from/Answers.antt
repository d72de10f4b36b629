use Rattle.std.proofs.Common.{sym, ◌∙◌}
use Rattle.oemm_shelf.proofs.Formed.{is_formed}
use Rattle.oemm_shelf.proofs.sheets.sheet_from.Goals as goal

pub returns-then-is_of_leaf-clause-formed : goal.returns-then-is_of_leaf-clause-formed
returns-then-is_of_leaf-clause-formed c =
    is_formed c.args.index.now c.args.leaf c.in-Ok.ensures.found.0 c.args.bytes.now c.in-Ok.sheet c.in-Ok.ensures.found.1
    (sym c.is_of_leaf.ensures ∙ c.if-is_of_leaf.true)

pub returns-then-is_of_leaf-clause-rules : goal.returns-then-is_of_leaf-clause-rules
returns-then-is_of_leaf-clause-rules c = c.in-Ok.ensures.found.1.rules
