use Rattle.std.proofs.Common.{sym, ap, ◌∙◌}
use Rattle.oemm_lines.specs.Lines.{without_return}
use Rattle.oemm_lines.proofs.LineLaws.{without_return-cut, without_return-kept}
use Rattle.oemm_lines.proofs.lines.without_carriage_return.Goals as goal

pub returns-then-last-eq13-clause-text : goal.returns-then-last-eq13-clause-text
returns-then-last-eq13-clause-text c =
    without_return-cut _ _ c.if-last-eq13.true ∙ ap without_return (sym c.in-Some.ensures.cases.0)

pub returns-else-last-eq13-clause-text : goal.returns-else-last-eq13-clause-text
returns-else-last-eq13-clause-text c =
    c.in-Some.ensures.cases.0 ∙ without_return-kept _ _ c.if-last-eq13.false
    ∙ ap without_return (sym c.in-Some.ensures.cases.0)
