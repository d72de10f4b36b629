use Rattle.std.proofs.Common.{◌∙◌, sym}
use Rattle.ply_header.proofs.HeaderLaws.{foreign_ends}
use Rattle.ply_header.proofs.elements.finished.Goals as goal

pub returns-in-Foreign-clause-same : goal.returns-in-Foreign-clause-same
returns-in-Foreign-clause-same c = λ at.
    foreign_ends at c.in-Some.element c.args.header c.take.new.self (sym c.take.ensures.value ∙ c.in-Some.is) c.in-Foreign.is c.take.ensures.after
