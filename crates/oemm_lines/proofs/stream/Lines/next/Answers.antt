use Rattle.std.proofs.Common.{Ok, ap, sym, ◌∙◌}
use Rattle.oemm_lines.proofs.StreamLaws.{says_next, size_next}
use Rattle.oemm_lines.proofs.stream.Lines.next.Goals as goal

pub returns-in-Ok-clause-says : goal.returns-in-Ok-clause-says
returns-in-Ok-clause-says g c =
    says_next g.S.Source.left c.args.self.now c.next_line.new.self (Ok c.in-Ok.line) (sym (ap (λ s. s.fault) c.self.view_is) ∙ c.in_default.is) c.in-Ok.ensures.same c.in-Ok.ensures.calm c.in-Ok.ensures.gives

pub returns-in-Ok-clause-size : goal.returns-in-Ok-clause-size
returns-in-Ok-clause-size g c = size_next g.S.Source.left c.args.self.now c.next_line.new.self c.in-Ok.line c.in-Ok.ensures.gives
