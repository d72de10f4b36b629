use Rattle.oemm_lines.proofs.StreamLaws.{size_raw}
use Rattle.oemm_lines.proofs.stream.Lines.raw.Goals as goal

pub returns-in-Ok-clause-size : goal.returns-in-Ok-clause-size
returns-in-Ok-clause-size g c = size_raw g.S.Source.left c.args.self.now c.fill.new.self _ c.in-Ok.count c.in-Ok.ensures.gives
