use Rattle.oemm_make.proofs.Walks.{whole_left}
use Rattle.oemm_make.proofs.sample.Sample.new.Goals as goal

pub returns-clause-reading : goal.returns-clause-reading
returns-clause-reading c = whole_left c.args.side c.args.seed
