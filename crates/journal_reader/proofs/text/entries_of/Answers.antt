use Rattle.journal_reader.proofs.Answering.{answers}
use Rattle.journal_reader.proofs.text.entries_of.Goals as goal

pub returns : goal.returns
returns c = answers c.args.text.now (λ i. (c.type_inv.text i).fits) c.read.result c.read.ensures
