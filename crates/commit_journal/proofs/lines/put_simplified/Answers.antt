use Rattle.std.proofs.Common.{map}
use Rattle.commit_journal.specs.Text.{step_line}
use Rattle.commit_journal.proofs.Indented.{written_last}
use Rattle.commit_journal.proofs.lines.put_simplified.Goals as goal

pub returns : goal.returns
returns c = written_last _ _ _ _ (map step_line c.args.steps.now) _ c.in_ok-put_steps.ensures c.write.ensures.bytes
