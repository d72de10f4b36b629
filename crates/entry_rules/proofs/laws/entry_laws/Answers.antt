use Rattle.entry_rules.proofs.Entries.{entry_keeps, play_keeps}
use Rattle.entry_rules.proofs.laws.entry_laws.Goals as goal

pub returns-clause-task : goal.returns-clause-task
returns-clause-task c = entry_keeps

pub returns-clause-play : goal.returns-clause-play
returns-clause-play c = play_keeps
