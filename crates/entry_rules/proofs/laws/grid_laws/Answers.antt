use Rattle.entry_rules.proofs.Ready.{ready_play, ready_task, start_ready}
use Rattle.entry_rules.proofs.Tasks.{task_on}
use Rattle.entry_rules.proofs.laws.grid_laws.Goals as goal

pub returns-clause-begins : goal.returns-clause-begins
returns-clause-begins c = start_ready

pub returns-clause-task : goal.returns-clause-task
returns-clause-task c = ready_task

pub returns-clause-play : goal.returns-clause-play
returns-clause-play c = ready_play

pub returns-clause-read : goal.returns-clause-read
returns-clause-read c = task_on
