use Rattle.plane_counts.proofs.Grid.{start_planed}
use Rattle.plane_counts.proofs.Planed.{planed_play, planed_task, planed_work}
use Rattle.plane_counts.proofs.laws.plane_laws.Goals as goal

pub returns-clause-begins : goal.returns-clause-begins
returns-clause-begins c = start_planed

pub returns-clause-work : goal.returns-clause-work
returns-clause-work c = λ inside m edits. planed_work inside edits m

pub returns-clause-task : goal.returns-clause-task
returns-clause-task c = planed_task

pub returns-clause-play : goal.returns-clause-play
returns-clause-play c = λ cells limit m tasks. planed_play cells limit tasks m
