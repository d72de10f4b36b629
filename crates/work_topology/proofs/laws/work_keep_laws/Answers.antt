use Rattle.work_topology.proofs.WorkKeeps.{each_keeps, play_keeps, task_keeps, work_keeps}
use Rattle.work_topology.proofs.laws.work_keep_laws.Goals as goal

pub returns-clause-work : goal.returns-clause-work
returns-clause-work c = work_keeps

pub returns-clause-task : goal.returns-clause-task
returns-clause-task c = task_keeps

pub returns-clause-each : goal.returns-clause-each
returns-clause-each c = each_keeps

pub returns-clause-play : goal.returns-clause-play
returns-clause-play c = play_keeps
