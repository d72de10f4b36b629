use Rattle.std.proofs.Common.{◌≡◌, ◌++◌, drop, length}
use Rattle.mesh_data.specs.Work.{play}
use Rattle.oemm_run.specs.Commands.Run.{one_leaf}
use Rattle.oemm_run.proofs.phases.tasks.play_tasks.Given as goal

abbrev pub invariant-loop-task : goal.invariant-loop-task
invariant-loop-task l = record {
  journal : l.journal.items ++ (play one_leaf l.limit l.mesh (drop l.task-index l.tasks)).journal ≡ (play one_leaf l.limit l.initial.mesh l.tasks).journal;
  mesh : (play one_leaf l.limit l.mesh (drop l.task-index l.tasks)).mesh ≡ (play one_leaf l.limit l.initial.mesh l.tasks).mesh;
  len : length l.journal.items ≡ l.task-index;
}
