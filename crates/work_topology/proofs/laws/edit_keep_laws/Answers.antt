use Rattle.work_topology.proofs.WorkKeeps.{edit_keeps, move_keeps}
use Rattle.work_topology.proofs.laws.edit_keep_laws.Goals as goal

pub returns-clause-moves : goal.returns-clause-moves
returns-clause-moves c = move_keeps

pub returns-clause-edit : goal.returns-clause-edit
returns-clause-edit c = edit_keeps
