use Rattle.work_topology.proofs.Frame.{work_frame}
use Rattle.work_topology.proofs.laws.frame_laws.Goals as goal

pub returns : goal.returns
returns c = work_frame
