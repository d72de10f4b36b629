-- Where a run stands by what it gives, whatever its end.
use Rattle.std.proofs.Common.{◌≡◌, refl, inl, inr}
use Rattle.oemm_run.specs.declared.end.End.{End}
use Rattle.oemm_run.specs.declared.end.End.TheVariants.{Done, Usage, ReadMesh, ReadScript, MeshText, MeshShape, ScriptText, WriteOut, WriteReport, Limit, Memory}
use Rattle.oemm_run.specs.Commands.Run.{Asked, IsDone, RunGives, StopsAtMesh, StopsAtShape, StopsAtScript, StopsAtTasks, StopsAtOut, StopsAtReport}
use Rattle.oemm_run.specs.Outside.{Outside}

-- a run is done, or stops at one of its phases
pub data Stands (asked : Asked) (before after : Outside) (end : End) : Type 0 where
  all_done : end ≡ Done → IsDone asked before after → Stands asked before after end
  at_mesh : StopsAtMesh before after end → Stands asked before after end
  at_shape : StopsAtShape before after end → Stands asked before after end
  at_script : StopsAtScript before after end → Stands asked before after end
  at_tasks : StopsAtTasks before after end → Stands asked before after end
  at_out : StopsAtOut asked before after end → Stands asked before after end
  at_report : StopsAtReport asked before after end → Stands asked before after end

-- what a run gives says where it stands
pub stands : (asked : Asked) (before after : Outside) (end : End) → RunGives asked before after end → Stands asked before after end
stands asked before after Done gives = all_done refl gives
stands asked before after Usage gives = absurd gives
stands asked before after ReadMesh gives = at_mesh gives
stands asked before after (MeshText at why) gives = at_mesh gives
stands asked before after (MeshShape shape) gives = at_shape gives
stands asked before after ReadScript gives = at_script gives
stands asked before after (ScriptText line why) gives = at_script gives
stands asked before after (Limit what count) (inl gives) = at_mesh gives
stands asked before after (Limit what count) (inr gives) = at_script gives
stands asked before after WriteOut gives = at_out gives
stands asked before after WriteReport gives = at_report gives
stands asked before after Memory (inl gives) = at_mesh gives
stands asked before after Memory (inr (inl gives)) = at_shape gives
stands asked before after Memory (inr (inr (inl gives))) = at_script gives
stands asked before after Memory (inr (inr (inr (inl gives)))) = at_tasks gives
stands asked before after Memory (inr (inr (inr (inr gives)))) = at_out gives

-- a run that stops at a phase gives that
pub gives_at_mesh : (asked : Asked) (before after : Outside) (end : End) → StopsAtMesh before after end → RunGives asked before after end
gives_at_mesh asked before after ReadMesh stops = stops
gives_at_mesh asked before after (MeshText at why) stops = stops
gives_at_mesh asked before after (Limit what count) stops = inl stops
gives_at_mesh asked before after Memory stops = inl stops
gives_at_mesh asked before after _ stops = absurd stops.mesh.cause

pub gives_at_shape : (asked : Asked) (before after : Outside) (end : End) → StopsAtShape before after end → RunGives asked before after end
gives_at_shape asked before after (MeshShape shape) stops = stops
gives_at_shape asked before after Memory stops = inr (inl stops)
gives_at_shape asked before after _ stops = absurd stops.shape

pub gives_at_script : (asked : Asked) (before after : Outside) (end : End) → StopsAtScript before after end → RunGives asked before after end
gives_at_script asked before after ReadScript stops = stops
gives_at_script asked before after (ScriptText line why) stops = stops
gives_at_script asked before after (Limit what count) stops = inr stops
gives_at_script asked before after Memory stops = inr (inr (inl stops))
gives_at_script asked before after _ stops = absurd stops.script.cause

pub gives_at_out : (asked : Asked) (before after : Outside) (end : End) → StopsAtOut asked before after end → RunGives asked before after end
gives_at_out asked before after WriteOut stops = stops
gives_at_out asked before after Memory stops = inr (inr (inr (inr stops)))
gives_at_out asked before after _ stops = absurd stops.out
