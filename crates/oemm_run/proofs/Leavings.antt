-- What a command leaves of its objects, whatever its end.
use Rattle.std.proofs.Common.{◌≡◌, ℕ, List, [], Option, Some, None, ap, sym, subst, refl, inl, inr}
use Rattle.std.specs.Bool.{⊤}
use Rattle.fault_counts.specs.Told.{Told, TakesSome}
use Rattle.fault_counts.proofs.InRow.{takes_some_none}
use Rattle.oemm_run.specs.declared.end.End.{End}
use Rattle.oemm_run.specs.declared.end.End.TheVariants.{Done, Usage, ReadMesh, ReadScript, MeshText, MeshShape, ScriptText, WriteOut, WriteReport, Limit, Memory}
use Rattle.oemm_words.specs.declared.orders.Order.{Order}
use Rattle.oemm_words.specs.declared.orders.Order.TheVariants.{Run}
use Rattle.oemm_run.specs.Commands.Run.{Asked, RunGives}
use Rattle.oemm_run.specs.Gives.{Refuses, GivesOrder, Gives}
use Rattle.oemm_run.specs.Laws.Leaves.{TakesFronts, MindsScript, LeavesSinks}
use Rattle.oemm_run.specs.Outside.{Outside, Input, IsUnwritten}
use Rattle.oemm_words.specs.Words.{order_of}
use Rattle.oemm_run.proofs.Stands.{Stands, all_done, at_mesh, at_shape, at_script, at_tasks, at_out, at_report, stands}

-- a refusal leaves all as it was
refused_same : (before after : Outside) (end : End) → Refuses before after end → after ≡ before
refused_same before after Usage same = same
refused_same before after Memory same = same
refused_same before after _ same = absurd same

-- a source that is as it was has lost no byte
takes_nothing : (before after : Input) → after ≡ before → TakesSome before.left after.left
takes_nothing before after same =
    subst (λ (x : Input). TakesSome before.left x.left) (sym same) (takes_some_none before.left)

run_fronts : (asked : Asked) (before after : Outside) (end : End) → Stands asked before after end → TakesFronts before after
run_fronts asked before after end (all_done e h) = let tasks = h.earlier.earlier.earlier in record { mesh = tasks.earlier.mesh.taken; script = tasks.script.taken }
run_fronts asked before after end (at_mesh h) = record { mesh = h.mesh.taken; script = takes_nothing before.script after.script h.script }
run_fronts asked before after end (at_shape h) = record { mesh = h.mesh.taken; script = takes_nothing before.script after.script h.script }
run_fronts asked before after end (at_script h) = record { mesh = h.earlier.mesh.taken; script = h.script.taken }
run_fronts asked before after end (at_tasks h) = record { mesh = h.earlier.earlier.mesh.taken; script = h.earlier.script.taken }
run_fronts asked before after end (at_out h) = let tasks = h.earlier.earlier in record { mesh = tasks.earlier.mesh.taken; script = tasks.script.taken }
run_fronts asked before after end (at_report h) = let tasks = h.earlier.earlier.earlier in record { mesh = tasks.earlier.mesh.taken; script = tasks.script.taken }

fronts_of : (order : Option Order) (before after : Outside) (end : End) → GivesOrder order before after end → TakesFronts before after
fronts_of None before after end gives =
    let same = refused_same before after end gives in
    record { mesh = takes_nothing before.mesh after.mesh (ap (λ (o : Outside). o.mesh) same); script = takes_nothing before.script after.script (ap (λ (o : Outside). o.script) same) }
fronts_of (Some (Run mesh script out form cap core cache workers)) before after end gives =
    let asked : Asked = record { form = form; core = core } in
    run_fronts asked before after end (stands asked before after end gives)

-- bytes were taken from the front of each source's
pub takes_fronts : (words : List (List ℕ)) (before after : Outside) (end : End) → Gives words before after end → TakesFronts before after
takes_fronts words before after end gives = fronts_of (order_of words) before after end gives.given

run_minds : (asked : Asked) (before after : Outside) (end : End) → Stands asked before after end → MindsScript before after
run_minds asked before after end (all_done e h) = let tasks = h.earlier.earlier in inr (tasks.soup, tasks.earlier.earlier)
run_minds asked before after end (at_mesh h) = inl h.script
run_minds asked before after end (at_shape h) = inl h.script
run_minds asked before after end (at_script h) = inr (h.soup, h.earlier)
run_minds asked before after end (at_tasks h) = inr (h.soup, h.earlier.earlier)
run_minds asked before after end (at_out h) = inr (h.earlier.soup, h.earlier.earlier.earlier)
run_minds asked before after end (at_report h) = let tasks = h.earlier.earlier in inr (tasks.soup, tasks.earlier.earlier)

minds_of : (order : Option Order) (before after : Outside) (end : End) → GivesOrder order before after end → MindsScript before after
minds_of None before after end gives = inl (ap (λ (o : Outside). o.script) (refused_same before after end gives))
minds_of (Some (Run mesh script out form cap core cache workers)) before after end gives =
    let asked : Asked = record { form = form; core = core } in
    run_minds asked before after end (stands asked before after end gives)

-- the script is touched only where the mesh was read and is a manifold
pub minds_script : (words : List (List ℕ)) (before after : Outside) (end : End) → Gives words before after end → MindsScript before after
minds_script words before after end gives = minds_of (order_of words) before after end gives.given

-- ---- the sinks

run_sinks : (asked : Asked) (before after : Outside) (end : End) → RunGives asked before after end → LeavesSinks before after end
run_sinks asked before after Done h = h.earlier.earlier.earlier.script.at_end
run_sinks asked before after Usage h = absurd h
run_sinks asked before after ReadMesh h = h.sinks
run_sinks asked before after (MeshText at why) h = h.sinks
run_sinks asked before after (MeshShape shape) h = h.sinks
run_sinks asked before after ReadScript h = h.sinks
run_sinks asked before after (ScriptText line why) h = h.sinks
run_sinks asked before after (Limit what count) (inl h) = h.sinks
run_sinks asked before after (Limit what count) (inr h) = h.sinks
run_sinks asked before after WriteOut h = h.earlier.earlier.script.at_end
run_sinks asked before after WriteReport h = h.earlier.earlier.earlier.script.at_end
run_sinks asked before after Memory (inl h) = h.sinks
run_sinks asked before after Memory (inr (inl h)) = h.sinks
run_sinks asked before after Memory (inr (inr (inl h))) = h.sinks
run_sinks asked before after Memory (inr (inr (inr (inl h)))) = h.sinks
run_sinks asked before after Memory (inr (inr (inr (inr h)))) = record { out = h.out; report = h.report }

unwritten : (before after : Outside) → after ≡ before → IsUnwritten before after
unwritten before after same = record { out = ap (λ (o : Outside). o.out) same; report = ap (λ (o : Outside). o.report) same }

refused_sinks : (before after : Outside) (end : End) → Refuses before after end → LeavesSinks before after end
refused_sinks before after Usage same = unwritten before after same
refused_sinks before after Memory same = unwritten before after same
refused_sinks before after _ same = absurd same

sinks_of : (order : Option Order) (before after : Outside) (end : End) → GivesOrder order before after end → LeavesSinks before after end
sinks_of None before after end gives = refused_sinks before after end gives
sinks_of (Some (Run mesh script out form cap core cache workers)) before after end gives =
    run_sinks (record { form = form; core = core }) before after end gives

-- every end before the writes leaves both sinks as they were
pub leaves_sinks : (words : List (List ℕ)) (before after : Outside) (end : End) → Gives words before after end → LeavesSinks before after end
leaves_sinks words before after end gives = sinks_of (order_of words) before after end gives.given
