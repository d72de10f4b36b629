-- What follows from what the top call gives.
use Rattle.std.proofs.Common.{◌≡◌, ◌≤◌, ℕ, List, Option, Some, None, Ok, Err, IfSome, IsSome, refl, subst, sym, ap, inl, inr, arith}
use Rattle.std.proofs.lemmas.Bool.{false≢true}
use Rattle.fault_counts.specs.Counts.{IsCalm}
use Rattle.mesh_data.specs.declared.geometry.Soup.{Soup}
use Rattle.mesh_data.specs.declared.edits.Task.{Task}
use Rattle.mesh_data.specs.declared.shapes.Shape.{Shape}
use Rattle.mesh_data.specs.declared.shapes.Audit.TheVariants as audit
use Rattle.mesh_data.specs.Keeps.{tasks_of}
use Rattle.mesh_data.specs.Manifold.{IsManifold, Audits}
use Rattle.mesh_data.specs.Mesh.{start}
use Rattle.mesh_model.proofs.Audits.{no_shape}
use Rattle.work_topology.proofs.WorkKeeps.{each_keeps}
use Rattle.edit_script.specs.Grammar.{script_of}
use Rattle.oemm_run.specs.declared.end.End.{End}
use Rattle.oemm_run.specs.declared.end.End.TheVariants.{Done, Usage, ReadMesh, ReadScript, MeshText, MeshShape, ScriptText, WriteOut, WriteReport, Limit, Memory}
use Rattle.oemm_words.specs.declared.orders.Order.{Order}
use Rattle.oemm_words.specs.declared.orders.Order.TheVariants.{Run}
use Rattle.oemm_run.specs.Commands.Run.{Asked, one_leaf, AtScript, AtTasks, IsDone, RunGives, StopsAtMesh, StopsAtShape, StopsAtScript, StopsAtOut, StopsAtReport}
use Rattle.oemm_run.specs.Gives.{Refuses, GivesOrder, Gives}
use Rattle.oemm_run.specs.Laws.Headline.{AskFor, WritesPlay, Headline}
use Rattle.oemm_run.specs.Laws.Ends.{EndsAs, AreRun, HasReadMesh, HasGoodMesh, HasGoodInput, IsComplete, TellsUsage, TellsMeshFault, TellsShape, TellsScriptFault, TellsAs, TellsFailures}
use Rattle.oemm_run.specs.Outside.{Outside, Input, Output}
use Rattle.oemm_run.specs.Phases.Mesh.{HasMesh, MeshCause}
use Rattle.oemm_run.specs.Phases.Script.{ScriptCause}
use Rattle.oemm_run.specs.Phases.Shape.{ShapeStops}
use Rattle.oemm_run.specs.Phases.Tasks.{TasksStop, played}
use Rattle.oemm_run.specs.Phases.Out.{OutStops}
use Rattle.oemm_run.specs.Phases.Report.{ReportStops}
use Rattle.oemm_run.specs.Soup.{soup_of}
use Rattle.oemm_words.specs.Words.{order_of}
use Rattle.oemm_run.proofs.PhaseLaws.{at_bytes, same_soup, not_read, mesh_good, mesh_bad, shape_good, shape_bad, not_read_script, script_good, script_bad, tasks_good, out_good, report_bad, report_calm}
use Rattle.oemm_run.proofs.Stands.{Stands, all_done, at_mesh, at_shape, at_script, at_tasks, at_out, at_report, stands}

-- ---- the headline

-- what a run that is done has written
done_writes : (words : List (List ℕ)) (asked : Asked) (before after : Outside) (bytes text : List ℕ) → AskFor (order_of words) asked → before.mesh.left ≡ Some bytes → before.script.left ≡ Some text → IsDone asked before after → WritesPlay words before after bytes text
unfolding played
done_writes words asked before after bytes text ask mesh script done =
    let out = done.earlier in
    let tasks = out.earlier in
    let read = tasks.earlier in
    record {
      asked = asked;
      words_ask = ask;
      soup = tasks.soup;
      mesh_said = at_bytes before.mesh.left bytes (λ b. soup_of b ≡ Ok tasks.soup) mesh read.earlier.mesh.told;
      manifold = read.earlier.manifold;
      tasks = tasks.tasks;
      script_said = at_bytes before.script.left text (λ b. script_of b ≡ Ok tasks.tasks) script read.script.told;
      mesh = done.played.mesh;
      journal = done.played.journal;
      each_once = tasks.play.kept;
      one_by_one = tasks.play.one_by_one;
      keeps = each_keeps one_leaf asked.core (start tasks.soup) (tasks_of done.played.journal) read.earlier.manifold;
      out = out.out;
      report = done.report;
    }

ordered_done : (words : List (List ℕ)) (order : Option Order) (before after : Outside) (bytes text : List ℕ) → order ≡ order_of words → GivesOrder order before after Done → before.mesh.left ≡ Some bytes → before.script.left ≡ Some text → WritesPlay words before after bytes text
ordered_done words None before after bytes text is gives mesh script = absurd gives
ordered_done words (Some (Run m s o form cap core cache workers)) before after bytes text is gives mesh script =
    let asked : Asked = record { form = form; core = core } in
    done_writes words asked before after bytes text (subst (λ (order : Option Order). AskFor order asked) is refl) mesh script gives

pub headline : (words : List (List ℕ)) (before after : Outside) (end : End) → Gives words before after end → Headline words before after end
headline words before after end gives bytes text mesh script done =
    ordered_done words (order_of words) before after bytes text refl (subst (Gives words before after) done gives).given mesh script

-- ---- where the words ask for a run

-- a run stands somewhere
pub record StandsSomewhere (before after : Outside) (end : End) : Type 0 where
  pub asked : Asked
  pub there : Stands asked before after end

ordered_stands : (order : Option Order) (before after : Outside) (end : End) → IsSome order → GivesOrder order before after end → StandsSomewhere before after end
ordered_stands None before after end some gives = absurd (false≢true some)
ordered_stands (Some (Run m s o form cap core cache workers)) before after end some gives =
    let asked : Asked = record { form = form; core = core } in
    record { asked = asked; there = stands asked before after end gives }

pub run_stands : (words : List (List ℕ)) (before after : Outside) (end : End) → AreRun words → Gives words before after end → StandsSomewhere before after end
run_stands words before after end run gives = ordered_stands (order_of words) before after end run gives.given

-- ---- the mesh

module _ (asked : Asked) (before after : Outside) (end : End) (bytes : List ℕ) (told : before.mesh.left ≡ Some bytes) where
  -- where its text has a fault the run tells that, unless the source fails
  fault_told : (fault : Rattle.mesh_items.specs.declared.items.MeshFault.MeshFault) → soup_of bytes ≡ Err fault → IsCalm before.mesh.faults after.mesh.faults → Stands asked before after end → EndsAs (Rattle.oemm_run.specs.Phases.Mesh.end_of_mesh fault) end
  fault_told fault bad calm (all_done e h) = absurd (not_read before.mesh after.mesh bytes told fault _ bad h.earlier.earlier.earlier.earlier.mesh)
  fault_told fault bad calm (at_mesh h) = mesh_bad before.mesh after.mesh bytes told fault end bad calm h.mesh.cause
  fault_told fault bad calm (at_shape h) = absurd (not_read before.mesh after.mesh bytes told fault _ bad h.mesh)
  fault_told fault bad calm (at_script h) = absurd (not_read before.mesh after.mesh bytes told fault _ bad h.earlier.mesh)
  fault_told fault bad calm (at_tasks h) = absurd (not_read before.mesh after.mesh bytes told fault _ bad h.earlier.earlier.mesh)
  fault_told fault bad calm (at_out h) = absurd (not_read before.mesh after.mesh bytes told fault _ bad h.earlier.earlier.earlier.mesh)
  fault_told fault bad calm (at_report h) = absurd (not_read before.mesh after.mesh bytes told fault _ bad h.earlier.earlier.earlier.earlier.mesh)

  -- another mesh that was read is this one
  read_start : (P : Soup → Type 0) (s t : Soup) → soup_of bytes ≡ Ok s → HasMesh before.mesh after.mesh t → P t → P s
  read_start P s t good has p = subst P (same_soup before.mesh after.mesh bytes told s t good has) p

  no_manifold : (s t : Soup) (shape : Shape) → soup_of bytes ≡ Ok s → Audits (start s) (audit.Bad shape) → AtScript before after t → ⊥
  no_manifold s t shape good bad at =
      no_shape (start s) shape (read_start (λ r. IsManifold (start r)) s t good at.mesh at.manifold) bad

  -- where it is no manifold the run tells why, unless the source fails
  shape_told : (s : Soup) (shape : Shape) → soup_of bytes ≡ Ok s → Audits (start s) (audit.Bad shape) → IsCalm before.mesh.faults after.mesh.faults → Stands asked before after end → EndsAs (MeshShape shape) end
  shape_told s shape good bad calm (all_done e h) = absurd (no_manifold s _ shape good bad h.earlier.earlier.earlier.earlier)
  shape_told s shape good bad calm (at_mesh h) = inr (mesh_good before.mesh after.mesh bytes told s end good calm h.mesh.cause)
  shape_told s shape good bad calm (at_shape h) = shape_bad s shape end bad (read_start (λ r. ShapeStops r end) s h.soup good h.mesh h.shape)
  shape_told s shape good bad calm (at_script h) = absurd (no_manifold s _ shape good bad h.earlier)
  shape_told s shape good bad calm (at_tasks h) = absurd (no_manifold s _ shape good bad h.earlier.earlier)
  shape_told s shape good bad calm (at_out h) = absurd (no_manifold s _ shape good bad h.earlier.earlier.earlier)
  shape_told s shape good bad calm (at_report h) = absurd (no_manifold s _ shape good bad h.earlier.earlier.earlier.earlier)

  -- where it is one, the run stops before the script for want of memory alone, unless the source fails
  early : (s : Soup) → soup_of bytes ≡ Ok s → IsManifold (start s) → IsCalm before.mesh.faults after.mesh.faults → StopsAtShape before after end → end ≡ Memory
  early s good manifold calm h = shape_good s end manifold (read_start (λ r. ShapeStops r end) s h.soup good h.mesh h.shape)

pub tells_mesh_fault : (words : List (List ℕ)) (before after : Outside) (end : End) → Gives words before after end → TellsMeshFault words before after end
tells_mesh_fault words before after end gives bytes fault run told bad calm =
    let stand = run_stands words before after end run gives in
    fault_told stand.asked before after end bytes told fault bad calm stand.there

pub tells_shape : (words : List (List ℕ)) (before after : Outside) (end : End) → Gives words before after end → TellsShape words before after end
tells_shape words before after end gives s shape read bad calm =
    let stand = run_stands words before after end read.run gives in
    shape_told stand.asked before after end read.bytes read.told s shape read.soup bad calm stand.there

-- ---- the script

script_told : (words : List (List ℕ)) (asked : Asked) (before after : Outside) (end : End) (s : Soup) (text : List ℕ) (fault : Rattle.edit_script.specs.declared.fault.ScriptFault.ScriptFault) → HasGoodMesh words before s → before.script.left ≡ Some text → script_of text ≡ Err fault → IsCalm before.mesh.faults after.mesh.faults → IsCalm before.script.faults after.script.faults → Stands asked before after end → EndsAs (Rattle.oemm_run.specs.Phases.Script.end_of_script fault) end
script_told words asked before after end s text fault good told bad calm calm' (all_done e h) = absurd (not_read_script before.script after.script text told fault _ bad h.earlier.earlier.earlier.script)
script_told words asked before after end s text fault good told bad calm calm' (at_mesh h) = inr (mesh_good before.mesh after.mesh good.read.bytes good.read.told s end good.read.soup calm h.mesh.cause)
script_told words asked before after end s text fault good told bad calm calm' (at_shape h) = inr (early asked before after end good.read.bytes good.read.told s good.read.soup good.manifold calm h)
script_told words asked before after end s text fault good told bad calm calm' (at_script h) = script_bad before.script after.script text told fault end bad calm' h.script.cause
script_told words asked before after end s text fault good told bad calm calm' (at_tasks h) = absurd (not_read_script before.script after.script text told fault _ bad h.earlier.script)
script_told words asked before after end s text fault good told bad calm calm' (at_out h) = absurd (not_read_script before.script after.script text told fault _ bad h.earlier.earlier.script)
script_told words asked before after end s text fault good told bad calm calm' (at_report h) = absurd (not_read_script before.script after.script text told fault _ bad h.earlier.earlier.earlier.script)

pub tells_script_fault : (words : List (List ℕ)) (before after : Outside) (end : End) → Gives words before after end → TellsScriptFault words before after end
tells_script_fault words before after end gives s text fault good told bad calm calm' =
    let stand = run_stands words before after end good.read.run gives in
    script_told words stand.asked before after end s text fault good told bad calm calm' stand.there

-- ---- completeness

all_good : (words : List (List ℕ)) (asked : Asked) (before after : Outside) (end : End) (s : Soup) (tasks : List Task) → HasGoodInput words before s tasks → IsCalm before.mesh.faults after.mesh.faults → IsCalm before.script.faults after.script.faults → IsCalm before.out.faults after.out.faults → IsCalm before.report.faults after.report.faults → Stands asked before after end → EndsAs Done end
all_good words asked before after end s tasks good mesh script out report (all_done e h) = inl e
all_good words asked before after end s tasks good mesh script out report (at_mesh h) = let read = good.mesh.read in inr (mesh_good before.mesh after.mesh read.bytes read.told s end read.soup mesh h.mesh.cause)
all_good words asked before after end s tasks good mesh script out report (at_shape h) = let read = good.mesh.read in inr (early asked before after end read.bytes read.told s read.soup good.mesh.manifold mesh h)
all_good words asked before after end s tasks good mesh script out report (at_script h) = inr (script_good before.script after.script good.bytes good.told tasks end good.script script h.script.cause)
all_good words asked before after end s tasks good mesh script out report (at_tasks h) = inr (tasks_good end h.stop)
all_good words asked before after end s tasks good mesh script out report (at_out h) = inr (out_good before.out after.out _ end out h.out)
all_good words asked before after end s tasks good mesh script out report (at_report h) = absurd (report_calm before.report after.report _ end report h.report)

pub complete : (words : List (List ℕ)) (before after : Outside) (end : End) → Gives words before after end → IsComplete words before after end
complete words before after end gives s tasks good calm =
    let stand = run_stands words before after end good.mesh.read.run gives in
    all_good words stand.asked before after end s tasks good calm.mesh calm.script calm.out calm.report stand.there

-- ---- words in no form

refusal_ends : (before after : Outside) (end : End) → Refuses before after end → EndsAs Usage end
refusal_ends before after Usage refuses = inl refl
refusal_ends before after Memory refuses = inr refl
refusal_ends before after _ refuses = absurd refuses

no_form_ends : (order : Option Order) (before after : Outside) (end : End) → order ≡ None → GivesOrder order before after end → EndsAs Usage end
no_form_ends None before after end none gives = refusal_ends before after end gives
no_form_ends (Some order) before after end none gives = absurd (cc)

usage_of_none : (order : Option Order) (before after : Outside) → GivesOrder order before after Usage → order ≡ None
usage_of_none None before after gives = refl
usage_of_none (Some (Run m s o form cap core cache workers)) before after gives = absurd gives

pub tells_usage : (words : List (List ℕ)) (before after : Outside) (end : End) → Gives words before after end → TellsUsage words end
tells_usage words before after end gives = record {
  told = λ none. no_form_ends (order_of words) before after end none gives.given;
  only = λ e. usage_of_none (order_of words) before after (subst (Gives words before after) e gives).given;
}

-- ---- failures

-- an object that stands as it was at an end that isn't its own
as_it_was : (failed : End) (before now : ℕ) (end : End) → (end ≡ failed → ⊥) → now ≡ before → TellsAs failed before now end
as_it_was failed before now end other same =
    record { kept = omega (arith, same); cause = λ e. absurd (other e); calm = inr same }

mesh_tells : (before after : Input) (end : End) → MeshCause before after end → TellsAs ReadMesh before.faults after.faults end
mesh_tells before after ReadMesh cause = record { kept = cause.kept; cause = λ e. cause.rose; calm = inl refl }
mesh_tells before after (MeshText at why) cause = as_it_was ReadMesh _ _ (MeshText at why) (λ e. cc) cause.calm
mesh_tells before after (Limit what count) cause = as_it_was ReadMesh _ _ (Limit what count) (λ e. cc) cause.calm
mesh_tells before after Memory cause = as_it_was ReadMesh _ _ Memory (λ e. cc) cause
mesh_tells before after _ cause = absurd cause

script_tells : (before after : Input) (end : End) → ScriptCause before after end → TellsAs ReadScript before.faults after.faults end
script_tells before after ReadScript cause = record { kept = cause.kept; cause = λ e. cause.rose; calm = inl refl }
script_tells before after (ScriptText line why) cause = as_it_was ReadScript _ _ (ScriptText line why) (λ e. cc) cause.calm
script_tells before after (Limit what count) cause = as_it_was ReadScript _ _ (Limit what count) (λ e. cc) cause.calm
script_tells before after Memory cause = as_it_was ReadScript _ _ Memory (λ e. cc) cause
script_tells before after _ cause = absurd cause

out_tells : (before after : Output) (text : List ℕ) (end : End) → OutStops before after text end → TellsAs WriteOut before.faults after.faults end
out_tells before after text WriteOut stops = record { kept = stops.cause.kept; cause = λ e. stops.cause.rose; calm = inl refl }
out_tells before after text Memory stops = as_it_was WriteOut _ _ Memory (λ e. cc) (ap (λ (o : Output). o.faults) stops)
out_tells before after text _ stops = absurd stops

report_tells : (before after : Output) (text : List ℕ) (end : End) → ReportStops before after text end → TellsAs WriteReport before.faults after.faults end
report_tells before after text WriteReport stops = record { kept = stops.cause.kept; cause = λ e. stops.cause.rose; calm = inl refl }
report_tells before after text _ stops = absurd stops

-- an end of a phase isn't one of another phase's object
mesh_only : (failed : End) (before after : Input) (end : End) → (MeshCause before after failed → ⊥) → MeshCause before after end → end ≡ failed → ⊥
mesh_only failed before after end never cause e = never (subst (MeshCause before after) e cause)

script_only : (failed : End) (before after : Input) (end : End) → (ScriptCause before after failed → ⊥) → ScriptCause before after end → end ≡ failed → ⊥
script_only failed before after end never cause e = never (subst (ScriptCause before after) e cause)

shape_only : (failed : End) (s : Soup) (end : End) → (ShapeStops s failed → ⊥) → ShapeStops s end → end ≡ failed → ⊥
shape_only failed s end never stops e = never (subst (ShapeStops s) e stops)

tasks_only : (failed : End) (end : End) → (TasksStop failed → ⊥) → TasksStop end → end ≡ failed → ⊥
tasks_only failed end never stops e = never (subst TasksStop e stops)

out_only : (failed : End) (before after : Output) (text : List ℕ) (end : End) → (OutStops before after text failed → ⊥) → OutStops before after text end → end ≡ failed → ⊥
out_only failed before after text end never stops e = never (subst (OutStops before after text) e stops)

report_only : (failed : End) (before after : Output) (text : List ℕ) (end : End) → (ReportStops before after text failed → ⊥) → ReportStops before after text end → end ≡ failed → ⊥
report_only failed before after text end never stops e = never (subst (ReportStops before after text) e stops)

input_same : (before after : Input) → after ≡ before → after.faults ≡ before.faults
input_same before after same = ap (λ (x : Input). x.faults) same

output_same : (before after : Output) → after ≡ before → after.faults ≡ before.faults
output_same before after same = ap (λ (x : Output). x.faults) same

-- a run tells each failure as itself
run_failures : (asked : Asked) (before after : Outside) (end : End) → Stands asked before after end → TellsFailures before after end
run_failures asked before after end (all_done e h) =
    let tasks = h.earlier.earlier.earlier in record {
      mesh = as_it_was ReadMesh _ _ end (λ f. cc) tasks.earlier.mesh.calm;
      script = as_it_was ReadScript _ _ end (λ f. cc) tasks.script.calm;
      out = as_it_was WriteOut _ _ end (λ f. cc) h.earlier.out.calm;
      report = as_it_was WriteReport _ _ end (λ f. cc) h.report.calm;
    }
run_failures asked before after end (at_mesh h) = let cause = h.mesh.cause in record {
  mesh = mesh_tells before.mesh after.mesh end cause;
  script = as_it_was ReadScript _ _ end (mesh_only ReadScript before.mesh after.mesh end (λ x. x) cause) (input_same before.script after.script h.script);
  out = as_it_was WriteOut _ _ end (mesh_only WriteOut before.mesh after.mesh end (λ x. x) cause) (output_same before.out after.out h.sinks.out);
  report = as_it_was WriteReport _ _ end (mesh_only WriteReport before.mesh after.mesh end (λ x. x) cause) (output_same before.report after.report h.sinks.report);
}
run_failures asked before after end (at_shape h) = record {
  mesh = as_it_was ReadMesh _ _ end (shape_only ReadMesh h.soup end (λ x. x) h.shape) h.mesh.calm;
  script = as_it_was ReadScript _ _ end (shape_only ReadScript h.soup end (λ x. x) h.shape) (input_same before.script after.script h.script);
  out = as_it_was WriteOut _ _ end (shape_only WriteOut h.soup end (λ x. x) h.shape) (output_same before.out after.out h.sinks.out);
  report = as_it_was WriteReport _ _ end (shape_only WriteReport h.soup end (λ x. x) h.shape) (output_same before.report after.report h.sinks.report);
}
run_failures asked before after end (at_script h) = let cause = h.script.cause in record {
  mesh = as_it_was ReadMesh _ _ end (script_only ReadMesh before.script after.script end (λ x. x) cause) h.earlier.mesh.calm;
  script = script_tells before.script after.script end cause;
  out = as_it_was WriteOut _ _ end (script_only WriteOut before.script after.script end (λ x. x) cause) (output_same before.out after.out h.sinks.out);
  report = as_it_was WriteReport _ _ end (script_only WriteReport before.script after.script end (λ x. x) cause) (output_same before.report after.report h.sinks.report);
}
run_failures asked before after end (at_tasks h) = record {
  mesh = as_it_was ReadMesh _ _ end (tasks_only ReadMesh end (λ x. x) h.stop) h.earlier.earlier.mesh.calm;
  script = as_it_was ReadScript _ _ end (tasks_only ReadScript end (λ x. x) h.stop) h.earlier.script.calm;
  out = as_it_was WriteOut _ _ end (tasks_only WriteOut end (λ x. x) h.stop) (output_same before.out after.out h.sinks.out);
  report = as_it_was WriteReport _ _ end (tasks_only WriteReport end (λ x. x) h.stop) (output_same before.report after.report h.sinks.report);
}
run_failures asked before after end (at_out h) = let tasks = h.earlier.earlier in record {
  mesh = as_it_was ReadMesh _ _ end (out_only ReadMesh before.out after.out _ end (λ x. x) h.out) tasks.earlier.mesh.calm;
  script = as_it_was ReadScript _ _ end (out_only ReadScript before.out after.out _ end (λ x. x) h.out) tasks.script.calm;
  out = out_tells before.out after.out _ end h.out;
  report = as_it_was WriteReport _ _ end (out_only WriteReport before.out after.out _ end (λ x. x) h.out) (output_same before.report after.report h.report);
}
run_failures asked before after end (at_report h) = let tasks = h.earlier.earlier.earlier in record {
  mesh = as_it_was ReadMesh _ _ end (report_only ReadMesh before.report after.report _ end (λ x. x) h.report) tasks.earlier.mesh.calm;
  script = as_it_was ReadScript _ _ end (report_only ReadScript before.report after.report _ end (λ x. x) h.report) tasks.script.calm;
  out = as_it_was WriteOut _ _ end (report_only WriteOut before.report after.report _ end (λ x. x) h.report) h.earlier.out.calm;
  report = report_tells before.report after.report _ end h.report;
}

-- and so does a refusal
refusal_failures : (before after : Outside) (end : End) → Refuses before after end → TellsFailures before after end
refusal_failures before after Usage same = record {
  mesh = as_it_was ReadMesh _ _ Usage (λ e. cc) (ap (λ (o : Outside). o.mesh.faults) same);
  script = as_it_was ReadScript _ _ Usage (λ e. cc) (ap (λ (o : Outside). o.script.faults) same);
  out = as_it_was WriteOut _ _ Usage (λ e. cc) (ap (λ (o : Outside). o.out.faults) same);
  report = as_it_was WriteReport _ _ Usage (λ e. cc) (ap (λ (o : Outside). o.report.faults) same);
}
refusal_failures before after Memory same = record {
  mesh = as_it_was ReadMesh _ _ Memory (λ e. cc) (ap (λ (o : Outside). o.mesh.faults) same);
  script = as_it_was ReadScript _ _ Memory (λ e. cc) (ap (λ (o : Outside). o.script.faults) same);
  out = as_it_was WriteOut _ _ Memory (λ e. cc) (ap (λ (o : Outside). o.out.faults) same);
  report = as_it_was WriteReport _ _ Memory (λ e. cc) (ap (λ (o : Outside). o.report.faults) same);
}
refusal_failures before after _ same = absurd same

ordered_failures : (order : Option Order) (before after : Outside) (end : End) → GivesOrder order before after end → TellsFailures before after end
ordered_failures None before after end gives = refusal_failures before after end gives
ordered_failures (Some (Run m s o form cap core cache workers)) before after end gives =
    let asked : Asked = record { form = form; core = core } in
    run_failures asked before after end (stands asked before after end gives)

pub tells_failures : (words : List (List ℕ)) (before after : Outside) (end : End) → Gives words before after end → TellsFailures before after end
tells_failures words before after end gives = ordered_failures (order_of words) before after end gives.given
