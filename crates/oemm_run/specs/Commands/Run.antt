-- What the command gives that does a script on a mesh. Its phases are mesh, shape, script, tasks, out and report.
use Rattle.std.specs.Prelude.{◌≡◌, ℕ, ◌⊎◌, List, [], ◌∷◌}
use Rattle.oemm_octree.specs.declared.cells.Cell.{Cell}
use Rattle.mesh_data.specs.declared.geometry.Soup.{Soup}
use Rattle.mesh_data.specs.declared.edits.Task.{Task}
use Rattle.mesh_data.specs.Manifold.{IsManifold}
use Rattle.mesh_data.specs.Mesh.{start}
use Rattle.oemm_octree.specs.Octree.{root_cell}
use Rattle.mesh_data.specs.Work.{Played}
use Rattle.mesh_out.specs.declared.form.Form.{Form}
use Rattle.mesh_out.specs.MeshBytes.{mesh_bytes}
use Rattle.oemm_run.specs.declared.end.End.{End}
use Rattle.oemm_run.specs.declared.end.End.TheVariants.{Done, Usage, ReadMesh, ReadScript, MeshText, MeshShape, ScriptText, WriteOut, WriteReport, Limit, Memory}
use Rattle.oemm_run.specs.Outside.{Outside, Wrote, IsUnwritten}
use Rattle.oemm_run.specs.Phases.Mesh.{HasMesh, MeshStops}
use Rattle.oemm_run.specs.Phases.Shape.{ShapeStops}
use Rattle.oemm_run.specs.Phases.Script.{HasScript, ScriptStops}
use Rattle.oemm_run.specs.Phases.Tasks.{InScriptOrder, HasPlayed, TasksStop}
use Rattle.oemm_run.specs.Phases.Out.{OutStops}
use Rattle.oemm_run.specs.Phases.Report.{report_text, ReportStops}

-- what a run is asked for: the format of the mesh that is written, and the greatest number of leaves of a task's core
pub record Asked : Type 0 where
  pub form : Form
  pub core : ℕ

-- the octree of a run's mesh: one leaf, since no mesh within the limits has more vertices than a leaf may
abbrev pub one_leaf : List Cell
one_leaf = root_cell ∷ []

-- the mesh wasn't read, and nothing else was touched
pub record StopsAtMesh (before after : Outside) (end : End) : Type 0 where
  pub mesh : MeshStops before.mesh after.mesh end
  pub script : after.script ≡ before.script
  pub sinks : IsUnwritten before after

-- the mesh was read and can't be worked on, and nothing else was touched
pub record StopsAtShape (before after : Outside) (end : End) : Type 0 where
  pub soup : Soup
  pub mesh : HasMesh before.mesh after.mesh soup
  pub shape : ShapeStops soup end
  pub script : after.script ≡ before.script
  pub sinks : IsUnwritten before after

-- the mesh was read, and is a manifold
pub record AtScript (before after : Outside) (s : Soup) : Type 0 where
  pub mesh : HasMesh before.mesh after.mesh s
  pub manifold : IsManifold (start s)

-- and then the script wasn't read, and no sink was touched
pub record StopsAtScript (before after : Outside) (end : End) : Type 0 where
  pub soup : Soup
  pub earlier : AtScript before after soup
  pub script : ScriptStops before.script after.script end
  pub sinks : IsUnwritten before after

-- and the script was read
pub record AtTasks (before after : Outside) (s : Soup) (tasks : List Task) : Type 0 where
  pub earlier : AtScript before after s
  pub script : HasScript before.script after.script tasks

-- and then the tasks weren't all done, and no sink was touched
pub record StopsAtTasks (before after : Outside) (end : End) : Type 0 where
  pub soup : Soup
  pub tasks : List Task
  pub earlier : AtTasks before after soup tasks
  pub stop : TasksStop end
  pub sinks : IsUnwritten before after

-- and all tasks were done
pub record AtOut (asked : Asked) (before after : Outside) (p : Played) : Type 0 where
  pub soup : Soup
  pub tasks : List Task
  pub earlier : AtTasks before after soup tasks
  pub play : HasPlayed InScriptOrder one_leaf asked.core soup tasks p

-- and then the mesh wasn't written whole, and the report wasn't touched
pub record StopsAtOut (asked : Asked) (before after : Outside) (end : End) : Type 0 where
  pub played : Played
  pub earlier : AtOut asked before after played
  pub out : OutStops before.out after.out (mesh_bytes asked.form played.mesh) end
  pub report : after.report ≡ before.report

-- and the mesh was written, in the format that is asked for
pub record AtReport (asked : Asked) (before after : Outside) (p : Played) : Type 0 where
  pub earlier : AtOut asked before after p
  pub out : Wrote before.out after.out (mesh_bytes asked.form p.mesh)

-- and then the report wasn't written whole
pub record StopsAtReport (asked : Asked) (before after : Outside) (end : End) : Type 0 where
  pub played : Played
  pub earlier : AtReport asked before after played
  pub report : ReportStops before.report after.report (report_text played) end

-- and the report was written
pub record IsDone (asked : Asked) (before after : Outside) : Type 0 where
  pub played : Played
  pub earlier : AtReport asked before after played
  pub report : Wrote before.report after.report (report_text played)

-- memory was wanting at some phase
abbrev pub StopsSomewhere : Asked → Outside → Outside → End → Type 0
StopsSomewhere asked before after end =
    StopsAtMesh before after end ⊎ (StopsAtShape before after end ⊎ (StopsAtScript before after end
    ⊎ (StopsAtTasks before after end ⊎ StopsAtOut asked before after end)))

-- what a run gives
abbrev pub RunGives : Asked → Outside → Outside → End → Type 0
RunGives asked before after Done = IsDone asked before after
RunGives asked before after Usage = ⊥
RunGives asked before after ReadMesh = StopsAtMesh before after ReadMesh
RunGives asked before after (MeshText at why) = StopsAtMesh before after (MeshText at why)
RunGives asked before after (MeshShape shape) = StopsAtShape before after (MeshShape shape)
RunGives asked before after ReadScript = StopsAtScript before after ReadScript
RunGives asked before after (ScriptText line why) = StopsAtScript before after (ScriptText line why)
RunGives asked before after (Limit what count) = StopsAtMesh before after (Limit what count) ⊎ StopsAtScript before after (Limit what count)
RunGives asked before after WriteOut = StopsAtOut asked before after WriteOut
RunGives asked before after WriteReport = StopsAtReport asked before after WriteReport
RunGives asked before after Memory = StopsSomewhere asked before after Memory
