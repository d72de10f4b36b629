-- Where a run stands once its tasks are done.
use Rattle.std.proofs.Common.{◌≡◌, ℕ, List, subst, sym, ap, ◌∙◌}
use Rattle.oemm_octree.specs.declared.points.Point.{Point}
use Rattle.mesh_data.specs.declared.geometry.Soup.{Soup}
use Rattle.mesh_data.specs.declared.geometry.Tri.{Tri}
use Rattle.mesh_data.specs.declared.edits.Task.{Task}
use Rattle.mesh_data.specs.Manifold.{IsManifold}
use Rattle.mesh_data.specs.Mesh.{Mesh, start, points_of}
use Rattle.mesh_data.specs.Work.{Played, play}
use Rattle.mesh_out.specs.declared.form.Form.{Form}
use Rattle.mesh_out.specs.declared.form.OutFault.{OutFault}
use Rattle.mesh_out.specs.Form.{form_text}
use Rattle.mesh_out.specs.MeshBytes.{mesh_bytes, faces_of}
use Rattle.oemm_run.specs.declared.end.End.{End}
use Rattle.oemm_run.specs.Commands.Run.{Asked, AtOut, AtReport, IsDone, StopsAtOut, StopsAtReport, one_leaf}
use Rattle.oemm_run.specs.Outside.{Outside, Wrote}
use Rattle.oemm_run.specs.Phases.Mesh.{HasMesh}
use Rattle.oemm_run.specs.Phases.Out.{OutStops, end_of_out}
use Rattle.oemm_run.specs.Phases.Report.{report_text, ReportStops}
use Rattle.oemm_run.specs.Phases.Script.{HasScript}
use Rattle.oemm_run.specs.Phases.Tasks.{InScriptOrder, HasPlayed}
use Rattle.oemm_run.proofs.Plays.{has_played}

-- the points and faces of a mesh make its file
file_of : (form : Form) (m : Mesh) (points : List Point) (faces : List Tri) → points ≡ points_of m → faces ≡ faces_of m → form_text form points faces ≡ mesh_bytes form m
file_of form m points faces p f = cc

module _ (asked : Asked) (before after : Outside) (s : Soup) (m : Mesh) (tasks : List Task) where
  -- the tasks were done on the start mesh
  pub at_out_of : HasMesh before.mesh after.mesh s → (m ≡ start s) × IsManifold (start s) → (read : List Task) → tasks ≡ read → HasScript before.script after.script read → AtOut asked before after (play one_leaf asked.core m tasks)
  at_out_of mesh begun read same script = record {
    soup = s;
    tasks = tasks;
    earlier = record { earlier = record { mesh = mesh; manifold = begun.1 }; script = subst (HasScript before.script after.script) (sym same) script };
    play = subst (λ (x : Mesh). HasPlayed InScriptOrder one_leaf asked.core s tasks (play one_leaf asked.core x tasks)) (sym begun.0) (has_played one_leaf asked.core s tasks);
  }

module _ (asked : Asked) (before after : Outside) (p : Played) (points : List Point) (faces : List Tri) (at : AtOut asked before after p) (ps : points ≡ points_of p.mesh) (fs : faces ≡ faces_of p.mesh) where
  -- and then the mesh wasn't written
  pub stops_at_out : (fault : OutFault) (end : End) → end ≡ end_of_out fault → OutStops before.out after.out (form_text asked.form points faces) (end_of_out fault) → after.report ≡ before.report → StopsAtOut asked before after end
  stops_at_out fault end is stops same = record {
    played = p;
    earlier = at;
    out = subst (OutStops before.out after.out (mesh_bytes asked.form p.mesh)) (sym is)
        (subst (λ text. OutStops before.out after.out text (end_of_out fault)) (file_of asked.form p.mesh points faces ps fs) stops);
    report = same;
  }

  -- and then it was
  pub at_report_of : Wrote before.out after.out (form_text asked.form points faces) → AtReport asked before after p
  at_report_of wrote = record { earlier = at; out = subst (Wrote before.out after.out) (file_of asked.form p.mesh points faces ps fs) wrote }

-- the report wasn't written, or it was
pub stops_at_report : (asked : Asked) (before after : Outside) (p : Played) (text : List ℕ) (end : End) → AtReport asked before after p → text ≡ report_text p → ReportStops before.report after.report text end → StopsAtReport asked before after end
stops_at_report asked before after p text end at is stops =
    record { played = p; earlier = at; report = subst (λ t. ReportStops before.report after.report t end) is stops }

pub is_done_of : (asked : Asked) (before after : Outside) (p : Played) (text : List ℕ) → AtReport asked before after p → text ≡ report_text p → Wrote before.report after.report text → IsDone asked before after
is_done_of asked before after p text at is wrote =
    record { played = p; earlier = at; report = subst (Wrote before.report after.report) is wrote }
