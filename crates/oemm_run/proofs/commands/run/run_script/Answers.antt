use Rattle.std.proofs.Common.{◌≡◌, Ok, Err, List, refl, subst, sym}
use Rattle.mesh_data.specs.Work.{Played, play}
use Rattle.mesh_out.specs.Form.{form_text}
use Rattle.oemm_run.specs.Commands.Run.{Asked, one_leaf}
use Rattle.oemm_run.specs.Outside.{Outside, input, output}
use Rattle.oemm_run.specs.Phases.Mesh.{ReadsMesh}
use Rattle.oemm_run.specs.Phases.Out.{WritesMesh}
use Rattle.oemm_run.specs.Phases.Report.{WritesReport}
use Rattle.oemm_run.specs.Phases.Script.{ReadsScript}
use Rattle.oemm_run.specs.Phases.Shape.{MakesStart}
use Rattle.oemm_run.specs.declared.end.End.TheVariants.{WriteReport}
use Rattle.oemm_run.proofs.Stands.{gives_at_out}
use Rattle.oemm_run.proofs.Written.{at_out_of, stops_at_out, at_report_of, stops_at_report, is_done_of}
use Rattle.oemm_run.proofs.commands.run.run_script.Goals as goal

pub returns-in-Err-written : goal.returns-in-Err-written
returns-in-Err-written g c =
    let asked : Asked = record { form = c.args.form; core = c.args.core } in
    let before : Outside = record {
      mesh = input (g.M.Source.left c.args.io.mesh) (g.M.Source.faults c.args.io.mesh);
      script = input (g.S.Source.left c.args.io.script) (g.S.Source.faults c.args.io.script);
      out = output (g.O.Sink.written c.args.io.out) (g.O.Sink.faults c.args.io.out) (g.O.Sink.finished c.args.io.out);
      report = output (g.R.Sink.written c.args.io.report) (g.R.Sink.faults c.args.io.report) (g.R.Sink.finished c.args.io.report);
    } in
    let after : Outside = record {
      mesh = input (g.M.Source.left c.read_mesh-mesh.result.0) (g.M.Source.faults c.read_mesh-mesh.result.0);
      script = input (g.S.Source.left c.read_tasks-script.result.0) (g.S.Source.faults c.read_tasks-script.result.0);
      out = output (g.O.Sink.written c.write_out-out.result.0) (g.O.Sink.faults c.write_out-out.result.0) (g.O.Sink.finished c.write_out-out.result.0);
      report = output (g.R.Sink.written c.args.io.report) (g.R.Sink.faults c.args.io.report) (g.R.Sink.finished c.args.io.report);
    } in
    let tasks = c.slice.result.now in
    let mesh = subst (ReadsMesh before.mesh after.mesh) c.in-Ok.is c.read_mesh-mesh.ensures in
    let begun = subst (MakesStart c.in-Ok.soup) c.in-Ok-start_mesh.is c.start_mesh.ensures in
    let script = subst (ReadsScript before.script after.script) c.in-Ok-read.is c.read_tasks-script.ensures in
    let at = at_out_of asked before after c.in-Ok.soup c.in-Ok-start_mesh.plain tasks mesh begun c.in-Ok-read.read.tasks c.slice.ensures script in
    let p : Played = play one_leaf c.args.core c.in-Ok-start_mesh.plain tasks in
    let text = form_text c.args.form c.in-Ok-outputs_of.outputs.points c.in-Ok-outputs_of.outputs.faces in
    let stops = subst (WritesMesh before.out after.out text) c.in-Err-written.is c.write_out-out.ensures in
    gives_at_out asked before after c.end_of_out.result
    (stops_at_out asked before after p c.in-Ok-outputs_of.outputs.points c.in-Ok-outputs_of.outputs.faces at c.in-Ok-outputs_of.ensures.points c.in-Ok-outputs_of.ensures.faces
    c.in-Err-written.fault c.end_of_out.result c.end_of_out.ensures stops refl)

pub returns-in-Err-written-2 : goal.returns-in-Err-written-2
returns-in-Err-written-2 g c =
    let asked : Asked = record { form = c.args.form; core = c.args.core } in
    let before : Outside = record {
      mesh = input (g.M.Source.left c.args.io.mesh) (g.M.Source.faults c.args.io.mesh);
      script = input (g.S.Source.left c.args.io.script) (g.S.Source.faults c.args.io.script);
      out = output (g.O.Sink.written c.args.io.out) (g.O.Sink.faults c.args.io.out) (g.O.Sink.finished c.args.io.out);
      report = output (g.R.Sink.written c.args.io.report) (g.R.Sink.faults c.args.io.report) (g.R.Sink.finished c.args.io.report);
    } in
    let after : Outside = record {
      mesh = input (g.M.Source.left c.read_mesh-mesh.result.0) (g.M.Source.faults c.read_mesh-mesh.result.0);
      script = input (g.S.Source.left c.read_tasks-script.result.0) (g.S.Source.faults c.read_tasks-script.result.0);
      out = output (g.O.Sink.written c.write_out-out.result.0) (g.O.Sink.faults c.write_out-out.result.0) (g.O.Sink.finished c.write_out-out.result.0);
      report = output (g.R.Sink.written c.write_report-report.result.0) (g.R.Sink.faults c.write_report-report.result.0) (g.R.Sink.finished c.write_report-report.result.0);
    } in
    let tasks = c.slice.result.now in
    let mesh = subst (ReadsMesh before.mesh after.mesh) c.in-Ok.is c.read_mesh-mesh.ensures in
    let begun = subst (MakesStart c.in-Ok.soup) c.in-Ok-start_mesh.is c.start_mesh.ensures in
    let script = subst (ReadsScript before.script after.script) c.in-Ok-read.is c.read_tasks-script.ensures in
    let at = at_out_of asked before after c.in-Ok.soup c.in-Ok-start_mesh.plain tasks mesh begun c.in-Ok-read.read.tasks c.slice.ensures script in
    let p : Played = play one_leaf c.args.core c.in-Ok-start_mesh.plain tasks in
    let text = form_text c.args.form c.in-Ok-outputs_of.outputs.points c.in-Ok-outputs_of.outputs.faces in
    let wrote = subst (WritesMesh before.out after.out text) c.in_default-written.is c.write_out-out.ensures in
    let reported = at_report_of asked before after p c.in-Ok-outputs_of.outputs.points c.in-Ok-outputs_of.outputs.faces at c.in-Ok-outputs_of.ensures.points c.in-Ok-outputs_of.ensures.faces wrote in
    stops_at_report asked before after p c.in-Ok-outputs_of.outputs.report WriteReport reported c.in-Ok-outputs_of.ensures.report
    (subst (WritesReport before.report after.report c.in-Ok-outputs_of.outputs.report) c.in-Err-written-2.is c.write_report-report.ensures)

pub returns : goal.returns
returns g c =
    let asked : Asked = record { form = c.args.form; core = c.args.core } in
    let before : Outside = record {
      mesh = input (g.M.Source.left c.args.io.mesh) (g.M.Source.faults c.args.io.mesh);
      script = input (g.S.Source.left c.args.io.script) (g.S.Source.faults c.args.io.script);
      out = output (g.O.Sink.written c.args.io.out) (g.O.Sink.faults c.args.io.out) (g.O.Sink.finished c.args.io.out);
      report = output (g.R.Sink.written c.args.io.report) (g.R.Sink.faults c.args.io.report) (g.R.Sink.finished c.args.io.report);
    } in
    let after : Outside = record {
      mesh = input (g.M.Source.left c.read_mesh-mesh.result.0) (g.M.Source.faults c.read_mesh-mesh.result.0);
      script = input (g.S.Source.left c.read_tasks-script.result.0) (g.S.Source.faults c.read_tasks-script.result.0);
      out = output (g.O.Sink.written c.write_out-out.result.0) (g.O.Sink.faults c.write_out-out.result.0) (g.O.Sink.finished c.write_out-out.result.0);
      report = output (g.R.Sink.written c.write_report-report.result.0) (g.R.Sink.faults c.write_report-report.result.0) (g.R.Sink.finished c.write_report-report.result.0);
    } in
    let tasks = c.slice.result.now in
    let mesh = subst (ReadsMesh before.mesh after.mesh) c.in-Ok.is c.read_mesh-mesh.ensures in
    let begun = subst (MakesStart c.in-Ok.soup) c.in-Ok-start_mesh.is c.start_mesh.ensures in
    let script = subst (ReadsScript before.script after.script) c.in-Ok-read.is c.read_tasks-script.ensures in
    let at = at_out_of asked before after c.in-Ok.soup c.in-Ok-start_mesh.plain tasks mesh begun c.in-Ok-read.read.tasks c.slice.ensures script in
    let p : Played = play one_leaf c.args.core c.in-Ok-start_mesh.plain tasks in
    let text = form_text c.args.form c.in-Ok-outputs_of.outputs.points c.in-Ok-outputs_of.outputs.faces in
    let wrote = subst (WritesMesh before.out after.out text) c.in_default-written.is c.write_out-out.ensures in
    let reported = at_report_of asked before after p c.in-Ok-outputs_of.outputs.points c.in-Ok-outputs_of.outputs.faces at c.in-Ok-outputs_of.ensures.points c.in-Ok-outputs_of.ensures.faces wrote in
    is_done_of asked before after p c.in-Ok-outputs_of.outputs.report reported c.in-Ok-outputs_of.ensures.report
    (subst (WritesReport before.report after.report c.in-Ok-outputs_of.outputs.report) c.in_default-written-2.is c.write_report-report.ensures)
