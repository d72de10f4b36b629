-- The phase that writes the report.
use Rattle.std.specs.Prelude.{ℕ, List, ◌++◌, Result, Ok, Err}
use Rattle.mesh_data.specs.Work.{Played}
use Rattle.commit_journal.specs.Text.{journal_text}
use Rattle.oemm_run.specs.declared.end.End.{End}
use Rattle.oemm_run.specs.declared.end.End.TheVariants.{WriteReport}
use Rattle.oemm_run.specs.Outside.{Output, Wrote, FailedIn}
use Rattle.oemm_run.specs.Report.{summary}

-- the journal's text, and the summary of the mesh
abbrev pub report_text : Played → List ℕ
report_text p = journal_text 0 p.journal ++ summary p.mesh

-- the sink failed in this text
abbrev pub ReportStops : Output → Output → List ℕ → End → Type 0
ReportStops before after text WriteReport = FailedIn before after text
ReportStops before after text end = ⊥

-- what the phase gives: the text is written, or the end at which it stops
abbrev pub WritesReport : {A E : Type 0} → Output → Output → List ℕ → Result A E → Type 0
WritesReport before after text (Ok done) = Wrote before after text
WritesReport before after text (Err failed) = ReportStops before after text WriteReport
