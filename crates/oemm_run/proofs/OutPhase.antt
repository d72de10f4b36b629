-- What the phases that write give.
use Rattle.std.proofs.Common.{◌≡◌, true, List, ℕ, Result, Ok, Err, OnOk, OnErr, refl}
use Rattle.fault_counts.specs.Counts.{HasCause, TellsFailure}
use Rattle.fault_counts.specs.Told.{Puts, PutsPrefix}
use Rattle.mesh_out.specs.declared.form.OutFault.{OutFault}
use Rattle.mesh_out.specs.declared.form.OutFault.TheVariants.{Write, Memory}
use Rattle.oemm_io.specs.Whole.{StaysOpen}
use Rattle.oemm_run.specs.Outside.{Output}
use Rattle.oemm_run.specs.Phases.Out.{WritesMesh}
use Rattle.oemm_run.specs.Phases.Report.{WritesReport}
use Rattle.oemm_run.proofs.MeshPhase.{calm_unless}

-- the text that was written, or the fault, is what the phase gives
pub writes_mesh : {A : Type 0} (before after : Output) (text : List ℕ) (r : Result A OutFault) → OnOk r (Puts before.written after.written text) → OnOk r (after.finished ≡ true) → OnErr r (StaysOpen before.finished after.finished) → PutsPrefix before.written after.written text → TellsFailure Write before.faults after.faults r → (r ≡ Err Memory → after ≡ before) → WritesMesh before after text r
writes_mesh before after text (Ok done) puts finished stays front tells same =
    record { whole = puts; finished = finished; calm = calm_unless Write _ _ (Ok done) (λ e. cc) tells }
writes_mesh before after text (Err Write) puts finished stays front tells same =
    record { cause = record { kept = tells.kept; rose = tells.cause refl }; front = front; unfinished = stays }
writes_mesh before after text (Err Memory) puts finished stays front tells same = same refl

pub writes_report : {A E : Type 0} (before after : Output) (text : List ℕ) (r : Result A E) → OnOk r (Puts before.written after.written text) → OnOk r (after.finished ≡ true) → OnErr r (StaysOpen before.finished after.finished) → PutsPrefix before.written after.written text → HasCause before.faults after.faults r → WritesReport before after text r
writes_report before after text (Ok done) puts finished stays front has =
    record { whole = puts; finished = finished; calm = has.calm }
writes_report before after text (Err failed) puts finished stays front has =
    record { cause = record { kept = has.kept; rose = has.cause }; front = front; unfinished = stays }
