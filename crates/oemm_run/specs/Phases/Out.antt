-- The phase that writes the mesh.
use Rattle.std.specs.Prelude.{◌≡◌, ℕ, List, Result, Ok, Err}
use Rattle.mesh_out.specs.declared.form.OutFault.{OutFault}
use Rattle.mesh_out.specs.declared.form.OutFault.TheVariants as out
use Rattle.oemm_run.specs.declared.end.End.{End}
use Rattle.oemm_run.specs.declared.end.End.TheVariants.{WriteOut, Memory}
use Rattle.oemm_run.specs.Outside.{Output, Wrote, FailedIn}

-- the end that tells why a mesh can't be written
abbrev pub end_of_out : OutFault → End
end_of_out out.Write = WriteOut
end_of_out out.Memory = Memory

-- the sink failed in this text, or memory was wanting before its first byte
abbrev pub OutStops : Output → Output → List ℕ → End → Type 0
OutStops before after text WriteOut = FailedIn before after text
OutStops before after text Memory = after ≡ before
OutStops before after text end = ⊥

-- what the phase gives: the text is written, or the end at which it stops
abbrev pub WritesMesh : {A : Type 0} → Output → Output → List ℕ → Result A OutFault → Type 0
WritesMesh before after text (Ok done) = Wrote before after text
WritesMesh before after text (Err fault) = OutStops before after text (end_of_out fault)
