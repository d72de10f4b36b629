-- A failure of lines that is told on as one of the mesh, and calls over lines that follow one another.
use Rattle.std.proofs.Common.{◌≡◌, ℕ, Ok, Err, Result, inl, inr, refl, ap, ◌∙◌}
use Rattle.fault_counts.specs.Counts.{TellsFailure}
use Rattle.fault_counts.specs.Told.{Told, TakesSome}
use Rattle.fault_counts.proofs.InRow.{takes_some_more}
use Rattle.mesh_items.specs.declared.items.MeshFault.{MeshFault}
use Rattle.mesh_items.specs.declared.items.MeshFault.TheVariants.{Read}
use Rattle.oemm_lines.specs.declared.parts.LineFault.{LineFault}
use Rattle.oemm_lines.specs.declared.parts.LineFault.TheVariants as line
use Rattle.oemm_lines.specs.Stream.{Stream, UsesSource}
use Rattle.mesh_items.specs.Faults.{fault_of}

-- a call that answers Ok met no failure
pub none_failed : {T E : Type 0} (failed : E) (before now : ℕ) (x : T) → TellsFailure failed before now (Ok x) → now ≡ before
none_failed failed before now x tells = elim tells.calm [ inl is ↦ cc | inr same ↦ same ]

-- a call behind others that met no failure
pub uses_behind :
    {S T E : Type 0} (left : S → Told) (faults : S → ℕ) (failed : E) (old mid new : Stream S) (result : Result T E) →
    TakesSome (left old.source) (left mid.source) → faults mid.source ≡ faults old.source →
    UsesSource left faults failed mid new result → UsesSource left faults failed old new result
uses_behind left faults failed old mid new result taken same uses = record {
  source = takes_some_more (left old.source) (left mid.source) (left new.source) taken uses.source;
  cause = rw same at uses.cause;
}

-- a call behind one that answered Ok
pub uses_more :
    {S T U E : Type 0} (left : S → Told) (faults : S → ℕ) (failed : E) (old mid new : Stream S) (x : T) (result : Result U E) →
    UsesSource left faults failed old mid (Ok x) → UsesSource left faults failed mid new result →
    UsesSource left faults failed old new result
uses_more left faults failed old mid new x result first uses =
    uses_behind left faults failed old mid new result first.source
    (none_failed failed (faults old.source) (faults mid.source) x first.cause) uses

-- a fault of reading is one of the lines' source
read_by_source : (fault : LineFault) → fault_of fault ≡ Read → fault ≡ line.Read
read_by_source line.Read is = refl
read_by_source (line.TooLong at) is = cc
read_by_source (line.Bytes taken) is = cc
read_by_source line.Memory is = cc

-- the fault of the lines is told on
pub failure_told_on :
    {T U : Type 0} (before now : ℕ) (fault : LineFault) (answer : MeshFault) → answer ≡ fault_of fault →
    TellsFailure {T = T} line.Read before now (Err fault) → TellsFailure {T = U} Read before now (Err answer)
failure_told_on before now fault answer told tells = record {
  kept = tells.kept;
  cause = λ is.
      let read : fault_of fault ≡ Read = cc in
      tells.cause (ap Err (read_by_source fault read));
  calm = elim tells.calm [
    | inl is ↦
        let read : fault ≡ line.Read = cc in
        inl (ap Err (told ∙ ap fault_of read))
    | inr same ↦ inr same
  ];
}
