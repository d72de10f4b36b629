-- What each phase's ends say of what its source tells.
use Rattle.std.proofs.Common.{◌≡◌, ℕ, List, Option, Some, None, Result, Ok, Err, IfSome, refl, subst, sym, ap, inl, inr, arith}
use Rattle.fault_counts.specs.Counts.{Rose, IsCalm}
use Rattle.fault_counts.specs.Told.{Told}
use Rattle.mesh_data.specs.declared.geometry.Soup.{Soup}
use Rattle.mesh_data.specs.declared.edits.Task.{Task}
use Rattle.mesh_data.specs.declared.shapes.Shape.{Shape}
use Rattle.mesh_data.specs.declared.shapes.Audit.TheVariants as audit
use Rattle.mesh_items.specs.declared.items.MeshFault.{MeshFault}
use Rattle.mesh_items.specs.declared.items.MeshFault.TheVariants as mesh
use Rattle.mesh_data.specs.Manifold.{IsManifold, Audits}
use Rattle.mesh_data.specs.Mesh.{start}
use Rattle.mesh_model.proofs.Audits.{one_shape, no_shape}
use Rattle.edit_script.specs.declared.fault.ScriptFault.{ScriptFault}
use Rattle.edit_script.specs.declared.fault.ScriptFault.TheVariants as script
use Rattle.edit_script.specs.Grammar.{script_of}
use Rattle.oemm_run.specs.declared.end.End.{End}
use Rattle.oemm_run.specs.declared.end.End.TheVariants.{Done, Usage, ReadMesh, ReadScript, MeshText, MeshShape, ScriptText, WriteOut, WriteReport, Limit, Memory}
use Rattle.oemm_run.specs.Laws.Ends.{EndsAs}
use Rattle.oemm_run.specs.Outside.{Input, Output}
use Rattle.oemm_run.specs.Phases.Mesh.{end_of_mesh, HasMesh, HasMeshFault, MeshCause}
use Rattle.oemm_run.specs.Phases.Shape.{ShapeStops}
use Rattle.oemm_run.specs.Phases.Script.{end_of_script, HasScript, HasScriptFault, ScriptCause}
use Rattle.oemm_run.specs.Phases.Tasks.{TasksStop}
use Rattle.oemm_run.specs.Phases.Out.{OutStops}
use Rattle.oemm_run.specs.Phases.Report.{ReportStops}
use Rattle.oemm_run.specs.Soup.{soup_of}

-- a source that tells its bytes tells what they lead to
pub at_bytes : (told : Told) (bytes : List ℕ) (P : List ℕ → Type 0) → told ≡ Some bytes → IfSome told P → P bytes
at_bytes told bytes P e h = subst (λ o. IfSome o P) e h

calm_rises : (before now : ℕ) → IsCalm before now → Rose before now → ⊥
calm_rises before now calm rose = omega (arith, calm.0, calm.1, rose)

clash : {A E : Type 0} (r : Result A E) (x : A) (e : E) → r ≡ Ok x → r ≡ Err e → ⊥
clash r x e p q = cc

one_answer : {A E : Type 0} (r : Result A E) (x y : A) → r ≡ Ok x → r ≡ Ok y → x ≡ y
one_answer r x y p q = cc

one_fault : {A E : Type 0} (r : Result A E) (x y : E) → r ≡ Err x → r ≡ Err y → x ≡ y
one_fault r x y p q = cc

-- ---- the mesh

module _ (before after : Input) (bytes : List ℕ) (told : before.left ≡ Some bytes) where
  -- a mesh that was read is the one that is told
  pub same_soup : (s t : Soup) → soup_of bytes ≡ Ok s → HasMesh before after t → t ≡ s
  same_soup s t good has = one_answer (soup_of bytes) t s (at_bytes before.left bytes (λ b. soup_of b ≡ Ok t) told has.told) good

  -- one that has a fault wasn't read
  pub not_read : (fault : MeshFault) (s : Soup) → soup_of bytes ≡ Err fault → HasMesh before after s → ⊥
  not_read fault s bad has = clash (soup_of bytes) s fault (at_bytes before.left bytes (λ b. soup_of b ≡ Ok s) told has.told) bad

  no_fault : (s : Soup) (fault : MeshFault) → soup_of bytes ≡ Ok s → HasMeshFault before after fault → ⊥
  no_fault s fault good has = clash (soup_of bytes) s fault good (at_bytes before.left bytes (λ b. soup_of b ≡ Err fault) told has.told)

  this_fault : (fault f : MeshFault) → soup_of bytes ≡ Err fault → HasMeshFault before after f → f ≡ fault
  this_fault fault f bad has = one_fault (soup_of bytes) f fault (at_bytes before.left bytes (λ b. soup_of b ≡ Err f) told has.told) bad

  -- where the mesh is good and its source doesn't fail, the phase stops for want of memory alone
  pub mesh_good : (s : Soup) (end : End) → soup_of bytes ≡ Ok s → IsCalm before.faults after.faults → MeshCause before after end → end ≡ Memory
  mesh_good s ReadMesh good calm cause = absurd (calm_rises _ _ calm cause.rose)
  mesh_good s (MeshText at why) good calm cause = absurd (no_fault s (mesh.Text at why) good cause)
  mesh_good s (Limit what count) good calm cause = absurd (no_fault s (mesh.TooMany what count) good cause)
  mesh_good s Memory good calm cause = refl
  mesh_good s _ good calm cause = absurd cause

  -- where it has a fault, and its source doesn't fail, the phase tells that fault
  pub mesh_bad : (fault : MeshFault) (end : End) → soup_of bytes ≡ Err fault → IsCalm before.faults after.faults → MeshCause before after end → EndsAs (end_of_mesh fault) end
  mesh_bad fault ReadMesh bad calm cause = absurd (calm_rises _ _ calm cause.rose)
  mesh_bad fault (MeshText at why) bad calm cause = inl (ap end_of_mesh (this_fault fault (mesh.Text at why) bad cause))
  mesh_bad fault (Limit what count) bad calm cause = inl (ap end_of_mesh (this_fault fault (mesh.TooMany what count) bad cause))
  mesh_bad fault Memory bad calm cause = inr refl
  mesh_bad fault _ bad calm cause = absurd cause

-- ---- the shape

-- on a manifold the phase stops for want of memory alone
pub shape_good : (s : Soup) (end : End) → IsManifold (start s) → ShapeStops s end → end ≡ Memory
shape_good s (MeshShape shape) good stops = absurd (no_shape (start s) shape good stops)
shape_good s Memory good stops = refl
shape_good s _ good stops = absurd stops

-- on another mesh it tells what keeps it from being one
pub shape_bad : (s : Soup) (shape : Shape) (end : End) → Audits (start s) (audit.Bad shape) → ShapeStops s end → EndsAs (MeshShape shape) end
shape_bad s shape (MeshShape other) bad stops = inl (ap (λ (x : Shape). MeshShape x) (one_shape (start s) other shape stops bad))
shape_bad s shape Memory bad stops = inr refl
shape_bad s shape _ bad stops = absurd stops

-- ---- the script

module _ (before after : Input) (bytes : List ℕ) (told : before.left ≡ Some bytes) where
  -- a script that has a fault wasn't read
  pub not_read_script : (fault : ScriptFault) (tasks : List Task) → script_of bytes ≡ Err fault → HasScript before after tasks → ⊥
  not_read_script fault tasks bad has = clash (script_of bytes) tasks fault (at_bytes before.left bytes (λ b. script_of b ≡ Ok tasks) told has.told) bad

  no_script_fault : (tasks : List Task) (fault : ScriptFault) → script_of bytes ≡ Ok tasks → HasScriptFault before after fault → ⊥
  no_script_fault tasks fault good has = clash (script_of bytes) tasks fault good (at_bytes before.left bytes (λ b. script_of b ≡ Err fault) told has.told)

  this_script_fault : (fault f : ScriptFault) → script_of bytes ≡ Err fault → HasScriptFault before after f → f ≡ fault
  this_script_fault fault f bad has = one_fault (script_of bytes) f fault (at_bytes before.left bytes (λ b. script_of b ≡ Err f) told has.told) bad

  -- where the script is good and its source doesn't fail, the phase stops for want of memory alone
  pub script_good : (tasks : List Task) (end : End) → script_of bytes ≡ Ok tasks → IsCalm before.faults after.faults → ScriptCause before after end → end ≡ Memory
  script_good tasks ReadScript good calm cause = absurd (calm_rises _ _ calm cause.rose)
  script_good tasks (ScriptText line why) good calm cause = absurd (no_script_fault tasks (script.Syntax line why) good cause)
  script_good tasks (Limit what count) good calm cause = absurd (no_script_fault tasks (script.TooMany what count) good cause)
  script_good tasks Memory good calm cause = refl
  script_good tasks _ good calm cause = absurd cause

  -- where it has a fault, and its source doesn't fail, the phase tells that fault
  pub script_bad : (fault : ScriptFault) (end : End) → script_of bytes ≡ Err fault → IsCalm before.faults after.faults → ScriptCause before after end → EndsAs (end_of_script fault) end
  script_bad fault ReadScript bad calm cause = absurd (calm_rises _ _ calm cause.rose)
  script_bad fault (ScriptText line why) bad calm cause = inl (ap end_of_script (this_script_fault fault (script.Syntax line why) bad cause))
  script_bad fault (Limit what count) bad calm cause = inl (ap end_of_script (this_script_fault fault (script.TooMany what count) bad cause))
  script_bad fault Memory bad calm cause = inr refl
  script_bad fault _ bad calm cause = absurd cause

-- ---- tasks, out and report

-- the tasks stop for want of memory alone
pub tasks_good : (end : End) → TasksStop end → end ≡ Memory
tasks_good Memory stops = refl
tasks_good _ stops = absurd stops

-- where the sink doesn't fail, writing the mesh stops for want of memory alone
pub out_good : (before after : Output) (text : List ℕ) (end : End) → IsCalm before.faults after.faults → OutStops before after text end → end ≡ Memory
out_good before after text WriteOut calm stops = absurd (calm_rises _ _ calm stops.cause.rose)
out_good before after text Memory calm stops = refl
out_good before after text _ calm stops = absurd stops

-- the report's sink has failed
pub report_bad : (before after : Output) (text : List ℕ) (end : End) → ReportStops before after text end → end ≡ WriteReport
report_bad before after text WriteReport stops = refl
report_bad before after text _ stops = absurd stops

-- and then it isn't calm
pub report_calm : (before after : Output) (text : List ℕ) (end : End) → IsCalm before.faults after.faults → ReportStops before after text end → ⊥
report_calm before after text end calm stops =
    let failed = subst (ReportStops before after text) (report_bad before after text end stops) stops in
    calm_rises _ _ calm failed.cause.rose
