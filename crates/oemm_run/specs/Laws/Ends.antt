-- When each end comes, unless memory is wanting.
use Rattle.std.specs.Prelude.{◌≡◌, ℕ, ◌≤◌, ◌⊎◌, List, Some, None, Ok, Err, IsSome}
use Rattle.fault_counts.specs.Counts.{Rose, IsCalm}
use Rattle.mesh_data.specs.declared.geometry.Soup.{Soup}
use Rattle.mesh_data.specs.declared.edits.Task.{Task}
use Rattle.mesh_data.specs.declared.shapes.Shape.{Shape}
use Rattle.mesh_data.specs.declared.shapes.Audit.TheVariants as audit
use Rattle.mesh_items.specs.declared.items.MeshFault.{MeshFault}
use Rattle.mesh_data.specs.Manifold.{IsManifold, Audits}
use Rattle.mesh_data.specs.Mesh.{start}
use Rattle.edit_script.specs.declared.fault.ScriptFault.{ScriptFault}
use Rattle.edit_script.specs.Grammar.{script_of}
use Rattle.oemm_run.specs.declared.end.End.{End}
use Rattle.oemm_run.specs.declared.end.End.TheVariants.{Done, Usage, ReadMesh, ReadScript, MeshShape, WriteOut, WriteReport, Memory}
use Rattle.oemm_run.specs.Outside.{Outside, AllCalm}
use Rattle.oemm_run.specs.Phases.Mesh.{end_of_mesh}
use Rattle.oemm_run.specs.Phases.Script.{end_of_script}
use Rattle.oemm_run.specs.Soup.{soup_of}
use Rattle.oemm_words.specs.Words.{order_of}

-- the command ended so, or for want of memory
abbrev pub EndsAs : End → End → Type 0
EndsAs expected end = (end ≡ expected) ⊎ (end ≡ Memory)

-- the words ask for a run
abbrev pub AreRun : List (List ℕ) → Type 0
AreRun words = IsSome (order_of words)

-- the words ask for a run, and the mesh's source tells its bytes, which are those of these points and faces
pub record HasReadMesh (words : List (List ℕ)) (before : Outside) (s : Soup) : Type 0 where
  pub run : AreRun words
  pub bytes : List ℕ
  pub told : before.mesh.left ≡ Some bytes
  pub soup : soup_of bytes ≡ Ok s

-- besides, they are those of a manifold
pub record HasGoodMesh (words : List (List ℕ)) (before : Outside) (s : Soup) : Type 0 where
  pub read : HasReadMesh words before s
  pub manifold : IsManifold (start s)

-- besides, the script's source tells its bytes, which are those of these tasks
pub record HasGoodInput (words : List (List ℕ)) (before : Outside) (s : Soup) (tasks : List Task) : Type 0 where
  pub mesh : HasGoodMesh words before s
  pub bytes : List ℕ
  pub told : before.script.left ≡ Some bytes
  pub script : script_of bytes ≡ Ok tasks

-- where the input is good and nothing fails, all is done
abbrev pub IsComplete : List (List ℕ) → Outside → Outside → End → Type 0
IsComplete words before after end =
    (s : Soup) (tasks : List Task) → HasGoodInput words before s tasks → AllCalm before after → EndsAs Done end

-- words in no form are told, and no others are
pub record TellsUsage (words : List (List ℕ)) (end : End) : Type 0 where
  pub told : order_of words ≡ None → EndsAs Usage end
  pub only : end ≡ Usage → order_of words ≡ None

-- the first fault of the mesh's text is told, unless its source fails
abbrev pub TellsMeshFault : List (List ℕ) → Outside → Outside → End → Type 0
TellsMeshFault words before after end =
    (bytes : List ℕ) (fault : MeshFault) → AreRun words → before.mesh.left ≡ Some bytes → soup_of bytes ≡ Err fault
    → IsCalm before.mesh.faults after.mesh.faults → EndsAs (end_of_mesh fault) end

-- what keeps the mesh from being a manifold is told, unless its source fails
abbrev pub TellsShape : List (List ℕ) → Outside → Outside → End → Type 0
TellsShape words before after end =
    (s : Soup) (shape : Shape) → HasReadMesh words before s → Audits (start s) (audit.Bad shape)
    → IsCalm before.mesh.faults after.mesh.faults → EndsAs (MeshShape shape) end

-- the first fault of the script's text is told, unless a source fails
abbrev pub TellsScriptFault : List (List ℕ) → Outside → Outside → End → Type 0
TellsScriptFault words before after end =
    (s : Soup) (bytes : List ℕ) (fault : ScriptFault) → HasGoodMesh words before s → before.script.left ≡ Some bytes
    → script_of bytes ≡ Err fault → IsCalm before.mesh.faults after.mesh.faults
    → IsCalm before.script.faults after.script.faults → EndsAs (end_of_script fault) end

-- a failure of the object is told as this end and as no other: its count rose where the command ended so, and else it
-- stands as it was
pub record TellsAs (failed : End) (before now : ℕ) (end : End) : Type 0 where
  pub kept : before ≤ now
  pub cause : end ≡ failed → Rose before now
  pub calm : (end ≡ failed) ⊎ (now ≡ before)

-- no failure is swallowed, and none is made up
pub record TellsFailures (before after : Outside) (end : End) : Type 0 where
  pub mesh : TellsAs ReadMesh before.mesh.faults after.mesh.faults end
  pub script : TellsAs ReadScript before.script.faults after.script.faults end
  pub out : TellsAs WriteOut before.out.faults after.out.faults end
  pub report : TellsAs WriteReport before.report.faults after.report.faults end
