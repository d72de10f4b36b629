-- What the phase of the mesh gives.
use Rattle.std.proofs.Common.{◌≡◌, ℕ, Result, Ok, Err, IfOk, IfSome, IsErrOf, refl, inl, inr}
use Rattle.fault_counts.specs.Counts.{TellsFailure}
use Rattle.mesh_data.specs.declared.geometry.Soup.{Soup}
use Rattle.mesh_items.specs.declared.items.MeshFault.{MeshFault}
use Rattle.mesh_items.specs.declared.items.MeshFault.TheVariants.{Read, Text, TooMany, Memory}
use Rattle.oemm_run.specs.Outside.{Input, HasTaken}
use Rattle.oemm_run.specs.Phases.Mesh.{ReadsMesh}
use Rattle.oemm_run.specs.Soup.{IsSoup, soup_of, GivesSoup}

-- a call that doesn't tell the failure leaves the count
pub calm_unless : {T E : Type 0} (failed : E) (before now : ℕ) (r : Result T E) → (r ≡ Err failed → ⊥) → TellsFailure failed before now r → now ≡ before
calm_unless failed before now r other tells =
    elim tells.calm as (λ v. now ≡ before) [ inl failure ↦ absurd (other failure) | inr same ↦ same ]

-- the points and faces that were taken, or the fault, are what the phase gives
pub reads_mesh : (before after : Input) (r : Result Soup MeshFault) → IfSome before.left (λ bytes. GivesSoup r (soup_of bytes)) → IfOk r IsSoup → HasTaken before.left after.left → TellsFailure Read before.faults after.faults r → ReadsMesh before after r
reads_mesh before after (Ok s) told ranges taken tells =
    record { ranges = ranges; told = told; taken = taken.some; calm = calm_unless Read _ _ (Ok s) (λ e. cc) tells }
reads_mesh before after (Err Read) told ranges taken tells = record { taken = taken.some; cause = record { kept = tells.kept; rose = tells.cause refl } }
reads_mesh before after (Err (Text at why)) told ranges taken tells =
    record { taken = taken.some; cause = record { told = told; calm = calm_unless Read _ _ (Err (Text at why)) (λ e. cc) tells } }
reads_mesh before after (Err (TooMany what count)) told ranges taken tells =
    record { taken = taken.some; cause = record { told = told; calm = calm_unless Read _ _ (Err (TooMany what count)) (λ e. cc) tells } }
reads_mesh before after (Err Memory) told ranges taken tells =
    record { taken = taken.some; cause = calm_unless Read _ _ (Err Memory) (λ e. cc) tells }
