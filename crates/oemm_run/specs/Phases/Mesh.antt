-- The phase that reads the mesh.
use Rattle.std.specs.Prelude.{◌≡◌, Result, Ok, Err, IfSome}
use Rattle.fault_counts.specs.Told.{TakesSome}
use Rattle.mesh_data.specs.declared.geometry.Soup.{Soup}
use Rattle.mesh_items.specs.declared.items.MeshFault.{MeshFault}
use Rattle.mesh_items.specs.declared.items.MeshFault.TheVariants as mesh
use Rattle.oemm_run.specs.declared.end.End.{End}
use Rattle.oemm_run.specs.declared.end.End.TheVariants.{ReadMesh, MeshText, Limit, Memory}
use Rattle.oemm_run.specs.Outside.{Input, HasFailed}
use Rattle.oemm_run.specs.Soup.{IsSoup, soup_of}

-- the end that tells why a mesh can't be read
abbrev pub end_of_mesh : MeshFault → End
end_of_mesh mesh.Read = ReadMesh
end_of_mesh (mesh.Text at why) = MeshText at why
end_of_mesh (mesh.TooMany what count) = Limit what count
end_of_mesh mesh.Memory = Memory

-- the mesh was read: its points and faces are within the limits, they are what the source's bytes say where they are
-- told, bytes were taken from the front of these, and the source hasn't failed
pub record HasMesh (before after : Input) (s : Soup) : Type 0 where
  pub ranges : IsSoup s
  pub told : IfSome before.left (λ bytes. soup_of bytes ≡ Ok s)
  pub taken : TakesSome before.left after.left
  pub calm : after.faults ≡ before.faults

-- the source's bytes have this fault first, where they are told, and the source hasn't failed
pub record HasMeshFault (before after : Input) (fault : MeshFault) : Type 0 where
  pub told : IfSome before.left (λ bytes. soup_of bytes ≡ Err fault)
  pub calm : after.faults ≡ before.faults

-- the cause of an end at this phase
abbrev pub MeshCause : Input → Input → End → Type 0
MeshCause before after ReadMesh = HasFailed before.faults after.faults
MeshCause before after (MeshText at why) = HasMeshFault before after (mesh.Text at why)
MeshCause before after (Limit what count) = HasMeshFault before after (mesh.TooMany what count)
MeshCause before after Memory = after.faults ≡ before.faults
MeshCause before after end = ⊥

-- the mesh wasn't read, and bytes were taken from the front of the source's
pub record MeshStops (before after : Input) (end : End) : Type 0 where
  pub taken : TakesSome before.left after.left
  pub cause : MeshCause before after end

-- what the phase gives: the mesh, or the end at which it stops
abbrev pub ReadsMesh : Input → Input → Result Soup MeshFault → Type 0
ReadsMesh before after (Ok s) = HasMesh before after s
ReadsMesh before after (Err fault) = MeshStops before after (end_of_mesh fault)
