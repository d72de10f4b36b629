-- The phase that makes the start mesh and audits it.
use Rattle.std.specs.Prelude.{◌≡◌, Result, Ok, Err, ⊤}
use Rattle.mesh_data.specs.declared.geometry.Soup.{Soup}
use Rattle.mesh_data.specs.declared.shapes.Audit.TheVariants as audit
use Rattle.mesh_data.specs.Manifold.{IsManifold, Audits}
use Rattle.mesh_data.specs.Mesh.{Mesh, start}
use Rattle.oemm_run.specs.declared.phases.shape.ShapeFault.{ShapeFault}
use Rattle.oemm_run.specs.declared.phases.shape.ShapeFault.TheVariants as shape
use Rattle.oemm_run.specs.declared.end.End.{End}
use Rattle.oemm_run.specs.declared.end.End.TheVariants.{MeshShape, Memory}

-- the end that tells why a mesh can't be worked on
abbrev pub end_of_shape : ShapeFault → End
end_of_shape (shape.Bad what) = MeshShape what
end_of_shape shape.Memory = Memory

-- the start mesh is no manifold, and this is what its audit answers; or memory was wanting
abbrev pub ShapeStops : Soup → End → Type 0
ShapeStops s (MeshShape what) = Audits (start s) (audit.Bad what)
ShapeStops s Memory = ⊤
ShapeStops s end = ⊥

-- what the phase gives: the start mesh, which is a manifold, or the end at which it stops
abbrev pub MakesStart : Soup → Result Mesh ShapeFault → Type 0
MakesStart s (Ok m) = (m ≡ start s) × IsManifold (start s)
MakesStart s (Err fault) = ShapeStops s (end_of_shape fault)
