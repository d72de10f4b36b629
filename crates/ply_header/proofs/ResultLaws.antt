use Rattle.std.proofs.Common.{◌≡◌, Result, Err}
use Rattle.mesh_items.specs.declared.items.MeshFault.{MeshFault}
use Rattle.mesh_items.specs.declared.items.MeshFault.TheVariants.{Read, Text, TooMany, Memory}
use Rattle.mesh_items.specs.Results.{IsOfText}
use Rattle.ply_header.specs.Results.{Answers}

-- a fault of the text that is defined is answered
pub answers_exact : {A : Type 0} (defined : Result A MeshFault) (fault : MeshFault) → IsOfText fault → defined ≡ Err fault → Answers defined (Err fault)
answers_exact defined Read text exact = text
answers_exact defined (Text at why) text exact = exact
answers_exact defined (TooMany what count) text exact = exact
answers_exact defined Memory text exact = absurd text
