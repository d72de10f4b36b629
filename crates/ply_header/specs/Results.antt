-- What a function answers that may lack memory.
use Rattle.std.specs.Prelude.{◌≡◌, Result, Ok, Err, ⊤}
use Rattle.mesh_items.specs.declared.items.MeshFault.{MeshFault}
use Rattle.mesh_items.specs.declared.items.MeshFault.TheVariants.{Read, Text, TooMany, Memory}

-- a function answers what is defined, or want of memory
abbrev pub Answers : {A : Type 0} → Result A MeshFault → Result A MeshFault → Type 0
Answers defined (Ok x) = defined ≡ Ok x
Answers defined (Err Read) = ⊥
Answers defined (Err Memory) = ⊤
Answers defined (Err (Text at why)) = defined ≡ Err (Text at why)
Answers defined (Err (TooMany what count)) = defined ≡ Err (TooMany what count)
