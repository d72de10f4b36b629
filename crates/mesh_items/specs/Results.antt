-- Steps that give a value or a fault of a mesh.
use Rattle.std.specs.Prelude.{Result, Ok, Err, ⊤, Bool, if◌then◌else◌}
use Rattle.mesh_items.specs.declared.items.MeshFault.{MeshFault}
use Rattle.mesh_items.specs.declared.items.MeshFault.TheVariants.{Read, Text, TooMany, Memory}

infixl 10 ◌>>=◌
-- goes on with what was read, and stops at a fault
abbrev pub ◌>>=◌ : {A B : Type 0} → Result A MeshFault → (A → Result B MeshFault) → Result B MeshFault
(Ok x) >>= f = f x
(Err e) >>= f = Err e

-- the value, if the test holds, and else the fault
abbrev pub only_if : {A : Type 0} → Bool → A → MeshFault → Result A MeshFault
only_if test x fault = if test then Ok x else Err fault

-- a fault of the text, and not of its source or of memory
abbrev pub IsOfText : MeshFault → Type 0
IsOfText Read = ⊥
IsOfText (Text at why) = ⊤
IsOfText (TooMany what count) = ⊤
IsOfText Memory = ⊥
