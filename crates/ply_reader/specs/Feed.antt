-- The bytes behind the lines of a header, as they are taken from the source block by block.
use Rattle.std.specs.Prelude.{◌≡◌, ℕ, ◌+◌, ◌-◌, ◌≤◌, ◌<◌, List, [], ◌∷◌, ◌++◌, length, Option, Some, None, Result, Ok, Err, ⊤}
use Rattle.std.specs.Option.{option_map}
use Rattle.oemm_limits.specs.declared.TheConstants.{MOST_MESH_BYTES}
use Rattle.fault_counts.specs.Told.{Told}
use Rattle.oemm_lines.specs.Stream.{Stream, left_of}
use Rattle.mesh_items.specs.declared.items.MeshFault.{MeshFault}
use Rattle.mesh_items.specs.declared.items.MeshFault.TheVariants.{Read, Text, TooMany, Memory}
use Rattle.mesh_data.specs.declared.geometry.Tri.{Tri}
use Rattle.mesh_data.specs.Triangles.{IsProper, IsBelow}
use Rattle.ply_header.specs.declared.layout.Property.{Property}
use Rattle.ply_header.specs.declared.layout.Property.TheVariants.{Single}
use Rattle.ply_header.specs.Layout.{size_of}
use Rattle.ply_reader.specs.Body.{Rest, passed}

-- a stream of lines, and the raw bytes that were taken from it and not yet given
pub record Feed (S : Type 0) : Type 0 where
  pub stream : Stream S
  pub ahead : List ℕ

-- no fault was answered, and nothing past the limit was taken
abbrev pub IsOpen : {S : Type 0} → Feed S → Type 0
IsOpen f = (f.stream.fault ≡ None) × (f.stream.at ≤ MOST_MESH_BYTES)

abbrev pub rest_with : ℕ → List ℕ → List ℕ → Rest
rest_with at ahead bytes = record { at = at; bytes = ahead ++ bytes }

-- what is left, where the source tells its bytes
abbrev pub rest_left : {S : Type 0} → (S → Told) → Feed S → Option Rest
rest_left told f = option_map (rest_with (f.stream.at - length f.ahead) f.ahead) (left_of told f.stream)

-- a value and what is left behind it, and a fault in the place of both
abbrev pub found : {A : Type 0} → A → Rest → Result (A × Rest) MeshFault
found x r = Ok (x, r)

abbrev pub failed : {A : Type 0} → MeshFault → Rest → Result A MeshFault
failed fault r = Err fault

-- what is defined of the old rest is the fault, where it is one of the text
abbrev pub Fails : {A : Type 0} → (Rest → Result A MeshFault) → Option Rest → MeshFault → Option Rest → Type 0
Fails defined old Read new = ⊤
Fails defined old Memory new = ⊤
Fails defined old (Text at why) new = option_map defined old ≡ option_map (failed (Text at why)) new
Fails defined old (TooMany what count) new = option_map defined old ≡ option_map (failed (TooMany what count)) new

-- a call found what is defined of the old rest, and left the new one
abbrev pub Finds : {A : Type 0} → (Rest → Result (A × Rest) MeshFault) → Option Rest → Result A MeshFault → Option Rest → Type 0
Finds defined old (Ok x) new = option_map defined old ≡ option_map (found x) new
Finds defined old (Err fault) new = Fails defined old fault new

-- a call passed over what is defined of the old rest, and left the new one
abbrev pub Passes : {A : Type 0} → (Rest → Result Rest MeshFault) → Option Rest → Result A MeshFault → Option Rest → Type 0
Passes defined old (Ok x) new = option_map defined old ≡ option_map Ok new
Passes defined old (Err fault) new = Fails defined old fault new

-- a face of different names below this
abbrev pub IsFaceBelow : ℕ → Tri → Type 0
IsFaceBelow n t = IsProper t × IsBelow n t

-- the rest is as it was, or what is defined of it is a fault
abbrev pub Stays : {A B : Type 0} → (Rest → Result A MeshFault) → Option Rest → Result B MeshFault → Option Rest → Type 0
Stays defined old (Ok x) new = new ≡ old
Stays defined old (Err fault) new = Fails defined old fault new

-- the fault that stands where more bytes are needed than these
abbrev pub FailsBeyond : ℕ → Option Rest → MeshFault → Option Rest → Type 0
FailsBeyond have old fault new = (n : ℕ) → have < n → Fails (passed n) old fault new

-- how many bytes properties have behind so many, where each of them is a number that isn't looked at
unfoldable pub fixed_from : ℕ → List Property → Option ℕ
fixed_from n [] = Some n
fixed_from n (Single number ∷ ps) = fixed_from (n + size_of number) ps
fixed_from n (p ∷ ps) = None
