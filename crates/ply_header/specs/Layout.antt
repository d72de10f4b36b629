-- The types of numbers of a PLY file, and what they are called.
use Rattle.std.specs.Prelude.{ℕ, Bool, true, false, ◌||◌, List, codes, if◌then◌else◌, Option, Some, None}
use Rattle.std.specs.Str.{bytes_eq}
use Rattle.ply_header.specs.declared.layout.ScalarType.{ScalarType}
use Rattle.ply_header.specs.declared.layout.ScalarType.TheVariants.{I8, U8, I16, U16, I32, U32, F32, F64}
use Rattle.ply_header.specs.declared.layout.Axis.{Axis}
use Rattle.ply_header.specs.declared.layout.Axis.TheVariants.{X, Y, Z}

-- how many bytes a number has
abbrev pub size_of : ScalarType → ℕ
size_of I8 = 1
size_of U8 = 1
size_of I16 = 2
size_of U16 = 2
size_of I32 = 4
size_of U32 = 4
size_of F32 = 4
size_of F64 = 8

abbrev pub is_float : ScalarType → Bool
is_float F32 = true
is_float F64 = true
is_float number = false

-- whether the word is one of two
abbrev pub is_either : List ℕ → List ℕ → List ℕ → Bool
is_either word a b = bytes_eq word a || bytes_eq word b

-- the type that a word names
unfoldable pub scalar_named : List ℕ → Option ScalarType
scalar_named word =
    if is_either word (codes "char") (codes "int8") then Some I8
    else if is_either word (codes "uchar") (codes "uint8") then Some U8
    else if is_either word (codes "short") (codes "int16") then Some I16
    else if is_either word (codes "ushort") (codes "uint16") then Some U16
    else if is_either word (codes "int") (codes "int32") then Some I32
    else if is_either word (codes "uint") (codes "uint32") then Some U32
    else if is_either word (codes "float") (codes "float32") then Some F32
    else if is_either word (codes "double") (codes "float64") then Some F64
    else None

-- the direction whose coordinate a word names
unfoldable pub axis_named : List ℕ → Option Axis
axis_named name =
    if bytes_eq name (codes "x") then Some X
    else if bytes_eq name (codes "y") then Some Y
    else if bytes_eq name (codes "z") then Some Z
    else None

-- whether a word names the indices of a face
unfoldable pub names_corners : List ℕ → Bool
names_corners name = is_either name (codes "vertex_indices") (codes "vertex_index")

abbrev pub same_axis : Axis → Axis → Bool
same_axis X X = true
same_axis Y Y = true
same_axis Z Z = true
same_axis a b = false
