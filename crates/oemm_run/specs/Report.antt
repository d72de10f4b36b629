-- The last line of a report.
use Rattle.std.specs.Prelude.{ℕ, ℤ, List, ◌++◌, length, codes}
use Rattle.std.specs.Fmt.{decimal, signed_decimal}
use Rattle.std.specs.FinMap as finite
use Rattle.mesh_data.specs.Mesh.{Mesh, euler, border}

-- the line of these counts
abbrev pub summary_line : ℕ → ℕ → ℤ → ℕ → List ℕ
summary_line vertices faces euler_of border_count =
    codes "vertices " ++ decimal vertices ++ codes " faces " ++ decimal faces
    ++ codes " euler " ++ signed_decimal euler_of ++ codes " border " ++ decimal border_count ++ codes "\n"

-- the line of a mesh's counts
abbrev pub summary : Mesh → List ℕ
summary m = summary_line (finite.len m.vertices) (length m.tris) (euler m) (length (border m))
