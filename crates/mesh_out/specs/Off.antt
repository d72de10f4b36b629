-- The lines of an OFF text.
use Rattle.std.specs.Prelude.{ℕ, List, [], ◌∷◌, ◌++◌, codes}
use Rattle.std.specs.Fmt.{decimal, signed_decimal}
use Rattle.oemm_lists.specs.TextLine.{line}
use Rattle.oemm_octree.specs.declared.points.Point.{Point}
use Rattle.mesh_data.specs.declared.geometry.Tri.{Tri}

-- the line OFF, and the line of the numbers of points, of faces and of edges, which stands as 0
abbrev pub off_head : ℕ → ℕ → List ℕ
off_head points faces = line (codes "OFF" ∷ []) ++ line (decimal points ∷ decimal faces ∷ codes "0" ∷ [])

-- a point's three coordinates
abbrev pub point_line : Point → List ℕ
point_line p = line (signed_decimal p.x ∷ signed_decimal p.y ∷ signed_decimal p.z ∷ [])

-- a face's number of corners, and its three indices
abbrev pub face_line : Tri → List ℕ
face_line t = line (codes "3" ∷ decimal t.a ∷ decimal t.b ∷ decimal t.c ∷ [])
