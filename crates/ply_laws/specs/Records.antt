-- Where the numbers of a record stand, and the list of its indices.
use Rattle.std.specs.Prelude.{◌≡◌, ℕ, ◌+◌, ℤ, List, [], ◌∷◌, Option, Some, None}
use Rattle.oemm_octree.specs.declared.points.Point.{Point}
use Rattle.ply_header.specs.declared.layout.Axis.{Axis}
use Rattle.ply_header.specs.declared.layout.Axis.TheVariants.{X, Y, Z}
use Rattle.ply_header.specs.declared.layout.Property.{Property}
use Rattle.ply_header.specs.declared.layout.Property.TheVariants.{Coordinate, Corners, Single, Many}
use Rattle.ply_header.specs.Layout.{size_of}

-- how many bytes a property has that is one number
abbrev pub width_of : Property → Option ℕ
width_of (Coordinate axis number) = Some (size_of number)
width_of (Single number) = Some (size_of number)
width_of (Corners count item) = None
width_of (Many count item) = None

-- each of these properties is one number, and together they have so many bytes
abbrev pub HaveWidth : List Property → ℕ → Type 0
HaveWidth [] n = n ≡ 0
HaveWidth (p ∷ ps) n = (k : ℕ) × (m : ℕ) × (width_of p ≡ Some k) × HaveWidth ps m × (n ≡ k + m)

-- the coordinate of a point along an axis
abbrev pub coordinate_along : Axis → Point → ℤ
coordinate_along X p = p.x
coordinate_along Y p = p.y
coordinate_along Z p = p.z
