-- The octree over the cube of the grid, whose coordinates are -32768 to 32767 along each axis.
use Rattle.std.specs.Prelude.{◌≡◌, ℕ, ◌≤◌, ◌+◌, ◌-◌, ◌*◌, ◌/◌, ◌^◌, Bool, true, ◌&&◌, ◌==◌, nat_le, int_le, ℤ, pos, negsuc, ◌+ℤ◌, ◌≤ℤ◌, ◌<ℤ◌, List, [], ◌∷◌, if◌then◌else◌, slice_get}
use Rattle.std.specs.List.{All, list_any, filter_map}
use Rattle.oemm_limits.specs.declared.TheConstants.{MOST_DEPTH}
use Rattle.oemm_octree.specs.declared.points.Point.{Point}
use Rattle.oemm_octree.specs.declared.cells.Cell.{Cell}

-- a number that is a coordinate of the grid
abbrev pub on_grid : ℤ → Bool
on_grid n = int_le (negsuc 32767) n && int_le n (pos 32767)

-- a point of the grid
abbrev pub IsOnGrid : Point → Type 0
IsOnGrid p = (on_grid p.x ≡ true) × (on_grid p.y ≡ true) × (on_grid p.z ≡ true)

-- no coordinate of the first point is above that of the second
abbrev pub IsAtMost : Point → Point → Type 0
IsAtMost p q = (p.x ≤ℤ q.x) × (p.y ≤ℤ q.y) × (p.z ≤ℤ q.z)

-- the coordinate is one of those of the part at this place: the parts have 2^(16 - depth) coordinates each, one part after
-- another from the low end of the axis
abbrev pub IsInPart : ℕ → ℕ → ℤ → Type 0
IsInPart depth place n = (pos (place * 2 ^ (16 - depth)) ≤ℤ (n +ℤ pos 32768)) × ((n +ℤ pos 32768) <ℤ pos ((place + 1) * 2 ^ (16 - depth)))

-- how far a coordinate lies above the low end of its axis
unfoldable pub from_low : ℤ → ℕ
from_low (pos n) = n + 32768
from_low (negsuc n) = 32767 - n

-- cells that an octree can have
abbrev pub AreCells : List Cell → Type 0
AreCells cells = All (λ c. c.depth ≤ MOST_DEPTH) cells

-- the place, among the 2^depth parts of an axis, of the part that has the coordinate
unfoldable pub place_at : ℕ → ℤ → ℕ
place_at depth n = from_low n / 2 ^ (16 - depth)

-- the point lies in the cell
abbrev pub cell_holds : Cell → Point → Bool
cell_holds c p = (place_at c.depth p.x == c.x) && (place_at c.depth p.y == c.y) && (place_at c.depth p.z == c.z)

-- the part of an axis at this place has a coordinate from low to high
unfoldable pub is_between : ℕ → ℤ → ℤ → ℕ → Bool
is_between depth low high place =
    int_le low high && nat_le (place_at depth low) place && nat_le place (place_at depth high)

-- the cell has a point of the closed box
abbrev pub cell_meets : Point → Point → Cell → Bool
cell_meets low high c = is_between c.depth low.x high.x c.x && is_between c.depth low.y high.y c.y && is_between c.depth low.z high.z c.z

-- the places, counted from n, of the cells that pass the test
abbrev pub leaves_from : ℕ → (Cell → Bool) → List Cell → List ℕ
leaves_from n test [] = []
leaves_from n test (c ∷ cs) = if test c then n ∷ leaves_from (n + 1) test cs else leaves_from (n + 1) test cs

-- the core of a closed box: the leaves whose cells meet it, ascending
abbrev pub core_of : List Cell → Point → Point → List ℕ
core_of cells low high = leaves_from 0 (cell_meets low high) cells

-- the cells of a core
abbrev pub area_of : List Cell → List ℕ → List Cell
area_of cells core = filter_map (slice_get cells) core

-- the point lies in one of these cells
abbrev pub is_inside : List Cell → Point → Bool
is_inside area p = list_any (λ c. cell_holds c p) area

-- the whole cube, as an octree of one leaf
abbrev pub root_cell : Cell
root_cell = record { depth = 0; x = 0; y = 0; z = 0 }
