-- The leaves of an octree over points, lists of cells that tile the cube, and the homes of points.
use Rattle.std.specs.Prelude.{◌≡◌, ◌<◌, ◌^◌, true, ℕ, zero, suc, ◌+◌, ◌*◌, Bool, ◌==◌, nat_lt, List, [], ◌∷◌, ◌++◌, ◌⊎◌, if◌then◌else◌}
use Rattle.std.specs.List.{flat_map, count_by, position_or_len, list_any}
use Rattle.oemm_limits.specs.declared.TheConstants.{MOST_DEPTH}
use Rattle.oemm_octree.specs.declared.points.Point.{Point}
use Rattle.oemm_octree.specs.declared.cells.Cell.{Cell}
use Rattle.oemm_octree.specs.Octree.{cell_holds, root_cell}

-- the eighth of a cell in the lower half (0) or the upper half (1) of each axis
abbrev pub octant : Cell → ℕ → ℕ → ℕ → Cell
octant c x y z = record { depth = c.depth + 1; x = 2 * c.x + x; y = 2 * c.y + y; z = 2 * c.z + z }

-- the eight octants of a cell in their order: x changes first, then y, then z
abbrev pub octants : Cell → List Cell
octants c =
    octant c 0 0 0 ∷ octant c 1 0 0 ∷ octant c 0 1 0 ∷ octant c 1 1 0
    ∷ octant c 0 0 1 ∷ octant c 1 0 1 ∷ octant c 0 1 1 ∷ octant c 1 1 1 ∷ []

-- the leaves of a cell, depth first, where a test says which cells are split, so many times in a row at most
unfoldable pub cells_by : (Cell → Bool) → ℕ → Cell → List Cell
cells_by splits zero c = c ∷ []
cells_by splits (suc n) c = if splits c then flat_map (cells_by splits n) (octants c) else c ∷ []

-- the cell holds more than cap of the points
abbrev pub is_crowded : List Point → ℕ → Cell → Bool
is_crowded points cap c = nat_lt cap (count_by (cell_holds c) points)

-- the leaves over points: a cell that holds more than cap of them is split, down to the greatest depth
abbrev pub leaves : List Point → ℕ → List Cell
leaves points cap = cells_by (is_crowded points cap) MOST_DEPTH root_cell

-- the list is made up of lists that tile these cells, one after another
abbrev pub TileEach : (Cell → List Cell → Type 0) → List Cell → List Cell → Type 0
TileEach Tile [] cells = cells ≡ []
TileEach Tile (c ∷ cs) cells =
    (front : List Cell) × (rest : List Cell) × Tile c front × TileEach Tile cs rest × (cells ≡ front ++ rest)

-- the cells tile a cell, depth first: they are this cell alone, or they tile its octants, so many times in a row at most
unfoldable pub Tile : ℕ → Cell → List Cell → Type 0
Tile zero c cells = cells ≡ c ∷ []
Tile (suc n) c cells = (cells ≡ c ∷ []) ⊎ TileEach (Tile n) (octants c) cells

-- the cells tile the cube
abbrev pub AreTiles : List Cell → Type 0
AreTiles cells = Tile MOST_DEPTH root_cell cells

-- the home of a point: the place of the first cell that holds it, and the number of cells where none does
abbrev pub home : List Cell → Point → ℕ
home cells p = position_or_len (λ c. cell_holds c p) cells

-- n is one of these
abbrev pub is_one_of : List ℕ → ℕ → Bool
is_one_of ns n = list_any (λ m. n == m) ns

-- each of these leaves is one of so many
abbrev pub AreBelow : ℕ → List ℕ → Type 0
AreBelow n ls = (l : ℕ) → is_one_of ls l ≡ true → l < n

-- the point's home is one of these leaves
abbrev pub in_core : List Cell → List ℕ → Point → Bool
in_core cells core p = is_one_of core (home cells p)

-- the cell's places are those of its depth
abbrev pub IsPlaced : Cell → Type 0
IsPlaced c = (c.x < 2 ^ c.depth) × (c.y < 2 ^ c.depth) × (c.z < 2 ^ c.depth)
