-- Numbers of cells in depth-first order.
use Rattle.std.specs.Prelude.{ℕ, zero, suc, ◌+◌, ◌*◌, ◌/◌, ◌%◌, Bool, nat_le}
use Rattle.oemm_octree.specs.declared.points.Point.{Point}
use Rattle.oemm_octree.specs.declared.cells.Cell.{Cell}
use Rattle.oemm_octree.specs.Octree.{place_at}

-- the number, depth first, of the cell at these places among all cells of its depth
unfoldable pub morton : ℕ → ℕ → ℕ → ℕ → ℕ
morton zero x y z = 0
morton (suc n) x y z = x % 2 + 2 * (y % 2) + 4 * (z % 2) + 8 * morton n (x / 2) (y / 2) (z / 2)

-- the cell's number among all cells of its depth
abbrev pub rank : Cell → ℕ
rank c = morton c.depth c.x c.y c.z

-- the number of the cell of this depth that holds the point
abbrev pub rank_at : ℕ → Point → ℕ
rank_at d p = morton d (place_at d p.x) (place_at d p.y) (place_at d p.z)

-- the cell holds the point or comes before the one that does
abbrev pub is_up_to : Cell → Point → Bool
is_up_to c p = nat_le (rank c) (rank_at c.depth p)
