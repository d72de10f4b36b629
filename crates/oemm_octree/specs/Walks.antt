-- A walk along cells that tile a cell.
use Rattle.std.specs.Prelude.{ℕ, zero, suc, Bool, ◌==◌, ◌&&◌, if◌then◌else◌, List, [], ◌∷◌, Option, Some, None}
use Rattle.oemm_octree.specs.declared.cells.Cell.{Cell}
use Rattle.oemm_octree.specs.Leaves.{octants}

abbrev pub same_cell : Cell → Cell → Bool
same_cell c k = (c.depth == k.depth) && ((c.x == k.x) && ((c.y == k.y) && (c.z == k.z)))

-- what is left of the list behind those that tile these cells
abbrev pub walk_each : (Cell → List Cell → Option (List Cell)) → List Cell → List Cell → Option (List Cell)
walk_each f [] cells = Some cells
walk_each f (c ∷ cs) cells = elim (f c cells) [ None ↦ None | Some rest ↦ walk_each f cs rest ]

-- what is left of the list behind those that tile the cell, if its first ones do
unfoldable pub walk : ℕ → Cell → List Cell → Option (List Cell)
walk zero c [] = None
walk zero c (k ∷ cells) = if same_cell c k then Some cells else None
walk (suc n) c [] = None
walk (suc n) c (k ∷ cells) = if same_cell c k then Some cells else walk_each (walk n) (octants c) (k ∷ cells)
