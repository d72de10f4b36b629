-- Tasks that go over an octree leaf by leaf.
use Rattle.std.specs.Prelude.{ℕ, ◌+◌, ◌-◌, ◌*◌, ◌%◌, ◌^◌, ◌==◌, min, ℤ, pos, ◌-ℤ◌, List, [], ◌∷◌, length, map, take, count_by, slice_index, slice_index_or}
use Rattle.std.specs.List.{range_with_len}
use Rattle.oemm_octree.specs.declared.points.Point.{Point}
use Rattle.oemm_octree.specs.declared.cells.Cell.{Cell}
use Rattle.oemm_octree.specs.Octree.{root_cell}
use Rattle.mesh_data.specs.declared.edits.Edit.{Edit}
use Rattle.mesh_data.specs.declared.edits.Task.{Task}

-- the first coordinate of the part of an axis at this place: the parts have 2^(16 - depth) coordinates each
unfoldable pub low_end : ℕ → ℕ → ℤ
low_end depth place = pos (place * 2 ^ (16 - depth)) -ℤ pos 32768

-- the first coordinate of the next part, or the last one of the axis
unfoldable pub high_end : ℕ → ℕ → ℤ
high_end depth place = pos (min ((place + 1) * 2 ^ (16 - depth)) 65535) -ℤ pos 32768

-- the low corner of a cell, and its high corner raised by one along each axis, as far as the grid goes
abbrev pub low_corner : Cell → Point
low_corner c = record { x = low_end c.depth c.x; y = low_end c.depth c.y; z = low_end c.depth c.z }

abbrev pub high_corner : Cell → Point
high_corner c = record { x = high_end c.depth c.x; y = high_end c.depth c.y; z = high_end c.depth c.z }

-- the task of one edit in a cell
abbrev pub task_of : Cell → ℕ → ℕ → Edit → Task
task_of c lane number edit =
    record { lane = lane; number = number; low = low_corner c; high = high_corner c; edits = edit ∷ [] }

-- the lane of a leaf's task
abbrev pub lane_of : ℕ → ℕ
lane_of leaf = leaf % 64

-- how many of the leaves have their tasks in a lane
abbrev pub in_lane : ℕ → List ℕ → ℕ
in_lane lane leaves = count_by (λ leaf. lane_of leaf == lane) leaves

-- the cell of a leaf
abbrev pub cell_of : List Cell → ℕ → Cell
cell_of cells leaf = slice_index_or cells leaf root_cell

-- the task of the leaf at a place among leaves: its number is that of the leaves before it in its lane
abbrev pub tile_at : List Cell → List ℕ → Edit → ℕ → Task
tile_at cells leaves edit place =
    let leaf = slice_index leaves place in
    task_of (cell_of cells leaf) (lane_of leaf) (in_lane (lane_of leaf) (take place leaves)) edit

-- the tasks of leaves, one by one
abbrev pub tiles : List Cell → List ℕ → Edit → List Task
tiles cells leaves edit = map (tile_at cells leaves edit) (range_with_len 0 (length leaves))
