-- The sample mesh: a square of vertices over the whole grid, with heights by the numbers of a generator, and two faces
-- between each four neighbours.
use Rattle.std.specs.Prelude.{ℕ, suc, zero, ◌+◌, ◌-◌, ◌*◌, ◌/◌, ◌%◌, ◌^◌, ℤ, pos, ◌-ℤ◌, ◌*ℤ◌, List, [], ◌∷◌}
use Rattle.std.specs.List.{flat_map, range_with_len}
use Rattle.oemm_octree.specs.declared.points.Point.{Point}
use Rattle.mesh_data.specs.declared.geometry.Tri.{Tri}

-- half the distance of neighbouring vertices along an axis
abbrev pub half_step : ℕ → ℕ
half_step side = 32767 / (side - 1)

-- the coordinate at a place along an axis: the places lie one step apart, round the middle of the axis
unfoldable pub coordinate : ℕ → ℕ → ℤ
coordinate side place = pos (half_step side) *ℤ (pos (2 * place + 1) -ℤ pos side)

-- the number that the generator makes after this one
abbrev pub next_random : ℕ → ℕ
next_random number = (number * 1103515245 + 12345) % 2 ^ 31

-- the number that it makes of a seed after so many steps
abbrev pub random : ℕ → ℕ → ℕ
random seed zero = seed
random seed (suc steps) = next_random (random seed steps)

-- the height for a number of the generator
abbrev pub height : ℕ → ℤ
height number = pos (number / 65536 % 33) -ℤ pos 16

-- the vertex at a place, row by row, with the height for this number
abbrev pub vertex : ℕ → ℕ → ℕ → Point
vertex side place number =
    record { x = coordinate side (place % side); y = coordinate side (place / side); z = height number }

-- the vertices at these places, where the generator made this number last: each takes the next number
abbrev pub vertices_at : ℕ → ℕ → List ℕ → List Point
vertices_at side number [] = []
vertices_at side number (place ∷ places) =
    let next = next_random number in vertex side place next ∷ vertices_at side next places

-- the vertices, row by row
abbrev pub points : ℕ → ℕ → List Point
points side seed = vertices_at side seed (range_with_len 0 (side * side))

-- the two faces between a vertex, its neighbours in the row and the column, and the vertex across
abbrev pub faces_at : ℕ → ℕ → List Tri
faces_at side corner =
    record { a = corner; b = corner + 1; c = corner + side }
    ∷ record { a = corner + 1; b = corner + side + 1; c = corner + side } ∷ []

-- the faces, row by row: those of each vertex that is neither the last of its row nor in the last row
unfoldable pub faces : ℕ → List Tri
faces side =
    flat_map (λ row. flat_map (λ column. faces_at side (row * side + column)) (range_with_len 0 (side - 1)))
    (range_with_len 0 (side - 1))
