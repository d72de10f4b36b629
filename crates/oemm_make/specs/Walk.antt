-- A walk along the sample mesh, item by item.
use Rattle.std.specs.Prelude.{◌≡◌, ℕ, ◌+◌, ◌-◌, ◌*◌, ◌^◌, ◌<◌, ◌≤◌, Bool, true, false, List, ◌∷◌, ◌++◌, map, drop, Option, Some, None, Ok, if◌then◌else◌}
use Rattle.std.specs.List.{range_with_len}
use Rattle.mesh_items.specs.declared.items.Item.{Item}
use Rattle.mesh_items.specs.declared.items.Item.TheVariants.{Counts, Vertex, Face}
use Rattle.mesh_items.specs.Progress.{given_by}
use Rattle.mesh_items.specs.Reading.{Advances, Given, Reading, Reads}
use Rattle.oemm_make.specs.Sample.{faces, vertices_at}
use Rattle.oemm_make.specs.declared.grid.TheConstants.{MOST_SIDE}

-- what was given, and what is left
pub record Walk : Type 0 where
  pub given : Given
  pub reading : Reading

-- how many vertices and faces a sample has
abbrev pub vertex_count : ℕ → ℕ
vertex_count side = side * side

abbrev pub face_count : ℕ → ℕ
face_count side = 2 * (side - 1) * (side - 1)

-- the items behind so many vertices and faces, where the generator made this number last
unfoldable pub rest : ℕ → ℕ → ℕ → List Item
rest side number done =
    map (λ p. Vertex p) (vertices_at side number (range_with_len done (vertex_count side - done)))
    ++ map (λ t. Face t) (drop (done - vertex_count side) (faces side))

-- the counts, unless they were given
abbrev pub counts_then : ℕ → Bool → List Item → List Item
counts_then side true items = items
counts_then side false items = Counts (vertex_count side) (face_count side) ∷ items

abbrev pub reading_left : ℕ → ℕ → Bool → ℕ → Reading
reading_left side number counted done =
    record { items = counts_then side counted (rest side number done); fault = None }

abbrev pub counts_of : ℕ → Bool → Option (ℕ × ℕ)
counts_of side counted = if counted then Some (vertex_count side, face_count side) else None

abbrev pub given_of : ℕ → Bool → ℕ → Given
given_of side counted done = given_by (counts_of side counted) done None

-- a walk that has come so far
abbrev pub walk_of : ℕ → ℕ → Bool → ℕ → Walk
walk_of side number counted done =
    record { given = given_of side counted done; reading = reading_left side number counted done }

-- the side and the generator's number are within their ranges, and no more was given than there is
pub record IsWalk (side number : ℕ) (counted : Bool) (done : ℕ) : Type 0 where
  pub least : 2 ≤ side
  pub most : side ≤ MOST_SIDE
  pub small : number < 2 ^ 31
  pub within : done ≤ vertex_count side + face_count side
  pub first : counted ≡ false → done ≡ 0

-- an item was given, or there was none left
pub record Walks (old : Walk) (item : Option Item) (new : Walk) : Type 0 where
  pub given : Advances old.given (Ok item) new.given
  pub told : Reads (Some old.reading) (Ok item) (Some new.reading)
