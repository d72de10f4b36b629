-- The places of names, in a table.
use Rattle.std.specs.Prelude.{◌≡◌, ℕ, ◌<◌, ◌==◌, nat_lt, if◌then◌else◌, Bool, List, length, slice_index}
use Rattle.mesh_data.specs.declared.geometry.Tri.{Tri}
use Rattle.leaf_export.specs.OctreeBytes.{place_in}
use Rattle.leaf_export.specs.declared.places.TheConstants.{NO_PLACE}

-- the place of v among these names, and what stands for none where it isn't one of them
abbrev pub place_or_none : List ℕ → ℕ → ℕ
place_or_none names v = if nat_lt (place_in names v) (length names) then place_in names v else NO_PLACE

-- the table has the place among these names of each name for which it has room
abbrev pub ArePlaces : List ℕ → List ℕ → Type 0
ArePlaces names table = (v : ℕ) → v < length table → slice_index table v ≡ place_or_none names v

-- it has none of this name
abbrev pub lacks : List ℕ → ℕ → Bool
lacks table v = slice_index table v == NO_PLACE

-- the triangle with what it has of its names
abbrev pub looked_up : List ℕ → Tri → Tri
looked_up table t = record { a = slice_index table t.a; b = slice_index table t.b; c = slice_index table t.c }
