-- The points and faces of a mesh's source, up to the limits of this command.
use Rattle.std.specs.Prelude.{◌≡◌, ℕ, Bool, List, Result, Ok, Err, if◌then◌else◌}
use Rattle.oemm_limits.specs.declared.TheConstants.{DEFAULT_CAP}
use Rattle.mesh_items.specs.declared.items.MeshFault.{MeshFault}
use Rattle.mesh_items.specs.Reading.{Reading, soup}
use Rattle.mesh_data.specs.declared.geometry.Soup.{Soup}
use Rattle.mesh_soup.specs.Soup as soups
use Rattle.off_reader.specs.Grammar.{off_reading}
use Rattle.ply_reader.specs.Mesh.{begins_as_ply, ply_reading}

-- the reading, which stops at a count of vertices above the limit
abbrev pub limited : Reading → Reading
limited r = soups.limited DEFAULT_CAP r

-- the points and faces of a mesh within the limits
abbrev pub IsSoup : Soup → Type 0
IsSoup s = soups.IsSoup DEFAULT_CAP s

-- what is answered is what the reading leads to
abbrev pub GivesSoup : Result Soup MeshFault → Result Soup MeshFault → Type 0
GivesSoup (Ok s) reading = reading ≡ Ok s
GivesSoup (Err fault) reading = soups.GivesMeshFault fault reading

-- what a mesh's bytes say in binary PLY, or in OFF
abbrev pub reading_in : Bool → List ℕ → Reading
reading_in is_ply bytes = if is_ply then ply_reading bytes else off_reading bytes

-- the points and faces of a mesh's bytes in the format that the first of them tell, or the first fault
unfoldable pub soup_of : List ℕ → Result Soup MeshFault
soup_of bytes = soup (limited (reading_in (begins_as_ply bytes) bytes))
