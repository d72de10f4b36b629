-- What a build leaves in a store.
use Rattle.std.specs.Prelude.{◌⊎◌, [], length}
use Rattle.oemm_limits.specs.declared.TheConstants.{MOST_LEAVES}
use Rattle.mesh_data.specs.Mesh.{start}
use Rattle.sheet_data.specs.declared.index.IndexSheet.{IndexSheet}
use Rattle.stored_mesh.specs.Stored.{Base, BytesAt, IsSound, IsUnbuilt}
use Rattle.store_spelling.specs.Spelled.{store_spelling}
use Rattle.oemm_build.specs.declared.building.Built.{Built}
use Rattle.oemm_build.specs.Laying.{IsBuiltOver, IsSameButSheets}

-- the numbers of an index, and how many leaves it has
abbrev pub numbers_of : IndexSheet → Built
numbers_of i = record {
  vertices = i.vertices;
  faces = i.faces;
  euler = i.euler;
  border = i.border;
  leaves = length i.cells;
}

-- The index of the base stands there, and the sheets of its start mesh; all else is as it was. So what was unbuilt is
-- sound, with an empty journal.
pub record IsBuiltFrom (b : Base) (at now : BytesAt) : Type 0 where
  pub over : IsBuiltOver b.index (start b.soup) at now
  pub sound : IsUnbuilt at → IsSound store_spelling now b []

-- a crash leaves sheets of version 0 besides what was there, or all that is built from such a base
abbrev pub LeavesBuild : (Base → Type 0) → BytesAt → BytesAt → Type 0
LeavesBuild IsOf at left = IsSameButSheets MOST_LEAVES at left ⊎ ((b : Base) × IsOf b × IsBuiltFrom b at left)
