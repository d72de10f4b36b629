-- A fragment as a mesh whose vertices have errors, and what a collapse leaves of it.
use Rattle.std.specs.Prelude.{ℕ, []}
use Rattle.mesh_data.specs.Planes.{sums_value}
use Rattle.sheet_data.specs.declared.patches.Patch.{Patch}
use Rattle.patch_edits.specs.Edits.{collapsed_on}
use Rattle.patch_edits.specs.PatchMesh.{mesh_of, sums_at}
use Rattle.queued_simplify.specs.Errors.{ErrorMesh}
use Rattle.mesh_edits.specs.Fragments.{Fragmented}

-- the mesh of a patch, with the values of its sums as errors
abbrev pub seen_on : Patch → ErrorMesh
seen_on p = record { mesh = mesh_of p; error = λ v at. sums_value (sums_at p.vertices v) at }

-- what a collapse of u onto v leaves
abbrev pub collapsed_in : Fragmented → ℕ → ℕ → Fragmented
collapsed_in f u v = record { patch = collapsed_on f.patch u v; area = f.area }

-- what no collapse changes
abbrev pub kept_of : Fragmented → Fragmented
kept_of f = record { patch = record { vertices = []; whole = []; mixed = f.patch.mixed; near = f.patch.near }; area = f.area }
