-- The leaves of a store that have a vertex, and the tile script over them.
use Rattle.std.specs.Prelude.{ℕ, Bool, ◌==◌, nat_lt, ℤ, List, [], ◌∷◌, ◌++◌, length, if◌then◌else◌, Result, Ok, Err}
use Rattle.std.specs.List.{filter, list_any, range_with_len}
use Rattle.std.specs.FinMap as finite
use Rattle.oemm_octree.specs.declared.cells.Cell.{Cell}
use Rattle.oemm_octree.specs.Leaves.{home}
use Rattle.mesh_data.specs.Mesh.{Mesh}
use Rattle.mesh_data.specs.declared.edits.Edit.TheVariants.{Simplify}
use Rattle.mesh_data.specs.declared.edits.Script.{Script}
use Rattle.sheet_data.specs.declared.index.IndexSheet.{IndexSheet}
use Rattle.sheet_data.specs.declared.sheets.LeafSheet.{LeafSheet}
use Rattle.oemm_blobs.specs.Content.{Content}
use Rattle.oemm_shelf.specs.Readings.{◌>>=◌, current_sheet}
use Rattle.oemm_shelf.specs.declared.fault.ShelfFault.{ShelfFault}
use Rattle.oemm_make.specs.Tiles.{tiles}

-- the leaf, where its sheet has a vertex
abbrev pub held_by : ℕ → LeafSheet → List ℕ
held_by leaf s = if nat_lt 0 (length s.vertices) then leaf ∷ [] else []

-- those of the leaves whose present sheets have a vertex, or the fault of the first that has one
abbrev pub held_leaves : IndexSheet → List ℕ → Content → List ℕ → Result (List ℕ) ShelfFault
held_leaves i versions m [] = Ok []
held_leaves i versions m (leaf ∷ leaves) = do
  s ← current_sheet i versions m leaf
  held ← held_leaves i versions m leaves
  Ok (held_by leaf s ++ held)

-- the tasks of those of all leaves whose present sheets have a vertex, or the fault of the first that has one
abbrev pub tile_script : IndexSheet → List ℕ → Content → ℤ → ℕ → Result Script ShelfFault
tile_script i versions m max target = do
  held ← held_leaves i versions m (range_with_len 0 (length i.cells))
  Ok (record { tasks = tiles i.cells held (Simplify max target) })

-- the leaf is the home of a vertex of the mesh
abbrev pub is_home : List Cell → Mesh → ℕ → Bool
is_home cells m leaf = list_any (λ e. home cells e.1.point == leaf) (finite.entries m.vertices)

-- the leaves in which vertices of the mesh live
abbrev pub homes : List Cell → Mesh → List ℕ
homes cells m = filter (is_home cells m) (range_with_len 0 (length cells))
