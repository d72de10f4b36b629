-- The phase that does the tasks.
use Rattle.std.specs.Prelude.{◌≡◌, ℕ, List, ⊤}
use Rattle.oemm_octree.specs.declared.cells.Cell.{Cell}
use Rattle.mesh_data.specs.declared.geometry.Soup.{Soup}
use Rattle.mesh_data.specs.declared.edits.Task.{Task}
use Rattle.mesh_data.specs.declared.edits.Entry.{Entry}
use Rattle.mesh_data.specs.Keeps.{tasks_of}
use Rattle.mesh_data.specs.Mesh.{start}
use Rattle.mesh_data.specs.Work.{Played, play}
use Rattle.oemm_run.specs.declared.end.End.{End}
use Rattle.oemm_run.specs.declared.end.End.TheVariants.{Memory}

-- the journal has these tasks, each once and in their order
abbrev pub InScriptOrder : List Task → List Entry → Type 0
InScriptOrder tasks journal = tasks_of journal ≡ tasks

-- the tasks one by one on the start mesh, over the octree of these leaves, each where its core has no more leaves than
-- the limit
unfoldable pub played : List Cell → ℕ → Soup → List Task → Played
played cells limit s tasks = play cells limit (start s) tasks

-- the tasks were done: the journal keeps them in its way, and the mesh and the journal are what the journal's tasks
-- give, one by one in its order on the start mesh
pub record HasPlayed (Keeps : List Task → List Entry → Type 0) (cells : List Cell) (limit : ℕ) (s : Soup) (tasks : List Task) (p : Played) : Type 0 where
  pub kept : Keeps tasks p.journal
  pub one_by_one : played cells limit s (tasks_of p.journal) ≡ p

-- memory was wanting
abbrev pub TasksStop : End → Type 0
TasksStop Memory = ⊤
TasksStop end = ⊥
