-- What edits keep.
use Rattle.std.specs.Prelude.{◌≡◌, ℕ, List, [], ◌∷◌, map}
use Rattle.mesh_data.specs.declared.edits.Entry.{Entry}
use Rattle.mesh_data.specs.declared.edits.Task.{Task}
use Rattle.oemm_octree.specs.declared.cells.Cell.{Cell}
use Rattle.mesh_data.specs.Manifold.{IsManifold}
use Rattle.mesh_data.specs.Mesh.{Mesh, border, euler}
use Rattle.mesh_data.specs.Work.{do_task}

-- the second mesh is a manifold, with the Euler characteristic and the border of the first
pub record Keeps (m n : Mesh) : Type 0 where
  pub manifold : IsManifold n
  pub same_euler : euler n ≡ euler m
  pub same_border : border n ≡ border m

-- one by one, each of these tasks leaves a manifold with the Euler characteristic and the border that it found
abbrev pub EachKeeps : List Cell → ℕ → Mesh → List Task → Type 0
EachKeeps cells limit m [] = Unit {0}
EachKeeps cells limit m (task ∷ tasks) =
    let after = (do_task cells limit m task).mesh in
    Keeps m after × EachKeeps cells limit after tasks

-- the tasks of a journal
abbrev pub tasks_of : List Entry → List Task
tasks_of journal = map (λ e. e.task) journal
