-- What the phase of the tasks gives.
use Rattle.std.proofs.Common.{◌≡◌, ℕ, Bool, true, false, nat_lt, List, [], ◌∷◌, length, if◌then◌else◌, refl, ap, ◌∙◌}
use Rattle.oemm_octree.specs.declared.cells.Cell.{Cell}
use Rattle.mesh_data.specs.declared.geometry.Soup.{Soup}
use Rattle.mesh_data.specs.declared.edits.Task.{Task}
use Rattle.mesh_data.specs.Mesh.{Mesh, start}
use Rattle.oemm_octree.specs.Octree.{core_of, area_of, is_inside}
use Rattle.mesh_data.specs.Work.{Did, Played, do_task, play, wide_entry, work}
use Rattle.mesh_data.specs.Keeps.{tasks_of}
use Rattle.oemm_run.specs.Phases.Tasks.{InScriptOrder, HasPlayed, played}

chosen_task : (wide : Bool) (x y : Did) (task : Task) → x.entry.task ≡ task → y.entry.task ≡ task → (if wide then x else y).entry.task ≡ task
chosen_task true x y task p q = p
chosen_task false x y task p q = q

-- a task's entry is of that task
entry_task : (cells : List Cell) (limit : ℕ) (m : Mesh) (task : Task) → (do_task cells limit m task).entry.task ≡ task
entry_task cells limit m task =
    let core = core_of cells task.low task.high in
    let worked = work (is_inside (area_of cells core)) m task.edits in
    chosen_task (nat_lt limit (length core)) (record { mesh = m; entry = wide_entry task })
    (record { mesh = worked.mesh; entry = record { task = task; wide = false; replies = worked.replies; core = core } }) task refl refl

-- the journal of a play has its tasks
journal_tasks : (cells : List Cell) (limit : ℕ) (m : Mesh) (tasks : List Task) → tasks_of (play cells limit m tasks).journal ≡ tasks
journal_tasks cells limit m [] = refl
journal_tasks cells limit m (task ∷ tasks) =
    let did = do_task cells limit m task in
    ap (λ t. t ∷ tasks_of (play cells limit did.mesh tasks).journal) (entry_task cells limit m task)
    ∙ ap (λ ts. task ∷ ts) (journal_tasks cells limit did.mesh tasks)

-- the play of the tasks is what the phase gives
pub has_played : (cells : List Cell) (limit : ℕ) (s : Soup) (tasks : List Task) → HasPlayed InScriptOrder cells limit s tasks (play cells limit (start s) tasks)
unfolding played
has_played cells limit s tasks =
    let same = journal_tasks cells limit (start s) tasks in
    record { kept = same; one_by_one = ap (play cells limit (start s)) same }
