-- Edits in a row, tasks, and the play of a list of tasks.
use Rattle.std.specs.Prelude.{ℕ, Bool, true, false, nat_lt, List, [], ◌∷◌, length, if◌then◌else◌}
use Rattle.oemm_octree.specs.declared.points.Point.{Point}
use Rattle.oemm_octree.specs.declared.cells.Cell.{Cell}
use Rattle.mesh_data.specs.declared.edits.Edit.{Edit}
use Rattle.mesh_data.specs.declared.edits.Reply.{Reply}
use Rattle.mesh_data.specs.declared.edits.Task.{Task}
use Rattle.mesh_data.specs.declared.edits.Entry.{Entry}
use Rattle.mesh_data.specs.Mesh.{Mesh}
use Rattle.oemm_octree.specs.Octree.{core_of, area_of, is_inside}
use Rattle.mesh_data.specs.Edits.{verdict, after}

-- a mesh, and the replies of the edits that led to it
pub record Worked : Type 0 where
  pub mesh : Mesh
  pub replies : List Reply

-- the edits in order, each on what the one before left
abbrev pub work : (Point → Bool) → Mesh → List Edit → Worked
work inside m [] = record { mesh = m; replies = [] }
work inside m (e ∷ es) =
    let reply = verdict inside m e in
    let rest = work inside (after m e reply) es in
    record { mesh = rest.mesh; replies = reply ∷ rest.replies }

-- a mesh, and the journal entry of the task that led to it
pub record Did : Type 0 where
  pub mesh : Mesh
  pub entry : Entry

abbrev pub wide_entry : Task → Entry
wide_entry task = record { task = task; wide = true; replies = []; core = [] }

-- The task's edits on the core of its box. One whose core has more leaves than the limit is wide, and changes nothing.
abbrev pub do_task : List Cell → ℕ → Mesh → Task → Did
do_task cells limit m task =
    let core = core_of cells task.low task.high in
    let worked = work (is_inside (area_of cells core)) m task.edits in
    if nat_lt limit (length core) then record { mesh = m; entry = wide_entry task }
    else record { mesh = worked.mesh; entry = record { task = task; wide = false; replies = worked.replies; core = core } }

-- a mesh, and the journal of the tasks that led to it
pub record Played : Type 0 where
  pub mesh : Mesh
  pub journal : List Entry

-- the tasks one by one
abbrev pub play : List Cell → ℕ → Mesh → List Task → Played
play cells limit m [] = record { mesh = m; journal = [] }
play cells limit m (task ∷ tasks) =
    let did = do_task cells limit m task in
    let rest = play cells limit did.mesh tasks in
    record { mesh = rest.mesh; journal = did.entry ∷ rest.journal }
