-- One task more of a play, and what tasks leave of a mesh.
use Rattle.std.proofs.Common.{◌≡◌, ℕ, Bool, true, false, cond, nat_lt, List, [], ◌∷◌, ◌++◌, length, sym, ap, refl, subst}
use Rattle.oemm_octree.specs.declared.points.Point.{Point}
use Rattle.oemm_octree.specs.declared.cells.Cell.{Cell}
use Rattle.mesh_data.specs.declared.geometry.Soup.{Soup}
use Rattle.mesh_data.specs.declared.edits.Edit.{Edit}
use Rattle.mesh_data.specs.declared.edits.Task.{Task}
use Rattle.mesh_data.specs.Manifold.{IsManifold}
use Rattle.mesh_data.specs.Mesh.{Mesh, start}
use Rattle.oemm_octree.specs.Octree.{core_of, area_of, is_inside}
use Rattle.mesh_data.specs.Work.{work, do_task, play, Did, Played, wide_entry}
use Rattle.oemm_octree.specs.Leaves.{AreTiles, is_one_of, AreBelow}
use Rattle.mesh_sheets.specs.Sheets.{sheet, patch, AreApart}
use Rattle.mesh_sheets.proofs.Leaves.{none_at}
use Rattle.mesh_sheets.specs.Clean.{IsClean}
use Rattle.oemm_octree.proofs.CoreHomes.{core_below}
use Rattle.oemm_octree.proofs.Tilings.{area_is_core}
use Rattle.sheet_frame.proofs.Rest.{SameRest, sheet_same, patch_same}
use Rattle.sheet_frame.proofs.Cleans.{LeavesClean, both_clean, clean_work, same_clean}
use Rattle.sheet_frame.proofs.Rows.{frame_work}
use Rattle.work_topology.proofs.Ordered.{start_ordered}
use Rattle.work_topology.specs.Ordered.{IsOrderedManifold}

-- a play of one task more
pub play_push : (cells : List Cell) (limit : ℕ) (m : Mesh) (tasks : List Task) (t : Task)
    → let p = play cells limit m tasks in
    let d = do_task cells limit p.mesh t in
    play cells limit m (tasks ++ t ∷ []) ≡ record { mesh = d.mesh; journal = p.journal ++ d.entry ∷ [] }
play_push cells limit m [] t = refl
play_push cells limit m (x ∷ tasks) t =
    let did = do_task cells limit m x in
    ap (λ (p : Played). let q : Played = record { mesh = p.mesh; journal = did.entry ∷ p.journal } in q) (play_push cells limit did.mesh tasks t)

-- the entry of a task has the task
pub entry_task : (cells : List Cell) (limit : ℕ) (m : Mesh) (t : Task) → (do_task cells limit m t).entry.task ≡ t
entry_task cells limit m t =
    let core = core_of cells t.low t.high in
    let worked = work (is_inside (area_of cells core)) m t.edits in
    elim (nat_lt limit (length core)) as (λ b. let d : Did = cond b (record { mesh = m; entry = wide_entry t }) (record { mesh = worked.mesh; entry = record { task = t; wide = false; replies = worked.replies; core = core } }) in d.entry.task ≡ t) [
      | true ↦ refl
      | false ↦ refl
    ]

-- edits on the cells of a core
pub framed_by : (cells : List Cell) (core : List ℕ) (m : Mesh) (es : List Edit) → AreTiles cells → AreBelow (length cells) core → IsClean m
    → SameRest cells core m (work (is_inside (area_of cells core)) m es).mesh
framed_by cells core m es tiles below clean =
    let none = none_at (length cells) core below in
    subst (λ (area : Point → Bool). SameRest cells core m (work area m es).mesh) (sym (area_is_core cells core tiles below)) (frame_work cells core none es m clean)

-- ---- tasks

-- a task leaves a clean mesh, with no more triangles
pub clean_task : (cells : List Cell) (limit : ℕ) (m : Mesh) (t : Task) → IsClean m → LeavesClean m (do_task cells limit m t).mesh
clean_task cells limit m t clean =
    let core = core_of cells t.low t.high in
    let worked = work (is_inside (area_of cells core)) m t.edits in
    elim (nat_lt limit (length core)) as (λ b. let d : Did = cond b (record { mesh = m; entry = wide_entry t }) (record { mesh = worked.mesh; entry = record { task = t; wide = false; replies = worked.replies; core = core } }) in LeavesClean m d.mesh) [
      | true ↦ same_clean m clean
      | false ↦ clean_work (is_inside (area_of cells core)) t.edits m clean
    ]

-- what is so of each triangle that isn't wholly in the core of its entry stays: the sheets of all other leaves, and the
-- patches of the cores apart from it
pub record TaskLeaves (cells : List Cell) (m n : Mesh) (core : List ℕ) : Type 0 where
  pub sheets : (leaf : ℕ) → is_one_of core leaf ≡ false → sheet cells m leaf ≡ sheet cells n leaf
  pub patches : (other : List ℕ) → AreApart core other → patch cells m other ≡ patch cells n other

pub task_leaves : (cells : List Cell) (limit : ℕ) (m : Mesh) (t : Task) → AreTiles cells → IsClean m
    → let d = do_task cells limit m t in TaskLeaves cells m d.mesh d.entry.core
task_leaves cells limit m t tiles clean =
    let core = core_of cells t.low t.high in
    let worked = work (is_inside (area_of cells core)) m t.edits in
    elim (nat_lt limit (length core)) as (λ b. let d : Did = cond b (record { mesh = m; entry = wide_entry t }) (record { mesh = worked.mesh; entry = record { task = t; wide = false; replies = worked.replies; core = core } }) in TaskLeaves cells m d.mesh d.entry.core) [
      | true ↦ record { sheets = λ leaf out. refl; patches = λ other apart. refl }
      | false ↦
          let below = core_below cells t.low t.high in
          let rest = framed_by cells core m t.edits tiles below clean in
          record { sheets = sheet_same cells core m worked.mesh rest; patches = patch_same cells core m worked.mesh rest }
    ]

-- tasks leave a clean mesh, with no more triangles
pub clean_play : (cells : List Cell) (limit : ℕ) (tasks : List Task) (m : Mesh) → IsClean m → LeavesClean m (play cells limit m tasks).mesh
clean_play cells limit [] m clean = same_clean m clean
clean_play cells limit (t ∷ tasks) m clean =
    let n = (do_task cells limit m t).mesh in
    let one = clean_task cells limit m t clean in
    both_clean m n (play cells limit n tasks).mesh one (clean_play cells limit tasks n one.clean)

-- ---- manifolds

-- a manifold whose triangles stand in order is clean, as the start mesh of a manifold is
pub ordered_clean : (m : Mesh) → IsOrderedManifold m → IsClean m
ordered_clean m good = record { sorted = good.sorted; corners = good.manifold.corners }

pub start_clean : (s : Soup) → IsManifold (start s) → IsClean (start s)
start_clean s manifold = ordered_clean (start s) (start_ordered s manifold)
