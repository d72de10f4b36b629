-- Edits give the vertices no more planes, and no larger ones.
use Rattle.std.proofs.Common.{◌≡◌, ℕ, ℤ, Bool, true, false, cond, nat_lt, List, [], ◌∷◌, length, Some, None, ap, refl}
use Rattle.std.specs.Option.{option_map_or}
use Rattle.oemm_octree.specs.declared.points.Point.{Point}
use Rattle.oemm_octree.specs.declared.cells.Cell.{Cell}
use Rattle.mesh_data.specs.declared.edits.Edit.{Edit}
use Rattle.mesh_data.specs.declared.edits.Edit.TheVariants.{Move, Collapse, Flip, Simplify}
use Rattle.mesh_data.specs.declared.edits.Step.{Step}
use Rattle.mesh_data.specs.declared.edits.Task.{Task}
use Rattle.mesh_data.specs.Edits.{is_done, verdict, after, moved, collapsed, flipped, flipped_tris, collapsed_by, simplified, AreLeastSteps, move_verdict, collapse_verdict, flip_verdict}
use Rattle.mesh_data.specs.Links.{opposites}
use Rattle.mesh_data.specs.Mesh.{Mesh}
use Rattle.oemm_octree.specs.Octree.{core_of, area_of, is_inside}
use Rattle.mesh_data.specs.Work.{work, do_task, play, Did, wide_entry}
use Rattle.plane_counts.specs.PlaneCounts.{HasPlanes}
use Rattle.plane_counts.proofs.Shares.{planes_moved, planes_taken_over}
use Rattle.edit_steps.proofs.Simplification.{least_of_all}
use Rattle.edit_steps.proofs.Tried.{held_there}
use Rattle.edit_steps.proofs.Passed.{collapse_passed}

planed_collapse : (inside : Point → Bool) (m : Mesh) (u v : ℕ) (most : ℤ) → is_done (collapse_verdict inside m u v most) ≡ true → HasPlanes m.vertices → HasPlanes (collapsed m u v).vertices
planed_collapse inside m u v most done has =
    let can = (collapse_passed inside m u v most done).pair in
    planes_taken_over m.vertices u v can.apart (held_there inside m v can.onto_held) has

planed_steps : (inside : Point → Bool) (m : Mesh) (most : ℤ) (target : ℕ) (ss : List Step) → AreLeastSteps inside m most target ss → HasPlanes m.vertices → HasPlanes (collapsed_by m ss).vertices
planed_steps inside m most target [] steps has = has
planed_steps inside m most target (s ∷ ss) steps has =
    planed_steps inside (collapsed m s.u s.v) most target ss steps.3 (planed_collapse inside m s.u s.v most (ap is_done steps.1) has)

planed_if : (m n : Mesh) (b : Bool) → HasPlanes m.vertices → (b ≡ true → HasPlanes n.vertices) → HasPlanes (cond b n m).vertices
planed_if m n true has h = h refl
planed_if m n false has h = has

planed_edit : (inside : Point → Bool) (m : Mesh) (e : Edit) → HasPlanes m.vertices → HasPlanes (after m e (verdict inside m e)).vertices
planed_edit inside m (Move v to) has =
    planed_if m (moved m v to) (is_done (move_verdict inside m v to)) has (λ done. planes_moved v to m.vertices (moved m v to).vertices refl has)
planed_edit inside m (Collapse u v most) has =
    planed_if m (collapsed m u v) (is_done (collapse_verdict inside m u v most)) has (λ done. planed_collapse inside m u v most done has)
planed_edit inside m (Flip a b) has =
    planed_if m (flipped m a b) (is_done (flip_verdict inside m a b)) has (λ done.
    elim (opposites m.tris a b) as (λ o. HasPlanes (option_map_or (λ ends. let k : Mesh = record { vertices = m.vertices; tris = flipped_tris a b ends.0 ends.1 m.tris } in k) o m).vertices) [ None ↦ has | Some ends ↦ has ])
planed_edit inside m (Simplify most target) has = planed_steps inside m most target (simplified inside m most target).steps (least_of_all inside m most target) has

pub planed_work : (inside : Point → Bool) (es : List Edit) (m : Mesh) → HasPlanes m.vertices → HasPlanes (work inside m es).mesh.vertices
planed_work inside [] m has = has
planed_work inside (e ∷ es) m has = planed_work inside es (after m e (verdict inside m e)) (planed_edit inside m e has)

-- a task, wide or not
pub planed_task : (cells : List Cell) (limit : ℕ) (m : Mesh) (t : Task) → HasPlanes m.vertices → HasPlanes (do_task cells limit m t).mesh.vertices
planed_task cells limit m t has =
    let core = core_of cells t.low t.high in
    let worked = work (is_inside (area_of cells core)) m t.edits in
    elim (nat_lt limit (length core)) as (λ b. let d : Did = cond b (record { mesh = m; entry = wide_entry t }) (record { mesh = worked.mesh; entry = record { task = t; wide = false; replies = worked.replies; core = core } }) in HasPlanes d.mesh.vertices) [
      | true ↦ has
      | false ↦ planed_work (is_inside (area_of cells core)) t.edits m has
    ]

-- a play
pub planed_play : (cells : List Cell) (limit : ℕ) (tasks : List Task) (m : Mesh) → HasPlanes m.vertices → HasPlanes (play cells limit m tasks).mesh.vertices
planed_play cells limit [] m has = has
planed_play cells limit (t ∷ tasks) m has = planed_play cells limit tasks (do_task cells limit m t).mesh (planed_task cells limit m t has)
