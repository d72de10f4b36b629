-- Edits in a row, tasks and plays keep an oriented 2-manifold, its Euler characteristic and its border.
use Rattle.std.specs.FinMap as finite
use Rattle.std.specs.FinSet as set
use Rattle.collapse_topology.proofs.Meshes.{collapse_keeps}
use Rattle.edit_steps.proofs.Simplification.{least_of_all}
use Rattle.edit_steps.proofs.Vertices.{contains-changed, len-changed}
use Rattle.mesh_data.specs.Keeps.{EachKeeps, Keeps}
use Rattle.flip_topology.proofs.Meshes.{flip_keeps}
use Rattle.mesh_data.specs.Edits.{AreLeastSteps, after, collapse_verdict, collapsed, collapsed_by, flip_verdict, flipped, is_done, move_verdict, moved, simplified, verdict}
use Rattle.mesh_data.specs.Manifold.{IsManifold, IsTriangleOn}
use Rattle.mesh_data.specs.Mesh.{Mesh}
use Rattle.oemm_octree.specs.Octree.{area_of, core_of, is_inside}
use Rattle.mesh_data.specs.Triangles.{undirected_edges}
use Rattle.mesh_data.specs.Work.{Did, do_task, play, wide_entry, work}
use Rattle.mesh_data.specs.declared.edits.Edit.{Edit}
use Rattle.mesh_data.specs.declared.edits.Edit.TheVariants.{Collapse, Flip, Move, Simplify}
use Rattle.mesh_data.specs.declared.edits.Reply.{Reply}
use Rattle.mesh_data.specs.declared.edits.Step.{Step}
use Rattle.mesh_data.specs.declared.edits.Task.{Task}
use Rattle.oemm_octree.specs.declared.cells.Cell.{Cell}
use Rattle.oemm_octree.specs.declared.points.Point.{Point}
use Rattle.mesh_data.specs.declared.geometry.Tri.{Tri}
use Rattle.mesh_data.specs.declared.geometry.Vertex.{Vertex}
use Rattle.std.proofs.Common.{Bool, List, [], ap, cond, false, length, nat_lt, pos, refl, true, ℕ, ℤ, ◌+◌, ◌-ℤ◌, ◌∙◌, ◌∷◌, ◌≡◌}

-- ---- one after another
-- no change, and one after another
pub kept_same : (m : Mesh) → IsManifold m → Keeps m m
kept_same m manifold = record { manifold = manifold; same_euler = refl; same_border = refl }

pub kept_both : (m n k : Mesh) → Keeps m n → Keeps n k → Keeps m k
kept_both m n k f g = record { manifold = g.manifold; same_euler = g.same_euler ∙ f.same_euler; same_border = g.same_border ∙ f.same_border }

-- ---- moves
-- a triangle whose names stay
on_names : (P Q : ℕ → Type 0) (t : Tri) → ((w : ℕ) → P w → Q w) → IsTriangleOn P t → IsTriangleOn Q t
on_names P Q t more is = record { proper = is.proper; is_turned = is.is_turned; a = more t.a is.a; b = more t.b is.b; c = more t.c is.c }

-- a move keeps all but a point
pub move_keeps : (m : Mesh) (v : ℕ) (to : Point) → IsManifold m → Keeps m (moved m v to)
move_keeps m v to manifold =
    let f : Vertex → Vertex = λ x. record x { point = to } in
    let there : (w : ℕ) → finite.contains_key m.vertices w ≡ true → finite.contains_key (moved m v to).vertices w ≡ true = λ w h. contains-changed f v w m.vertices ∙ h in
    let same_len : finite.len (moved m v to).vertices ≡ finite.len m.vertices = len-changed f v m.vertices in
    record {
      manifold = record {
        corners = λ k t lt. on_names (λ w. finite.contains_key m.vertices w ≡ true) (λ w. finite.contains_key (moved m v to).vertices w ≡ true) _ there (manifold.corners k t lt);
        edges = manifold.edges;
        rings = manifold.rings;
      };
      same_euler = ap (λ n. pos (n + length m.tris) -ℤ pos (set.len (undirected_edges m.tris))) same_len;
      same_border = refl;
    }

-- ---- simplifications
-- its collapses, each done at its moment
steps_keep : (inside : Point → Bool) (most : ℤ) (target : ℕ) (ss : List Step) (m : Mesh) → IsManifold m → AreLeastSteps inside m most target ss → Keeps m (collapsed_by m ss)
steps_keep inside most target [] m manifold least = kept_same m manifold
steps_keep inside most target (s ∷ ss) m manifold least =
    let one = collapse_keeps inside m s.u s.v most manifold (ap is_done least.1) in
    kept_both m (collapsed m s.u s.v) (collapsed_by (collapsed m s.u s.v) ss) one (steps_keep inside most target ss (collapsed m s.u s.v) one.manifold least.3)

-- ---- one edit
-- an edit that is refused changes nothing
keeps_if : (m n : Mesh) (r : Reply) → IsManifold m → (is_done r ≡ true → Keeps m n) → Keeps m (cond (is_done r) n m)
keeps_if m n r manifold keeps = elim (is_done r) as (λ b. is_done r ≡ b → Keeps m (cond b n m)) [ true ↦ keeps | false ↦ λ _. kept_same m manifold ] refl

-- each edit
pub edit_keeps : (inside : Point → Bool) (m : Mesh) (e : Edit) → IsManifold m → Keeps m (after m e (verdict inside m e))
edit_keeps inside m (Move v to) manifold = keeps_if m (moved m v to) (move_verdict inside m v to) manifold (λ _. move_keeps m v to manifold)
edit_keeps inside m (Collapse u v most) manifold = keeps_if m (collapsed m u v) (collapse_verdict inside m u v most) manifold (λ done. collapse_keeps inside m u v most manifold done)
edit_keeps inside m (Flip a b) manifold = keeps_if m (flipped m a b) (flip_verdict inside m a b) manifold (λ done. flip_keeps inside m a b manifold done)
edit_keeps inside m (Simplify most target) manifold = steps_keep inside most target (simplified inside m most target).steps m manifold (least_of_all inside m most target)

-- ---- edits in a row, tasks and plays
-- edits in a row
pub work_keeps : (inside : Point → Bool) (m : Mesh) (es : List Edit) → IsManifold m → Keeps m (work inside m es).mesh
work_keeps inside m [] manifold = kept_same m manifold
work_keeps inside m (e ∷ es) manifold =
    let one = edit_keeps inside m e manifold in
    let n = after m e (verdict inside m e) in
    kept_both m n (work inside n es).mesh one (work_keeps inside n es one.manifold)

-- a task, wide or not
pub task_keeps : (cells : List Cell) (limit : ℕ) (m : Mesh) (task : Task) → IsManifold m → Keeps m (do_task cells limit m task).mesh
task_keeps cells limit m task manifold =
    let core = core_of cells task.low task.high in
    let worked = work (is_inside (area_of cells core)) m task.edits in
    elim (nat_lt limit (length core)) as (λ b. Keeps m (cond {A = Did} b (record { mesh = m; entry = wide_entry task }) (record { mesh = worked.mesh; entry = record { task = task; wide = false; replies = worked.replies; core = core } })).mesh) [
      | true ↦ kept_same m manifold
      | false ↦ work_keeps (is_inside (area_of cells core)) m task.edits manifold
    ]

-- the tasks of a play, one by one
pub each_keeps : (cells : List Cell) (limit : ℕ) (m : Mesh) (tasks : List Task) → IsManifold m → EachKeeps cells limit m tasks
each_keeps cells limit m [] manifold = tt
each_keeps cells limit m (task ∷ tasks) manifold =
    let one = task_keeps cells limit m task manifold in
    (one, each_keeps cells limit (do_task cells limit m task).mesh tasks one.manifold)

-- the play from its start to its end
pub play_keeps : (cells : List Cell) (limit : ℕ) (m : Mesh) (tasks : List Task) → IsManifold m → Keeps m (play cells limit m tasks).mesh
play_keeps cells limit m [] manifold = kept_same m manifold
play_keeps cells limit m (task ∷ tasks) manifold =
    let one = task_keeps cells limit m task manifold in
    let n = (do_task cells limit m task).mesh in
    kept_both m n (play cells limit n tasks).mesh one (play_keeps cells limit n tasks one.manifold)
