-- What is done by the definition of an edit or of a task, or not at all, keeps a manifold.
use Rattle.std.proofs.Common.{◌≡◌, ℕ, Bool, List, Result, Ok, Err, OnOk, OnErr, sym, subst}
use Rattle.mesh_data.specs.declared.edits.Edit.{Edit}
use Rattle.mesh_data.specs.declared.edits.Task.{Task}
use Rattle.oemm_octree.specs.declared.cells.Cell.{Cell}
use Rattle.oemm_octree.specs.declared.points.Point.{Point}
use Rattle.mesh_data.specs.Edits.{after, verdict}
use Rattle.mesh_data.specs.Keeps.{Keeps}
use Rattle.mesh_data.specs.Manifold.{IsManifold}
use Rattle.mesh_data.specs.Mesh.{Mesh}
use Rattle.mesh_data.specs.Work.{do_task}
use Rattle.work_topology.proofs.WorkKeeps.{kept_same, edit_keeps, task_keeps}

kept_by : {T E : Type 0} (r : Result T E) (m n k : Mesh) → OnOk r (n ≡ k) → OnErr r (n ≡ m) → IsManifold m → Keeps m k → Keeps m n
kept_by (Ok x) m n k made same manifold keeps = subst (Keeps m) (sym made) keeps
kept_by (Err e) m n k made same manifold keeps = subst (Keeps m) (sym same) (kept_same m manifold)

pub edit_kept : {T E : Type 0} (r : Result T E) (inside : Point → Bool) (m n : Mesh) (e : Edit) → OnOk r (n ≡ after m e (verdict inside m e)) → OnErr r (n ≡ m) → IsManifold m → Keeps m n
edit_kept r inside m n e made same manifold = kept_by r m n (after m e (verdict inside m e)) made same manifold (edit_keeps inside m e manifold)

pub task_kept : {T E : Type 0} (r : Result T E) (cells : List Cell) (limit : ℕ) (m n : Mesh) (task : Task) → OnOk r (n ≡ (do_task cells limit m task).mesh) → OnErr r (n ≡ m) → IsManifold m → Keeps m n
task_kept r cells limit m n task made same manifold = kept_by r m n (do_task cells limit m task).mesh made same manifold (task_keeps cells limit m task manifold)
