use Rattle.std.proofs.Common.{ℕ, ◌<◌, get_or}
use Rattle.mesh_data.specs.declared.geometry.Tri.{Tri}
use Rattle.mesh_data.specs.Triangles.{IsBelow}
use Rattle.face_audit.proofs.audit.end_of_names.Given as goal

abbrev pub invariant-loop-t : goal.invariant-loop-t
invariant-loop-t l = (k : ℕ) (d : Tri) → k < l.t-index → IsBelow l.end (get_or l.faces k d)
