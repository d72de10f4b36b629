use Rattle.std.proofs.Common.{◌≡◌, ℕ, ◌<◌, [], length, get_or, take}
use Rattle.mesh_data.specs.Mesh.{planes_at}
use Rattle.plane_counts.specs.PlaneCounts.{large_of}
use Rattle.mesh_model.proofs.plane_lists.plane_lists.Given as goal

abbrev pub invariant-loop-t : goal.invariant-loop-t
invariant-loop-t l = record {
  len : length l.lists.items ≡ length l.points;
  bounded : (v : ℕ) → large_of (get_or l.lists.items v []) ≡ 0;
  told : (v : ℕ) → v < length l.points → get_or l.lists.items v [] ≡ planes_at l.points (take l.t-index l.tris) v;
}
