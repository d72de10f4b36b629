use Rattle.std.proofs.Common.{◌≡◌, ℕ, ◌+◌, ◌<◌, ◌≤◌, [], length, get_or}
use Rattle.std.specs.FinMap as finite
use Rattle.edit_steps.proofs.Vertices.{vertices_from}
use Rattle.mesh_model.proofs.vertex_map.VertexMap.at_points.Given as goal

abbrev pub invariant-loop-last : goal.invariant-loop-last
invariant-loop-last l = record {
  told : l.vertices ≡ vertices_from (λ v. get_or l.fn.planes.items v []) l.points (length l.planes.items);
  left : (v : ℕ) → v < length l.planes.items → get_or l.planes.items v [] ≡ get_or l.fn.planes.items v [];
  within : length l.planes.items ≤ length l.points;
  len : finite.len l.vertices + length l.planes.items ≡ length l.points;
}

abbrev pub decreases-loop-last : goal.decreases-loop-last
decreases-loop-last l = length l.planes.items
