use Rattle.std.proofs.Common.{◌≡◌, ℕ, [], length, get_or}
use Rattle.mesh_model.proofs.plane_lists.empty_lists.Given as goal

abbrev pub invariant-loop-place : goal.invariant-loop-place
invariant-loop-place l = record {
  len : length l.lists.items ≡ l._place;
  empty : (v : ℕ) → get_or l.lists.items v [] ≡ [];
}
