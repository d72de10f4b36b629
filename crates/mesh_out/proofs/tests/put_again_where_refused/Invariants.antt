use Rattle.std.proofs.Common.{◌≡◌, ◌+◌, length}
use Rattle.mesh_out.proofs.tests.put_again_where_refused.Given as goal

abbrev pub invariant-loop-p : goal.invariant-loop-p
invariant-loop-p g l = record {
  vertices : l.out.plan.vertices + l.p-index ≡ length l.points;
  faces : l.out.plan.faces ≡ l.initial.out.plan.faces;
}
